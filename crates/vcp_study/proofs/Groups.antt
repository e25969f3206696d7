-- Groups: those of a script.
use Rattle.std.proofs.Common.{◌≡◌, ℕ, List, slice_get, All, Some, subst}
use Rattle.std.proofs.lemmas.List.Elements.{All-get_or}
use Rattle.std.proofs.lemmas.Option.{get_or_from_slice_get, slice_get_within}
use Rattle.op_graph.specs.Lists.{Lists}
use Rattle.fault_script.specs.declared.act.Fault.{Fault}
use Rattle.fault_script.specs.Groups.{Apart, GroupFits}

-- no two faults of a group of a script stand at one place
pub group_is_apart : (g : Lists) (script : List (List Fault)) (i : ℕ) (f : List Fault) → slice_get script i ≡ Some f
    → All (GroupFits g) script → Apart f
group_is_apart g script i f there all =
    let fits : GroupFits g f =
    subst (GroupFits g) (get_or_from_slice_get script i f f there) (All-get_or (GroupFits g) script i f (slice_get_within script i f there) all) in
    fits.apart
