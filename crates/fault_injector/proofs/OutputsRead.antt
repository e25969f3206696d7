-- OutputsRead: the values of a cycle's outputs, and what its end tells of them.
use Rattle.std.proofs.Common.{◌≡◌, ℕ, zero, suc, Bool, true, false, cond, List, [], ◌∷◌, length, map, slice_get, Option, Some, None, ℤ, refl, ap}
use Rattle.vcp_base.specs.declared.code.Profile.{Profile}
use Rattle.vcp_base.specs.declared.kind.StopKind.{StopKind}
use Rattle.vcp_base.specs.declared.kind.StopKind.TheVariants as stop
use Rattle.vcp_base.specs.Types.{fits}
use Rattle.coded_unit.specs.declared.call.Answer.{Answer}
use Rattle.coded_unit.specs.declared.call.Answer.TheVariants as answer
use Rattle.coded_unit.specs.Words.{value_part}
use Rattle.op_graph.specs.declared.op.Outlet.{Outlet}
use Rattle.op_graph.specs.Lists.{Lists}
use Rattle.signature_table.specs.Signatures.{Numbers}
use Rattle.coded_machine.specs.declared.cycle_end.CycleEnd.{CycleEnd}
use Rattle.coded_machine.specs.declared.cycle_end.CycleEnd.TheVariants as end
use Rattle.coded_machine.specs.Calls.{word_at}
use Rattle.coded_machine.specs.CycleEnds.{end_of, end_or, first_stop, first_outside, first_refused, outputs_of}
use Rattle.fault_injector.specs.Reruns.{stop_in}

map_there : (f : Outlet → ℤ) (os : List Outlet) (i : ℕ) (o : Outlet) → slice_get os i ≡ Some o → slice_get (map f os) i ≡ Some (f o)
map_there f [] i o there = absurd cc
map_there f (p ∷ os) zero o there = let same : p ≡ o = cc in ap (λ (x : Outlet). Some (f x)) same
map_there f (p ∷ os) (suc i) o there = map_there f os i o there

pub value_there : (g : Lists) (answers : List Answer) (i : ℕ) (o : Outlet) → slice_get g.outputs i ≡ Some o
    → slice_get (outputs_of g answers) i ≡ Some (value_part g.profile (word_at answers o.op))
value_there g answers i o there = map_there (λ (o : Outlet). value_part g.profile (word_at answers o.op)) g.outputs i o there

map_count : (f : Outlet → ℤ) (os : List Outlet) → length (map f os) ≡ length os
map_count f [] = refl
map_count f (o ∷ os) = ap suc (map_count f os)

pub values_count : (g : Lists) (answers : List Answer) → length (outputs_of g answers) ≡ length g.outputs
values_count g answers = map_count (λ (o : Outlet). value_part g.profile (word_at answers o.op)) g.outputs

-- ---- where no stop is read off a cycle, no output is outside its type

past_stop : (k : ℕ) (answers : List Answer) (later : CycleEnd) → stop_in (end_or (first_stop k answers) later) ≡ None → stop_in later ≡ None
past_stop k [] later none = none
past_stop k (answer.Word w ∷ answers) later none = past_stop (suc k) answers later none
past_stop k _ later none = absurd cc

inside_first : (b : Bool) (more : Option CycleEnd) (k : ℕ) (why : StopKind) (later : CycleEnd) → (stop_in (end_or more later) ≡ None → more ≡ None)
    → stop_in (end_or (cond b more (Some (end.Stopped k why))) later) ≡ None → cond b more (Some (end.Stopped k why)) ≡ None
inside_first true more k why later rest none = rest none
inside_first false more k why later rest none = absurd cc

past_outside : (p : Profile) (answers : List Answer) (outputs : List Outlet) (later : CycleEnd)
    → stop_in (end_or (first_outside p answers outputs) later) ≡ None → first_outside p answers outputs ≡ None
past_outside p answers [] later none = refl
past_outside p answers (o ∷ outputs) later none =
    inside_first (fits o.ty (value_part p (word_at answers o.op))) (first_outside p answers outputs) o.op stop.Operand later
    (past_outside p answers outputs later) none

pub none_outside : (g : Lists) (t : Numbers) (n : ℕ) (answers : List Answer) → stop_in (end_of g t n answers) ≡ None
    → first_outside g.profile answers g.outputs ≡ None
none_outside g t n answers none =
    let later : CycleEnd = end_or (first_refused g.profile t n answers 0 g.outputs) end.Released in
    past_outside g.profile answers g.outputs later (past_stop 0 answers (end_or (first_outside g.profile answers g.outputs) later) none)
