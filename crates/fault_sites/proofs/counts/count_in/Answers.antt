use Rattle.std.proofs.Common.{◌≡◌, ◌-◌, length, refl, ap}
use Rattle.fault_sites.specs.declared.part.Part.{Part}
use Rattle.fault_sites.specs.Sites.{sites_in}
use Rattle.fault_sites.proofs.Few.{counted, cycle_few}
use Rattle.fault_sites.proofs.Going.{tells_same}
use Rattle.fault_sites.proofs.Rows.{class_sites}
use Rattle.fault_sites.proofs.counts.count_in.Goals as goal

pub returns : goal.returns
returns c =
    let a = c.args in
    let xs = sites_in a.class a.graph.now 1 in
    let left : c.then_acts.result.part.skip ≡ 18446744073709551615 - length xs =
    ap (λ (p : Part). p.skip) (tells_same c.then_acts.ensures (class_sites a.class a.graph.now 1 refl)).left in
    counted xs c.then_acts.result.part.skip (cycle_few a.class a.graph.now 1 c.len-operations.ensures.rules.part.few_operations) left
