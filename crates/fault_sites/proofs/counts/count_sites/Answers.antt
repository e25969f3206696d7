use Rattle.std.proofs.Common.{◌≡◌, ◌-◌, length, ap}
use Rattle.fault_sites.specs.declared.part.Part.{Part}
use Rattle.fault_sites.specs.Sites.{sites}
use Rattle.fault_sites.proofs.Few.{counted, sites_few}
use Rattle.fault_sites.proofs.counts.count_sites.Goals as goal

pub returns : goal.returns
returns c =
    let a = c.args in
    let xs = sites a.classes a.graph.now a.cycles in
    let left : c.then_sites.result.part.skip ≡ 18446744073709551615 - length xs = ap (λ (p : Part). p.skip) c.then_sites.ensures.left in
    counted xs c.then_sites.result.part.skip (sites_few a.classes a.graph.now a.cycles c.len-operations.ensures.rules.part.few_operations c.requires) left
