use Rattle.std.proofs.Common.{◌*ℤ◌, ap, ◌∙◌}
use Rattle.std.proofs.lemmas.Option.{slice_get_within}
use Rattle.vcp_base.specs.Values.{at}
use Rattle.weight_audit.specs.Weights.{sums}
use Rattle.fault_cover.proofs.NoDifference.{no_difference, one_difference}
use Rattle.fault_cover.proofs.Owning.{adds_alone}
use Rattle.fault_cover.proofs.laws.the_first_act_comes_alone.Goals as goal

pub returns : goal.returns
returns c = λ t g acts n k h q op a graph there first before alone nearer.
    let e = c.differences_are_superposed.ensures in
    one_difference t g acts (e.sum t g graph) (e.own t g graph) (e.unreached g graph) n k h q (slice_get_within g.operations k op there) before alone nearer
    ∙ ap (λ z. at (sums g q h) k *ℤ z)
    (adds_alone t g acts n k (λ r i j reads. c.operands_are_there.ensures.earlier g r i j graph.part reads) before alone
    (λ m r untouched. no_difference t g acts (e.sum t g graph) (e.own t g graph) (e.unreached g graph) m r untouched) op a there first)
