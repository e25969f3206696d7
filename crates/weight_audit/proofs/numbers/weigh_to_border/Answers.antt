use Rattle.std.proofs.Common.{length, sym, subst}
use Rattle.vcp_base.specs.Values.{at}
use Rattle.op_graph.specs.Lists.{cells}
use Rattle.weight_audit.specs.Weights.{sums, across, weights_from}
use Rattle.weight_audit.specs.Sweeping.{AreResidues}
use Rattle.weight_audit.proofs.numbers.weigh_to_border.Goals as goal

pub returns : goal.returns
returns c = record {
  are = λ out borders are.
      let g = c.args.graph.now in
      let count = length g.operations in
      let later = subst (λ q. AreResidues q count (at (sums g out borders)) c.args.later.now) (sym c.requires.profile) are in
      subst (λ q. AreResidues q count (at (weights_from (across (cells g) (sums g out borders)) 0 g.operations)) c.sweep.new.numbers) c.requires.profile
      (c.sweep.ensures (across (cells g) (sums g out borders)) (c.weigh_stores.ensures.residues (sums g out borders) later));
}
