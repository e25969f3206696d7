use Rattle.graph_passes.proofs.InOrder.{means_on, means_after, reduced_by, reduction_by}
use Rattle.graph_passes.proofs.reducing.reduce.Goals as goal

pub returns : goal.returns
returns c =
    let f = c.in_ok-folded.ensures in
    let s = c.in_ok-shared.ensures in
    let p = c.prune.ensures in
    record {
      passes = reduction_by _ _ _ c.prune.result f.folded s.shared p.pruned;
      means = means_after _ _ c.prune.result (means_on _ _ _ f.means s.means) p.means;
      reduced = reduced_by c.prune.result (p.folds_none (s.folds_none f.none_left)) (p.shares_none s.none_left) p.none_left;
    }
