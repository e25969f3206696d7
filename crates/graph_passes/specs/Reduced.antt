-- Reduced: what the three passes leave of a graph, of which no pass leaves less.
use Rattle.op_graph.specs.Lists.{Lists}
use Rattle.graph_passes.specs.Folding.{folded, NoneFolds}
use Rattle.graph_passes.specs.Pruning.{IsPruned, NonePrunes}
use Rattle.graph_passes.specs.Sharing.{IsShared, NoneShares}

-- nothing is left that `fold` replaces, `share` joins or `prune` does not keep
pub record IsReduced (g : Lists) : Type 0 where
  pub folds : NoneFolds g
  pub shares : NoneShares g
  pub prunes : NonePrunes g

-- graph h is graph g folded, then shared, and then pruned
pub record IsReductionOf (g h : Lists) : Type 0 where
  pub joined : Lists
  pub shared : IsShared (folded g) joined
  pub pruned : IsPruned joined h
