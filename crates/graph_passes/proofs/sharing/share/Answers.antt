use Rattle.std.proofs.Common.{arith}
use Rattle.graph_passes.specs.Folding.{NoneFolds}
use Rattle.graph_passes.specs.Sharing.{IsShared, NoneShares}
use Rattle.graph_passes.specs.SameRun.{MeansAs}
use Rattle.graph_passes.proofs.InOrder.{holds}
use Rattle.graph_passes.proofs.SharedPart.{shared_by_places}
use Rattle.graph_passes.proofs.sharing.share.Goals as goal

pub all_kept-requires : goal.all_kept-requires
all_kept-requires c = omega (arith, c.cells.ensures.loads, c.len-operations.ensures.rules.part.few_cells)

pub part-requires : goal.part-requires
part-requires c =
    let g = c.args.graph in
    let graph = c.len-operations.ensures.rules in
    let shared = shared_by_places c.entries_keep_their_rules.ensures c.entries_are_found_by_one_walk.ensures g graph c.in_ok-operations.operations c.in_ok-cells.cells _ c.in_ok-operations.ensures
    c.cells.ensures.loads c.in_ok-cells.ensures in
    c.what_is_shared_means_the_same.ensures.graph g _ graph shared

pub returns : goal.returns
returns c =
    let g = c.args.graph in
    let graph = c.len-operations.ensures.rules in
    let shared = shared_by_places c.entries_keep_their_rules.ensures c.entries_are_found_by_one_walk.ensures g graph c.in_ok-operations.operations c.in_ok-cells.cells _ c.in_ok-operations.ensures
    c.cells.ensures.loads c.in_ok-cells.ensures in
    let law = c.what_is_shared_means_the_same.ensures in
    let r = c.part.result in
    let is = c.part.ensures in
    record {
      shared = holds (IsShared g) r _ is shared;
      means = holds (MeansAs g) r _ is (law.means g _ graph shared);
      none_left = holds NoneShares r _ is (law.none_left g _ graph shared);
      folds_none = λ none. holds NoneFolds r _ is (law.folds_none g _ graph shared none);
    }
