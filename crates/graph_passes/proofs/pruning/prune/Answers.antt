use Rattle.std.proofs.Common.{List, map, ap, subst, arith, length}
use Rattle.std.proofs.lemmas.Result.{IfOk-from_err}
use Rattle.op_graph.specs.declared.op.Loaded.{Loaded}
use Rattle.graph_passes.specs.Folding.{NoneFolds}
use Rattle.graph_passes.specs.Pruning.{IsPruned, NonePrunes}
use Rattle.graph_passes.specs.SameRun.{MeansAs}
use Rattle.graph_passes.specs.Sharing.{NoneShares}
use Rattle.graph_passes.specs.Tables.{IsNumbered, marked}
use Rattle.graph_passes.proofs.InOrder.{holds}
use Rattle.graph_passes.proofs.Needing.{needed_part, tables_needed}
use Rattle.graph_passes.proofs.pruning.prune.Goals as goal

pub kept_cells-requires : goal.kept_cells-requires
kept_cells-requires c = omega (arith, ap length c.loads.ensures, c.len-operations.ensures.rules.part.few_cells)

pub part-requires : goal.part-requires
part-requires c =
    let g = c.args.graph in
    let graph = c.len-operations.ensures.rules in
    let needed = c.in_ok-operations.ensures in
    let cells = subst (λ (ls : List Loaded). IsNumbered (map (λ (l : Loaded). marked c.deref.result.now l.load) ls) c.in_ok-cells.cells) c.loads.ensures
    c.in_ok-cells.ensures in
    let tables = tables_needed g c.in_ok-operations.operations c.in_ok-cells.cells _ _ needed.needed needed.numbered c.deref.ensures.value cells in
    let pruned = needed_part c.entries_keep_their_rules.ensures c.entries_are_found_by_one_walk.ensures g graph _ _ _ _ tables in
    c.what_is_needed_means_the_same.ensures.graph g _ graph pruned

pub returns-in_err-operations : goal.returns-in_err-operations
returns-in_err-operations c =
    let e = c.from_residual.ensures.0 in
    record {
      pruned = IfOk-from_err c.from_residual.result _ e;
      means = IfOk-from_err c.from_residual.result _ e;
      none_left = IfOk-from_err c.from_residual.result _ e;
      folds_none = λ none. IfOk-from_err c.from_residual.result _ e;
      shares_none = λ none. IfOk-from_err c.from_residual.result _ e;
    }

pub returns-in_err-cells : goal.returns-in_err-cells
returns-in_err-cells c =
    let e = c.from_residual-in_err-cells.ensures.0 in
    record {
      pruned = IfOk-from_err c.from_residual-in_err-cells.result _ e;
      means = IfOk-from_err c.from_residual-in_err-cells.result _ e;
      none_left = IfOk-from_err c.from_residual-in_err-cells.result _ e;
      folds_none = λ none. IfOk-from_err c.from_residual-in_err-cells.result _ e;
      shares_none = λ none. IfOk-from_err c.from_residual-in_err-cells.result _ e;
    }

pub returns : goal.returns
returns c =
    let g = c.args.graph in
    let graph = c.len-operations.ensures.rules in
    let needed = c.in_ok-operations.ensures in
    let cells = subst (λ (ls : List Loaded). IsNumbered (map (λ (l : Loaded). marked c.deref.result.now l.load) ls) c.in_ok-cells.cells) c.loads.ensures
    c.in_ok-cells.ensures in
    let tables = tables_needed g c.in_ok-operations.operations c.in_ok-cells.cells _ _ needed.needed needed.numbered c.deref.ensures.value cells in
    let pruned = needed_part c.entries_keep_their_rules.ensures c.entries_are_found_by_one_walk.ensures g graph _ _ _ _ tables in
    let law = c.what_is_needed_means_the_same.ensures in
    let r = c.part.result in
    let is = c.part.ensures in
    record {
      pruned = holds (IsPruned g) r _ is pruned;
      means = holds (MeansAs g) r _ is (law.means g _ graph pruned);
      none_left = holds NonePrunes r _ is (law.none_left g _ graph pruned);
      folds_none = λ none. holds NoneFolds r _ is (law.folds_none g _ graph pruned none);
      shares_none = λ none. holds NoneShares r _ is (law.shares_none g _ graph pruned none);
    }
