use Rattle.std.proofs.Common.{◌≡◌, [], ap, sym, subst, ◌∙◌}
use Rattle.op_graph.specs.Rules.{IsGraph}
use Rattle.graph_passes.specs.Folding.{folded, folded_after, NoneFolds}
use Rattle.graph_passes.specs.SameRun.{MeansAs}
use Rattle.graph_passes.proofs.Folds.{folded_means, none_folds}
use Rattle.graph_passes.proofs.FoldedGraph.{folded_is_graph}
use Rattle.graph_passes.proofs.folding.fold.Goals as goal

pub with_operations-requires : goal.with_operations-requires
with_operations-requires c =
    let g = c.args.graph in
    let graph = c.operations.ensures.rules in
    let ops = c.in_ok-operations.ensures ∙ ap (folded_after []) c.operations.ensures.list in
    subst (λ ops. IsGraph (record g { operations = ops })) (sym ops) (folded_is_graph g graph)

pub returns : goal.returns
returns c =
    let g = c.args.graph in
    let ops = c.in_ok-operations.ensures ∙ ap (folded_after []) c.operations.ensures.list in
    let is : c.with_operations.result ≡ folded g = c.with_operations.ensures ∙ ap (λ ops. record g { operations = ops }) ops in
    record {
      folded = is;
      means = subst (MeansAs g) (sym is) (folded_means g);
      none_left = subst NoneFolds (sym is) (λ i op there. none_folds g.operations i op there);
    }
