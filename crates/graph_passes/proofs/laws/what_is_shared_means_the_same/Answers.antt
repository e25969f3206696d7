use Rattle.graph_passes.proofs.Pruned.{PartLaws}
use Rattle.graph_passes.proofs.Shared.{shared_graph, shared_means, shared_none_left, shared_folds_none}
use Rattle.graph_passes.proofs.laws.what_is_shared_means_the_same.Goals as goal

pub returns : goal.returns
returns c =
    let laws : PartLaws = record {
      entries = c.entries_keep_their_rules.ensures;
      walks = c.entries_are_found_by_one_walk.ensures;
      means = c.closed_parts_mean_the_same.ensures;
      graph = c.closed_parts_are_graphs.ensures;
      earlier = c.operands_are_there.ensures.earlier;
    } in
    record { graph = shared_graph laws; means = shared_means laws; none_left = shared_none_left laws; folds_none = shared_folds_none laws }
