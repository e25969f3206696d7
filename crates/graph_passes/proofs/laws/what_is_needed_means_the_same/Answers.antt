use Rattle.graph_passes.proofs.Pruned.{PartLaws, kept_means, pruned_graph, pruned_means, pruned_none_left, pruned_folds_none}
use Rattle.graph_passes.proofs.PrunedShares.{pruned_shares_none}
use Rattle.graph_passes.proofs.laws.what_is_needed_means_the_same.Goals as goal

pub returns : goal.returns
returns c =
    let laws : PartLaws =
    record {
      entries = c.entries_keep_their_rules.ensures;
      walks = c.entries_are_found_by_one_walk.ensures;
      means = c.closed_parts_mean_the_same.ensures;
      graph = c.closed_parts_are_graphs.ensures;
      earlier = c.operands_are_there.ensures.earlier;
    } in
    record {
      kept_means = kept_means laws;
      graph = pruned_graph laws;
      means = pruned_means laws;
      none_left = pruned_none_left laws;
      folds_none = pruned_folds_none laws;
      shares_none = pruned_shares_none laws;
    }
