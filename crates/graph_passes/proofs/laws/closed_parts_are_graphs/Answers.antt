use Rattle.graph_passes.proofs.PartGraph.{part_is_graph}
use Rattle.graph_passes.proofs.laws.closed_parts_are_graphs.Goals as goal

pub returns : goal.returns
returns c = part_is_graph c.entries_keep_their_rules.ensures
