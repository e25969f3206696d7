use Rattle.graph_passes.proofs.Renumbering.{part_means}
use Rattle.graph_passes.proofs.laws.closed_parts_mean_the_same.Goals as goal

pub returns : goal.returns
returns c = part_means
    (record { operands = c.operands_are_in_their_types.ensures; reads = c.operands_are_there.ensures; entries = c.entries_keep_their_rules.ensures })
