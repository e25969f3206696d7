use Rattle.op_graph.proofs.Cells.{length-joined, joined_at}
use Rattle.op_graph.proofs.laws.cells_have_two_parts.Goals as goal

pub returns : goal.returns
returns c = record { count = length-joined; at = joined_at }
