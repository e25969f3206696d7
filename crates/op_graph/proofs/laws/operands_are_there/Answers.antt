use Rattle.op_graph.proofs.Links.{operand_stays, reads_earlier, linked}
use Rattle.op_graph.proofs.laws.operands_are_there.Goals as goal

pub returns : goal.returns
returns c = record { stays = operand_stays; earlier = reads_earlier; linked = linked }
