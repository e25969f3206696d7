use Rattle.op_graph.proofs.OperandLaw.{operand_laws}
use Rattle.op_graph.proofs.laws.operands_are_in_their_types.Goals as goal

pub returns : goal.returns
returns c = operand_laws
