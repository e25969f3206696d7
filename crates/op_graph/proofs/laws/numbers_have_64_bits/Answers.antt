use Rattle.op_graph.proofs.Fitting.{imm_width, init_width}
use Rattle.op_graph.proofs.laws.numbers_have_64_bits.Goals as goal

pub returns : goal.returns
returns c = record { imm = imm_width; init = init_width }
