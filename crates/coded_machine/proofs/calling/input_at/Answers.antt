use Rattle.std.proofs.Common.{arith}
use Rattle.std.proofs.lemmas.Int.{ints}
use Rattle.std.proofs.lemmas.Grind.{elements, common_steps}
use Rattle.coded_machine.proofs.calling.input_at.Goals as goal

pub returns-else-i-len : goal.returns-else-i-len
returns-else-i-len c = grind (ints, arith, common_steps)

pub returns-then-i-len : goal.returns-then-i-len
returns-then-i-len c = grind (ints, arith, elements)
