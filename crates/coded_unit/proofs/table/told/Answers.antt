use Rattle.std.proofs.Common.{arith}
use Rattle.std.proofs.lemmas.Int.{to_z-of_z}
use Rattle.coded_unit.proofs.table.told.Goals as goal

pub returns-in-Ok : goal.returns-in-Ok
returns-in-Ok c = grind (arith, to_z-of_z)

pub returns-in-Err-Range : goal.returns-in-Err-Range
returns-in-Err-Range c = grind (arith, to_z-of_z)

pub returns-in-Err-DivZero : goal.returns-in-Err-DivZero
returns-in-Err-DivZero c = grind (arith, to_z-of_z)

pub returns-in-Err-Operand : goal.returns-in-Err-Operand
returns-in-Err-Operand c = grind (arith, to_z-of_z)

pub packed_twice-requires-clause-value : goal.packed_twice-requires-clause-value
packed_twice-requires-clause-value c = grind (arith, to_z-of_z)
