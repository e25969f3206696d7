use Rattle.std.proofs.Common.{take}
use Rattle.il_front.specs.Tables.{Tells}
use Rattle.il_front.proofs.operand.table_of.Given as goal

abbrev pub invariant-loop-i : goal.invariant-loop-i
invariant-loop-i l = Tells l.names (take l.i l.slots.items.items)
