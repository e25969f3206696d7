use Rattle.std.proofs.Common.{take}
use Rattle.st_writer.specs.Adds.{Adds}
use Rattle.st_writer.proofs.Lists.{all}
use Rattle.st_writer.proofs.Exprs.{arg}
use Rattle.st_writer.proofs.writer.Writer.+expr.Given as goal

abbrev pub invariant-args-loop-i : goal.invariant-args-loop-i
invariant-args-loop-i l = Adds l.initial.self l.self (all arg (take l.i l.args))
