use Rattle.std.proofs.Common.{take}
use Rattle.st_writer.specs.Adds.{Adds}
use Rattle.st_writer.proofs.Lists.{all}
use Rattle.st_writer.proofs.Stmts.{label_at}
use Rattle.st_writer.proofs.writer.Writer.labels.Given as goal

abbrev pub invariant-loop-i : goal.invariant-loop-i
invariant-loop-i l = Adds l.initial.self l.self (all label_at (take l.i l.labels))
