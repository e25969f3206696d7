use Rattle.std.proofs.Common.{take}
use Rattle.st_writer.specs.Adds.{Adds}
use Rattle.st_writer.proofs.Lists.{all}
use Rattle.st_writer.proofs.Programs.{name_at}
use Rattle.st_writer.proofs.writer.Writer.names.Given as goal

abbrev pub invariant-loop-i : goal.invariant-loop-i
invariant-loop-i l = Adds l.initial.self l.self (all name_at (take l.i l.names))
