use Rattle.st_writer.specs.Adds.{Adds}
use Rattle.st_writer.specs.Lexemes.{indent}
use Rattle.st_writer.proofs.writer.Writer.indent.Given as goal

abbrev pub invariant-levels : goal.invariant-levels
invariant-levels l = Adds l.initial.self l.self (indent l._outer)
