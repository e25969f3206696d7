use Rattle.program_maker.proofs.writer.Writer.names.Given as goal
use Rattle.program_maker.specs.Written.{Writes}
use Rattle.program_maker.specs.MadeSource.{listed, joined}

abbrev pub invariant-names : goal.invariant-names
invariant-names l = Writes l.initial.self l.self (joined listed l.i)
