use Rattle.std.proofs.Common.{take}
use Rattle.std.specs.List.{flat_map}
use Rattle.program_maker.proofs.writer.Writer.filled.Given as goal
use Rattle.program_maker.specs.Written.{Writes}
use Rattle.program_maker.specs.MadeSource.{part}

abbrev pub invariant-bytes : goal.invariant-bytes
invariant-bytes l = Writes l.initial.self l.self (flat_map (part l.p l.q l.r) (take l.byte-index l.line))
