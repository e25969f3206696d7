use Rattle.std.proofs.Common.{◌≡◌, ◌<◌, ◌^◌, drop}
use Rattle.st_lexer.specs.Literals.{digits}
use Rattle.st_lexer.proofs.Numbers.{read}
use Rattle.st_lexer.proofs.literal.digits.Given as goal

abbrev pub invariant-loop-byte : goal.invariant-loop-byte
invariant-loop-byte l = record { small : l.number < 2 ^ 63; rest : read l.base l.behind_digit l.number (drop l.byte-index l.run) ≡ digits l.base l.run }
