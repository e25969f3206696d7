use Rattle.std.proofs.Common.{◌≡◌, ℕ, ◌*◌}
use Rattle.program_maker.specs.Draws.{state}
use Rattle.program_maker.specs.Written.{Writes}
use Rattle.program_maker.specs.MadeSource.{statement, joined}
use Rattle.program_maker.proofs.writer.Writer.statements.Given as goal

abbrev pub invariant-statements : goal.invariant-statements
invariant-statements l = (number : ℕ) → l.initial.draws ≡ state number 0 →
    (l.draws ≡ state number (4 * l.counter)) × Writes l.initial.self l.self (joined (statement number) l.counter)
