use Rattle.std.proofs.Common.{◌≡◌, ℕ, ◌+◌, ◌*◌}
use Rattle.program_maker.specs.Draws.{state}
use Rattle.program_maker.specs.Written.{Writes}
use Rattle.program_maker.specs.MadeSource.{joined}
use Rattle.program_maker.specs.MadeRows.{row, draws_of_statements}
use Rattle.program_maker.proofs.writer.Writer.rows.Given as goal

abbrev pub invariant-rows : goal.invariant-rows
invariant-rows l = (number : ℕ) → l.initial.draws ≡ state number draws_of_statements →
    (l.draws ≡ state number (draws_of_statements + 2 * l.counter)) × Writes l.initial.written l.written (joined (row number) l.counter)
