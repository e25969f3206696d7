use Rattle.std.proofs.Common.{◌≡◌, subst, arith}
use Rattle.program_maker.specs.Written.{Writes}
use Rattle.program_maker.specs.MadeSource.{joined}
use Rattle.program_maker.specs.MadeRows.{row, cycles}
use Rattle.program_maker.proofs.Turns.{none, one_more, and_then}
use Rattle.program_maker.proofs.writer.Writer.rows.Goals as goal

pub rows-init : goal.rows-init
rows-init c = λ number h. (h, none (row number))

pub rows-preserved : goal.rows-preserved
rows-preserved c = λ number h.
    let before = c.rows.invariant number h in (
      c.row-written.ensures.draws number c.rows.counter before.0,
      one_more (row number) c.rows.counter before.1 (c.row-written.ensures.text number c.rows.counter before.0),
    )

pub returns : goal.returns
returns c =
    let all : c.rows.counter ≡ cycles = omega arith in
    λ number h. and_then c.put-written.ensures (subst (λ n. Writes c.put-written.result c.rows.written (joined (row number) n)) all (c.rows.invariant number h).1)
