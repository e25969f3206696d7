use Rattle.std.proofs.Common.{◌≡◌, ◌*◌, ap, subst, ◌∙◌, arith}
use Rattle.program_maker.specs.Draws.{state}
use Rattle.program_maker.specs.Written.{Writes}
use Rattle.program_maker.specs.MadeSource.{statement, statements, joined}
use Rattle.program_maker.proofs.Turns.{none, one_more}
use Rattle.program_maker.proofs.writer.Writer.statements.Goals as goal

pub statements-init : goal.statements-init
statements-init c = λ number h. (h, none (statement number))

pub statements-preserved : goal.statements-preserved
statements-preserved c = λ number h.
    let before = c.statements.invariant number h in (
      c.statement-self.ensures.draws number c.statements.counter before.0,
      one_more (statement number) c.statements.counter before.1 (c.statement-self.ensures.text number c.statements.counter before.0),
    )

pub returns : goal.returns
returns c =
    let all : c.statements.counter ≡ statements = omega arith in
    record {
      draws = λ number h. (c.statements.invariant number h).0 ∙ ap (λ n. state number (4 * n)) all;
      text = λ number h. subst (λ n. Writes c.args.self c.statements.self (joined (statement number) n)) all (c.statements.invariant number h).1;
    }
