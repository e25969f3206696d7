use Rattle.std.proofs.Common.{◌≡◌, ◌+◌, ◌*◌, refl, subst, ◌∙◌, arith}
use Rattle.std.specs.Fmt.{signed_decimal}
use Rattle.program_maker.specs.Draws.{state}
use Rattle.program_maker.specs.Written.{Writes}
use Rattle.program_maker.specs.MadeRows.{draws_of_statements, input}
use Rattle.program_maker.proofs.Turns.{further, drawn, and_then}
use Rattle.program_maker.proofs.writer.Writer.row.Goals as goal

pub returns-clause-draws : goal.returns-clause-draws
returns-clause-draws c = λ number i h.
    let one : c.input.new.draws ≡ state number (draws_of_statements + (2 * i + 1)) =
    c.input.ensures.draws ∙ further number (draws_of_statements + 2 * i) (draws_of_statements + (2 * i + 1)) _ (omega arith) h in
    c.input-2.ensures.draws ∙ further number (draws_of_statements + (2 * i + 1)) (draws_of_statements + 2 * (i + 1)) _ (omega arith) one

pub returns-clause-text : goal.returns-clause-text
returns-clause-text c = λ number i h.
    let one : c.input.new.draws ≡ state number (draws_of_statements + (2 * i + 1)) =
    c.input.ensures.draws ∙ further number (draws_of_statements + 2 * i) (draws_of_statements + (2 * i + 1)) _ (omega arith) h in
    and_then
    (subst (λ d. Writes c.args.self c.input.result (signed_decimal (input d))) (drawn number (draws_of_statements + 2 * i) 2001 _ _ h refl) c.input.ensures.text)
    (and_then c.put.ensures
    (and_then
    (subst (λ d. Writes c.put.result c.input-2.result (signed_decimal (input d))) (drawn number (draws_of_statements + (2 * i + 1)) 2001 _ _ one refl) c.input-2.ensures.text)
    c.put-2.ensures))
