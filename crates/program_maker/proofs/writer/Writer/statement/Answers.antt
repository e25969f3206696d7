use Rattle.std.proofs.Common.{◌≡◌, ◌+◌, ◌*◌, ◌∙◌, ap, subst, arith}
use Rattle.program_maker.specs.Draws.{state}
use Rattle.program_maker.specs.MadeSource.{variables, filled}
use Rattle.program_maker.specs.Written.{Writes}
use Rattle.program_maker.proofs.Turns.{further, drawn, of_draws}
use Rattle.program_maker.proofs.writer.Writer.statement.Goals as goal

pub returns-clause-draws : goal.returns-clause-draws
returns-clause-draws c = λ number i h.
    let one : c.draw-p.new.self ≡ state number (4 * i + 1) = c.draw-p.ensures.state ∙ further number (4 * i) (4 * i + 1) _ (omega arith) h in
    let two : c.draw-q.new.self ≡ state number (4 * i + 2) = c.draw-q.ensures.state ∙ further number (4 * i + 1) (4 * i + 2) _ (omega arith) one in
    let three : c.draw-r.new.self ≡ state number (4 * i + 3) = c.draw-r.ensures.state ∙ further number (4 * i + 2) (4 * i + 3) _ (omega arith) two in
    c.draw-form.ensures.state ∙ further number (4 * i + 3) (4 * (i + 1)) _ (omega arith) three

pub returns-clause-text : goal.returns-clause-text
returns-clause-text c = λ number i h.
    let one : c.draw-p.new.self ≡ state number (4 * i + 1) = c.draw-p.ensures.state ∙ further number (4 * i) (4 * i + 1) _ (omega arith) h in
    let two : c.draw-q.new.self ≡ state number (4 * i + 2) = c.draw-q.ensures.state ∙ further number (4 * i + 1) (4 * i + 2) _ (omega arith) one in
    let three : c.draw-r.new.self ≡ state number (4 * i + 3) = c.draw-r.ensures.state ∙ further number (4 * i + 2) (4 * i + 3) _ (omega arith) two in
    subst (Writes c.args.self c.filled.result)
    (ap (filled c.draw-p.result c.draw-q.result c.draw-r.result) c.form_line.ensures
    ∙ of_draws number i c.draw-p.result c.draw-q.result c.draw-r.result c.draw-form.result
    (drawn number (4 * i) variables _ _ h c.draw-p.ensures.drawn)
    (drawn number (4 * i + 1) variables _ _ one c.draw-q.ensures.drawn)
    (drawn number (4 * i + 2) variables _ _ two c.draw-r.ensures.drawn)
    (drawn number (4 * i + 3) 6 _ _ three c.draw-form.ensures.drawn))
    c.filled.ensures
