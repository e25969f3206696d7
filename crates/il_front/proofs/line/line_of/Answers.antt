use Rattle.std.specs.Prelude.{option_map}
use Rattle.il_front.specs.Writings.{written_in, line_in}
use Rattle.il_front.proofs.LineLaws.{line-one, line-two, line-three}
use Rattle.il_front.proofs.line.line_of.Goals as goal

pub returns-in-One-clause-line : goal.returns-in-One-clause-line
returns-in-One-clause-line c = λ l e.
    let text = c.args.text.now in
    line-one text l c.in-One.t (option_map (line_in text) c.formed.result) c.operator_of.result (rw c.in-One.is at e) c.operator_of.ensures
    (c.formed.ensures.line text)

pub returns-in-Two-clause-line : goal.returns-in-Two-clause-line
returns-in-Two-clause-line c = λ l e.
    let text = c.args.text.now in
    line-two text l c.in-Two.t c.in-Two.u (option_map (line_in text) c.formed-in-Two.result) c.operator_of-in-Two.result
    (option_map (written_in text) c.written_one.result) (rw c.in-Two.is at e) c.operator_of-in-Two.ensures (c.written_one.ensures.value text)
    (c.formed-in-Two.ensures.line text)

pub returns-in-Three-clause-line : goal.returns-in-Three-clause-line
returns-in-Three-clause-line c = λ l e.
    let text = c.args.text.now in
    line-three text l c.in-Three.t c.in-Three.u c.in-Three.v (option_map (line_in text) c.formed-in-Three.result) c.operator_of-in-Three.result
    (option_map (written_in text) c.written_two.result) (rw c.in-Three.is at e) c.operator_of-in-Three.ensures (c.written_two.ensures.value text)
    (c.formed-in-Three.ensures.line text)

pub returns-in-Three-clause-inside : goal.returns-in-Three-clause-inside
returns-in-Three-clause-inside c = c.formed-in-Three.ensures.inside c.args.text.now (c.written_two.ensures.inside c.args.text.now)
