use Rattle.std.proofs.Common.{◌<◌, ◌+◌, List, ℕ, ◌∷◌, length, drop, sym, ap, ◌∙◌, arith}
use Rattle.std.specs.Str.Lines.{lines}
use Rattle.vcp_base.proofs.Firsts.{last_line, ended_line, part_to_end}
use Rattle.vcp_base.proofs.script.lines.first_line.Goals as goal

pub returns-then-end-text-clause-lines : goal.returns-then-end-text-clause-lines
returns-then-end-text-clause-lines c =
    last_line c.args.text.now c.line_length-end.result c.requires c.line_length-end.ensures.place c.if-end-text.true
    ∙ ap (λ (rest : List ℕ). c.args.text.now ∷ lines rest) (sym (part_to_end c.args.text.now c.line_length-end.result))

pub returns-clause-lines : goal.returns-clause-lines
returns-clause-lines c =
    let within : c.line_length-end.result < length c.args.text.now = omega (arith, c.line_length-end.ensures.bound, c.if-end-text.false) in
    ended_line c.args.text.now c.line_length-end.result c.line_length-end.ensures.place within
    ∙ ap (λ (line : List ℕ). line ∷ lines (drop (c.line_length-end.result + 1) c.args.text.now)) (sym c.without_return.ensures.line)
    ∙ ap (λ (rest : List ℕ). c.without_return.result.now ∷ lines rest) (sym (part_to_end c.args.text.now (c.line_length-end.result + 1)))
