use Rattle.std.proofs.Common.{ℕ, List, drop, take, ◌∷◌, sym, ap, ◌∙◌}
use Rattle.std.specs.List.{position_or_len}
use Rattle.vcp_base.specs.Blanks.{is_blank}
use Rattle.vcp_base.specs.Words.{words}
use Rattle.vcp_base.proofs.Firsts.{word_next, no_word, part_to_end}
use Rattle.vcp_base.proofs.script.words.WordsLeft.next.Goals as goal

pub returns-then-end-eq0-clause-none : goal.returns-then-end-eq0-clause-none
returns-then-end-eq0-clause-none c =
    let place = c.word_length-end.ensures.place ∙ ap (position_or_len is_blank) c.without_first_blanks-text.ensures in
    let none = no_word c.self.inside.rest.now c.word_length-end.result place c.if-end-eq0.true in (
      sym c.self.view_is ∙ none.0,
      ap words (part_to_end c.without_first_blanks-text.result.now c.word_length-end.result)
          ∙ (ap (λ (text : List ℕ). words (drop c.word_length-end.result text)) c.without_first_blanks-text.ensures ∙ none.1),
    )

pub returns-clause-some : goal.returns-clause-some
returns-clause-some c =
    let place = c.word_length-end.ensures.place ∙ ap (position_or_len is_blank) c.without_first_blanks-text.ensures in
    let some = word_next c.self.inside.rest.now c.word_length-end.result place c.if-end-eq0.false in
    sym c.self.view_is ∙ (some
    ∙ ap (λ (text : List ℕ). take c.word_length-end.result text ∷ words (drop c.word_length-end.result text)) (sym c.without_first_blanks-text.ensures)
    ∙ ap (λ (rest : List ℕ). take c.word_length-end.result c.without_first_blanks-text.result.now ∷ words rest)
    (sym (part_to_end c.without_first_blanks-text.result.now c.word_length-end.result)))
