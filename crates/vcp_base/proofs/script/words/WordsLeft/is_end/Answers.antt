use Rattle.std.proofs.Common.{List, ℕ, ◌==◌, length, ap, ◌∙◌}
use Rattle.vcp_base.specs.Words.{is_end}
use Rattle.vcp_base.proofs.Firsts.{is_end_is}
use Rattle.vcp_base.proofs.script.words.WordsLeft.is_end.Goals as goal

pub returns : goal.returns
returns c =
    c.is_empty.ensures
    ∙ (ap (λ (text : List ℕ). length text == 0) c.without_first_blanks.ensures ∙ (is_end_is c.self.inside.rest.now ∙ ap is_end c.self.view_is))
