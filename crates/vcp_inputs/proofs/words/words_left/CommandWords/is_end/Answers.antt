use Rattle.std.proofs.Common.{◌∙◌, ap, nat_le}
use Rattle.vcp_inputs.specs.Forms.{is_end}
use Rattle.vcp_inputs.proofs.WordsSteps.{is_end_from}
use Rattle.vcp_inputs.proofs.words.words_left.CommandWords.is_end.Goals as goal

pub returns : goal.returns
returns c = ap (λ n. nat_le n c.self.inside.at) c.len.ensures ∙ (is_end_from c.self.inside.words.now c.self.inside.at ∙ ap is_end c.self.view_is)
