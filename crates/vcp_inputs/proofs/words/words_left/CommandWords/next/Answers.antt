use Rattle.std.proofs.Common.{◌∙◌, sym}
use Rattle.vcp_inputs.proofs.WordsSteps.{first_left}
use Rattle.vcp_inputs.proofs.words.words_left.CommandWords.next.Goals as goal

pub returns-clause-some : goal.returns-clause-some
returns-clause-some c = sym c.self.view_is ∙ first_left c.self.inside.words.now c.self.inside.at c.at-word.result.now c.at-word.ensures
