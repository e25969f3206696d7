use Rattle.std.proofs.Common.{sym, ap, ◌∙◌}
use Rattle.il_front.specs.Judging.{is_last_word}
use Rattle.il_front.proofs.LineLaws.{no-last-word}
use Rattle.il_front.proofs.line.is_last_word.Goals as goal

pub returns-in-One : goal.returns-in-One
returns-in-One c = λ l e. c.is_end_program.ensures ∙ sym (ap is_last_word (rw c.in-One.is at e))

pub returns-in-Two : goal.returns-in-Two
returns-in-Two c = λ l e. sym (ap is_last_word (rw c.in-Two.is at e))

pub returns-in-Three : goal.returns-in-Three
returns-in-Three c = λ l e. sym (ap is_last_word (rw c.in-Three.is at e))

pub returns-in-More : goal.returns-in-More
returns-in-More c = λ l h. no-last-word l (rw c.in-More.is at h)
