use Rattle.std.proofs.Common.{◌≡◌, ◌∙◌, Bool, true, false, not, sym, refl}
use Rattle.image_file.proofs.Chains.{stays, no_memory, is_kept}
use Rattle.image_file.proofs.fields.names.Keys.insert.Goals as goal

was_not : (b : Bool) → not b ≡ true → b ≡ false
was_not true is = absurd cc
was_not false is = refl

pub returns-in-Ok-clause-keeps : goal.returns-in-Ok-clause-keeps
returns-in-Ok-clause-keeps c = stays refl

pub returns-in-Ok-clause-said : goal.returns-in-Ok-clause-said
returns-in-Ok-clause-said c = λ o. c.in-Ok.ensures.said

pub returns-in-Ok-clause-added : goal.returns-in-Ok-clause-added
returns-in-Ok-clause-added c = λ o new. c.in-Ok.ensures.added (was_not _ (sym c.in-Ok.ensures.said ∙ new))

pub returns-in-Err-clause-keeps : goal.returns-in-Err-clause-keeps
returns-in-Err-clause-keeps c = no_memory c.refuse.ensures.fault

pub returns-in-Err-clause-said : goal.returns-in-Err-clause-said
returns-in-Err-clause-said c = λ o. absurd (is_kept _ _ c.refuse.ensures.fault o)

pub returns-in-Err-clause-added : goal.returns-in-Err-clause-added
returns-in-Err-clause-added c = λ o. absurd (is_kept _ _ c.refuse.ensures.fault o)
