use Rattle.std.proofs.Common.{refl}
use Rattle.image_file.proofs.Chains.{stays, no_memory, is_kept}
use Rattle.image_file.proofs.fields.reading.Reader.copy.Goals as goal

pub returns-in-Ok-clause-keeps : goal.returns-in-Ok-clause-keeps
returns-in-Ok-clause-keeps c = stays refl

pub returns-in-Ok-clause-copied : goal.returns-in-Ok-clause-copied
returns-in-Ok-clause-copied c = λ sound. c.in-Ok.ensures

pub returns-in-Err-clause-keeps : goal.returns-in-Err-clause-keeps
returns-in-Err-clause-keeps c = no_memory c.refuse.ensures.fault

pub returns-in-Err-clause-copied : goal.returns-in-Err-clause-copied
returns-in-Err-clause-copied c = λ sound. absurd (is_kept _ _ c.refuse.ensures.fault sound)
