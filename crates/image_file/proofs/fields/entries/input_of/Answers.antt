use Rattle.std.proofs.Common.{refl}
use Rattle.image_file.specs.Entries.{input_piece}
use Rattle.image_file.proofs.Chains.{then, stays}
use Rattle.image_file.proofs.fields.entries.input_of.Goals as goal

pub returns : goal.returns
unfolding input_piece
returns c = then _ (rw c.last_input.ensures at c.rising-name.ensures) (then _ c.any_ty-ty.ensures (stays refl))
