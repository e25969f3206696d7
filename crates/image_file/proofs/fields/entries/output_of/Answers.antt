use Rattle.std.proofs.Common.{refl}
use Rattle.image_file.specs.Entries.{output_piece}
use Rattle.image_file.proofs.Chains.{then, stays}
use Rattle.image_file.proofs.fields.entries.output_of.Goals as goal

pub returns : goal.returns
unfolding output_piece
returns c = then _ (rw c.last_output.ensures at c.rising-name.ensures)
    (then _ c.any_ty-ty.ensures (then _ (rw c.last_output_op.ensures at c.rising-op.ensures) (stays refl)))
