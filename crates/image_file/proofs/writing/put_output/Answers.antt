use Rattle.image_file.specs.Entries.{output_piece}
use Rattle.image_file.proofs.Appended.{and_then, ended}
use Rattle.image_file.proofs.writing.put_output.Goals as goal

pub returns : goal.returns
unfolding output_piece
returns c = λ p names operations earlier. and_then c.put_u32.ensures (and_then c.put_ty.ensures (ended c.put_u32-2.ensures))
