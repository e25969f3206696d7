use Rattle.image_file.specs.Entries.{input_piece}
use Rattle.image_file.proofs.Appended.{and_then, ended}
use Rattle.image_file.proofs.writing.put_input.Goals as goal

pub returns : goal.returns
unfolding input_piece
returns c = λ p names earlier. and_then c.put_u32.ensures (ended c.put_ty.ensures)
