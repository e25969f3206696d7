use Rattle.std.proofs.Common.{subst, rules}
use Rattle.std.proofs.lemmas.Int.{to_z-of_z}
use Rattle.std.specs.Int.{w64, to_be_bytes, cast_unsigned}
use Rattle.image_file.specs.Written.{Writes}
use Rattle.image_file.specs.Entries.{cell_piece}
use Rattle.image_file.proofs.Appended.{and_then, ended}
use Rattle.image_file.proofs.writing.put_cell.Goals as goal

pub returns : goal.returns
unfolding cell_piece
returns c = λ p names operations earlier.
    let number : Writes c.put_ty.result c.put_i64.result (to_be_bytes w64 (cast_unsigned w64 c.args.v.init)) =
    subst (λ z. Writes c.put_ty.result c.put_i64.result (to_be_bytes w64 (cast_unsigned w64 z))) (to_z-of_z w64 c.args.v.init (search rules))
    c.put_i64.ensures in
    and_then c.put_u32.ensures (and_then c.put_ty.ensures (and_then number (and_then c.put_u32-2.ensures (ended c.put_u32-3.ensures))))
