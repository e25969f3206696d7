use Rattle.std.proofs.Common.{subst, rules}
use Rattle.std.proofs.lemmas.Int.{to_z-of_z}
use Rattle.std.specs.Int.{w64, to_be_bytes, cast_unsigned}
use Rattle.image_file.specs.Written.{Writes}
use Rattle.image_file.specs.Entries.{turn_piece}
use Rattle.image_file.proofs.Appended.{and_then, ended}
use Rattle.image_file.proofs.writing.put_turn.Goals as goal

pub returns : goal.returns
unfolding turn_piece
returns c = λ names earlier.
    let number : Writes c.put_u32-2.result c.put_i64.result (to_be_bytes w64 (cast_unsigned w64 c.args.v.value)) =
    subst (λ z. Writes c.put_u32-2.result c.put_i64.result (to_be_bytes w64 (cast_unsigned w64 z))) (to_z-of_z w64 c.args.v.value (search rules))
    c.put_i64.ensures in
    and_then c.put_u32.ensures (and_then c.put_u32-2.ensures (ended number))
