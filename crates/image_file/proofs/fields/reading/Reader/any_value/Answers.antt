use Rattle.std.proofs.Common.{refl, rules, SFits, w64}
use Rattle.std.proofs.lemmas.Int.{to_z-of_z}
use Rattle.image_file.proofs.Chains.{then, stays}
use Rattle.image_file.proofs.fields.reading.Reader.any_value.Goals as goal

pub returns : goal.returns
returns c =
    let fits : SFits w64 c.cast_signed.result = search rules in
    rw (to_z-of_z w64 c.cast_signed.result fits, c.cast_signed.ensures) (then _ c.read_u64.ensures (stays refl))
