use Rattle.std.proofs.Common.{Some, w64, SFits, rules}
use Rattle.std.proofs.Math.Facts.{sfits_widen}
use Rattle.std.proofs.lemmas.Int.{to_z-of_z}
use Rattle.std.specs.Int.{w128, cast_signed}
use Rattle.vcp_base.specs.Types.{fits}
use Rattle.image_file.proofs.Chains.{narrowed}
use Rattle.image_file.proofs.fields.reading.Reader.value.Goals as goal

pub returns : goal.returns
returns c =
    let wide : SFits w64 c.any_value-v.result = search rules in
    let far : SFits w128 c.any_value-v.result = sfits_widen tt wide in
    rw (to_z-of_z w64 c.any_value-v.result wide)
    (narrowed _ (λ n. Some (cast_signed w64 n)) (fits c.args.ty) _ c.any_value-v.ensures c.check.ensures.left
    (rw (c.fits.ensures.value, to_z-of_z w64 c.any_value-v.result wide, to_z-of_z w128 c.any_value-v.result far) at c.check.ensures.fault))
