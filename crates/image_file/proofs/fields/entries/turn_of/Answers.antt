use Rattle.std.proofs.Common.{refl, rules, SFits, w64}
use Rattle.std.proofs.lemmas.Int.{to_z-of_z}
use Rattle.image_file.specs.Entries.{turn_piece}
use Rattle.image_file.proofs.Chains.{then, stays}
use Rattle.image_file.proofs.fields.entries.turn_of.Goals as goal

pub returns : goal.returns
unfolding turn_piece
returns c =
    let fits : SFits w64 c.any_value-value.result = search rules in
    rw (to_z-of_z w64 c.any_value-value.result fits)
    (then _ c.at_most-parent.ensures.is (then _ c.below-name.ensures (then _ c.any_value-value.ensures (stays refl))))
