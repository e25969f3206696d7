use Rattle.std.proofs.Common.{refl, rules, SFits, w64}
use Rattle.std.proofs.lemmas.Int.{to_z-of_z}
use Rattle.image_file.specs.Entries.{cell_piece}
use Rattle.image_file.proofs.Chains.{then, stays}
use Rattle.image_file.proofs.fields.entries.cell_of.Goals as goal

pub returns : goal.returns
unfolding cell_piece
returns c =
    let fits : SFits w64 c.value-init.result = search rules in
    rw (to_z-of_z w64 c.value-init.result fits)
    (then _ c.below-name.ensures
    (then _ c.any_ty-ty.ensures
    (then _ c.value-init.ensures
    (then _ (rw c.last_load.ensures at c.rising-load.ensures) (then _ (rw c.last_store.ensures at c.store_after-store.ensures) (stays refl))))))
