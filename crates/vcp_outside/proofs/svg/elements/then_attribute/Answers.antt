use Rattle.std.proofs.Common.{◌≡◌, ℕ, List, ◌++◌, codes, append_assoc}
use Rattle.std.proofs.lemmas.List.Folds.{flat_map-map}
use Rattle.vcp_outside.specs.Characters.{escaped, piece_bytes}
use Rattle.vcp_outside.specs.Elements.{attribute_name}
use Rattle.vcp_outside.proofs.svg.elements.then_attribute.Goals as goal

pieces : (text name value : List ℕ)
    → text ++ (codes " " ++ (name ++ (codes "=\"" ++ (value ++ codes "\"")))) ≡ text ++ (codes " " ++ name) ++ codes "=\"" ++ value ++ codes "\""
pieces text name value = simp append_assoc

pub returns : goal.returns
returns g c sink name text is =
    let named = rw c.attribute_name.ensures at (c.texts.ensures sink name text is) in
    let value = c.pieces.ensures _ _ _ (c.text.ensures _ _ _ named) in
    rw (flat_map-map escaped piece_bytes c.args.value.now, pieces text (attribute_name c.args.name) _) (c.text-2.ensures _ _ _ value)
