use Rattle.std.proofs.Common.{◌≡◌, ℕ, List, ◌++◌, codes, append_assoc}
use Rattle.std.proofs.lemmas.List.Folds.{flat_map-map}
use Rattle.vcp_outside.specs.Characters.{escaped, piece_bytes}
use Rattle.vcp_outside.specs.Elements.{attribute_text, attribute_of, tag_name}
use Rattle.vcp_outside.proofs.svg.elements.then_element.Goals as goal

pieces : (text name attributes inside : List ℕ)
    → text ++ (codes "<" ++ (name ++ (attributes ++ (codes ">" ++ (inside ++ (codes "</" ++ (name ++ codes ">\n")))))))
    ≡ text ++ (codes "<" ++ name) ++ attributes ++ codes ">" ++ inside ++ (codes "</" ++ name) ++ codes ">\n"
pieces text name attributes inside = simp append_assoc

pub returns : goal.returns
returns g c sink name text is =
    let named = rw c.tag_name.ensures at (c.texts.ensures sink name text is) in
    let told = c.text.ensures _ _ _ (c.then_attributes.ensures _ _ _ named) in
    let all = rw c.tag_name-2.ensures at (c.texts-2.ensures _ _ _ (c.pieces.ensures _ _ _ told)) in
    rw (
      flat_map-map attribute_text attribute_of c.args.attributes.now,
      flat_map-map escaped piece_bytes c.args.content.now,
      pieces text (tag_name c.args.tag) _ _,
    ) (c.text-2.ensures _ _ _ all)
