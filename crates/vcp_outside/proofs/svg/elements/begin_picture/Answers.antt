use Rattle.std.proofs.Common.{◌≡◌, ℕ, List, [], ◌∷◌, ◌++◌, codes, decimal, append_assoc}
use Rattle.std.proofs.lemmas.List.{append-nil}
use Rattle.vcp_outside.specs.declared.svg.names.Name.TheVariants as name
use Rattle.vcp_outside.specs.Elements.{attribute, attribute_text}
use Rattle.vcp_outside.specs.Pens.{written_so}
use Rattle.vcp_outside.proofs.svg.elements.begin_picture.Goals as goal

joined : (a b c d : List ℕ)
    → codes "<" ++ (codes "svg" ++ ((a ++ (b ++ (c ++ (d ++ [])))) ++ codes ">\n")) ≡ codes "<svg" ++ (a ++ (b ++ (c ++ []))) ++ d ++ codes ">\n"
joined a b c d = simp (append_assoc, append-nil)

pub returns : goal.returns
returns g c =
    let w = c.args.width in
    let h = c.args.height in
    let three = c.then_attributes-begun.ensures _ _ _ (c.text.ensures _ _ _ (c.new.ensures)) in
    let all = c.text-2.ensures _ _ _ (c.then_attribute.ensures _ _ _ three) in
    written_so all
    (joined (attribute_text (attribute name.Xmlns (codes "http://www.w3.org/2000/svg"))) (attribute_text (attribute name.Width (decimal w)))
    (attribute_text (attribute name.Height (decimal h)))
    (attribute_text (record { name = name.ViewBox; value = codes "0 0 " ∷ decimal w ∷ codes " " ∷ decimal h ∷ [] })))
