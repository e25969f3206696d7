-- WellFormedText: the text of a picture is a well-formed document.
use Rattle.std.proofs.Common.{◌≡◌, ◌==◌, ℕ, Bool, true, false, cond, List, [], ◌∷◌, ◌++◌, codes, map, flat_map, refl, append_assoc}
use Rattle.std.specs.List.{AllByRecursion, list_any}
use Rattle.std.specs.Prelude.{bytes_eq}
use Rattle.std.proofs.lemmas.List.{append-nil}
use Rattle.vcp_outside.specs.declared.svg.names.Tag.{Tag}
use Rattle.vcp_outside.specs.declared.svg.names.Tag.TheVariants as tag
use Rattle.vcp_outside.specs.declared.svg.names.Name.{Name}
use Rattle.vcp_outside.specs.declared.svg.names.Name.TheVariants as name
use Rattle.vcp_outside.specs.Characters.{is_plain, reference, escape, escaped}
use Rattle.vcp_outside.specs.Elements.{tag_name, attribute_name, Attribute, Element, written, attribute_text, element_text, picture_attributes, picture_text}
use Rattle.vcp_outside.specs.WellFormed.{references, AreCharacters, no_character, plain, referred, is_name, AreAttributes, no_attribute, then_one, IsContent, nothing, line_end, characters, inner, IsDocument, one, HasEachOnce}

-- ---- characters

reference_by : (p q r s t : Bool)
    → list_any
    (bytes_eq (cond p (codes "&lt;") (cond q (codes "&gt;") (cond r (codes "&amp;") (cond s (codes "&quot;") (cond t (codes "&#39;") (codes "&#65533;")))))))
    references
    ≡ true
reference_by true q r s t = refl
reference_by false true r s t = refl
reference_by false false true s t = refl
reference_by false false false true t = refl
reference_by false false false false true = refl
reference_by false false false false false = refl

escape_by : (t : Bool) (b : ℕ) → is_plain b ≡ t → (more : List ℕ) → AreCharacters more → AreCharacters (cond t (b ∷ []) (reference b) ++ more)
escape_by true b e more are = plain b more e are
escape_by false b e more are = referred (reference b) more (reference_by (b == 60) (b == 62) (b == 38) (b == 34) (b == 39)) are

escaped_then : (bytes more : List ℕ) → AreCharacters more → AreCharacters (escaped bytes ++ more)
escaped_then [] more are = are
escaped_then (b ∷ bytes) more are =
    rw (append_assoc (escape b) (escaped bytes) more) (escape_by (is_plain b) b refl (escaped bytes ++ more) (escaped_then bytes more are))

written_are : (pieces : List (List ℕ)) → AreCharacters (written pieces)
written_are [] = no_character
written_are (p ∷ pieces) = escaped_then p (written pieces) (written_are pieces)

-- ---- names and attributes

tag_is_name : (t : Tag) → is_name (tag_name t) ≡ true
tag_is_name tag.Svg = refl
tag_is_name tag.Style = refl
tag_is_name tag.Rect = refl
tag_is_name tag.Line = refl
tag_is_name tag.Text = refl

attribute_is_name : (n : Name) → is_name (attribute_name n) ≡ true
attribute_is_name name.Xmlns = refl
attribute_is_name name.ViewBox = refl
attribute_is_name name.Class = refl
attribute_is_name name.X = refl
attribute_is_name name.Y = refl
attribute_is_name name.Width = refl
attribute_is_name name.Height = refl
attribute_is_name name.X1 = refl
attribute_is_name name.Y1 = refl
attribute_is_name name.X2 = refl
attribute_is_name name.Y2 = refl
attribute_is_name name.Operation = refl
attribute_is_name name.Operand = refl
attribute_is_name name.Reader = refl
attribute_is_name name.Place = refl
attribute_is_name name.Column = refl
attribute_is_name name.Cycle = refl

attribute_then : (n value more : List ℕ)
    → (codes " " ++ (n ++ (codes "=\"" ++ (value ++ codes "\"")))) ++ more ≡ codes " " ++ (n ++ (codes "=\"" ++ (value ++ (codes "\"" ++ more))))
attribute_then n value more = simp append_assoc

attributes_are : (list : List Attribute) → AreAttributes (map (λ a. attribute_name a.name) list) (flat_map attribute_text list)
attributes_are [] = no_attribute
attributes_are (a ∷ list) =
    rw (attribute_then (attribute_name a.name) (written a.value) (flat_map attribute_text list))
    (then_one (attribute_name a.name) (map (λ b. attribute_name b.name) list) (written a.value) (flat_map attribute_text list)
    (attribute_is_name a.name) (written_are a.value) (attributes_are list))

-- ---- elements

element_split : (n attributes inside more : List ℕ)
    → (codes "<" ++ (n ++ (attributes ++ (codes ">" ++ (inside ++ (codes "</" ++ (n ++ codes ">\n"))))))) ++ more
    ≡ codes "<" ++ (n ++ (attributes ++ (codes ">" ++ (inside ++ (codes "</" ++ (n ++ (codes ">" ++ (codes "\n" ++ more))))))))
element_split n attributes inside more = simp append_assoc

written_inside : (pieces : List (List ℕ)) → IsContent (written pieces)
written_inside pieces = rw (append-nil (written pieces)) at (characters (written pieces) [] (written_are pieces) nothing)

element_then : (e : Element) (more : List ℕ) → HasEachOnce e → IsContent more → IsContent (element_text e ++ more)
element_then e more once is =
    rw (element_split (tag_name e.tag) (flat_map attribute_text e.attributes) (written e.content) more)
    (inner (tag_name e.tag) (map (λ a. attribute_name a.name) e.attributes) (flat_map attribute_text e.attributes) (written e.content)
    (codes "\n" ++ more) (tag_is_name e.tag) (attributes_are e.attributes) once (written_inside e.content) (line_end more is))

elements_are : (es : List Element) → AllByRecursion HasEachOnce es → IsContent (flat_map element_text es)
elements_are [] all = nothing
elements_are (e ∷ es) all = element_then e (flat_map element_text es) all.0 (elements_are es all.1)

document_split : (attributes inside : List ℕ)
    → (codes "<" ++ (codes "svg" ++ (attributes ++ codes ">\n"))) ++ (inside ++ codes "</svg>\n")
    ≡ codes "<" ++ (codes "svg" ++ (attributes ++ (codes ">" ++ ((codes "\n" ++ inside) ++ (codes "</" ++ (codes "svg" ++ codes ">\n"))))))
document_split attributes inside = simp append_assoc

pub well_formed : (width height : ℕ) (elements : List Element) → AllByRecursion HasEachOnce elements → IsDocument (picture_text width height elements)
well_formed width height elements all =
    rw (document_split (flat_map attribute_text (picture_attributes width height)) (flat_map element_text elements))
    (one (codes "svg") (map (λ a. attribute_name a.name) (picture_attributes width height)) (flat_map attribute_text (picture_attributes width height))
    (codes "\n" ++ flat_map element_text elements) refl (attributes_are (picture_attributes width height)) refl
    (line_end (flat_map element_text elements) (elements_are elements all)))
