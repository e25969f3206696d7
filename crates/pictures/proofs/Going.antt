-- Going: the texts of things, one behind another.
use Rattle.std.proofs.Common.{◌≡◌, ℕ, suc, ◌<◌, arith, length, get_or, take, take-suc, List, [], ◌∷◌, ◌++◌, refl, sym, append_assoc, flat_map, ◌∙◌, ap, add-one, ◌+◌}
use Rattle.std.proofs.lemmas.Grind.{flat_map-append}
use Rattle.std.proofs.lemmas.List.{append-nil}
use Rattle.vcp_outside.specs.Elements.{Element, element_text}
use Rattle.vcp_outside.specs.Characters.{escaped_in}
use Rattle.vcp_outside.specs.declared.svg.characters.Escaping.TheVariants as escaping
use Rattle.vcp_outside.specs.Drawing.{each_below}
use Rattle.pictures.specs.DotText.{written}
use Rattle.vcp_outside.specs.Pens.{Penned, Goes, both}

-- the text of what is drawn for things
abbrev pub drawn_text : {X : Type 0} → (X → List Element) → List X → List ℕ
drawn_text h xs = flat_map element_text (flat_map h xs)

-- the text of things, and of more behind them
pub drawn_more : {X : Type 0} (h : X → List Element) (xs ys : List X) → drawn_text h (xs ++ ys) ≡ drawn_text h xs ++ drawn_text h ys
drawn_more h xs ys = ap (flat_map element_text) (flat_map-append h xs ys) ∙ flat_map-append element_text (flat_map h xs) (flat_map h ys)

-- one number more
pub one_more : {X : Type 0} (h : X → List Element) (f : ℕ → List X) (n : ℕ)
    → drawn_text h (each_below f (n + 1)) ≡ drawn_text h (each_below f n) ++ drawn_text h (f n)
one_more h f n = rw (add-one n) (drawn_more h (each_below f n) (f n))

-- the text of one element
pub one_drawn : (e : Element) → flat_map element_text (e ∷ []) ≡ element_text e
one_drawn e = append-nil (element_text e)

-- the text of a box's elements
pub body_drawn_text : (o h w s : Element) (more last a b c : List Element)
    → flat_map element_text (o ∷ h ∷ w ∷ s ∷ (more ++ (last ++ (a ++ (b ++ c)))))
    ≡ element_text o ++ (element_text h ++ (element_text w ++ (element_text s ++ (flat_map element_text more ++ (flat_map element_text last
    ++ (flat_map element_text a ++ (flat_map element_text b ++ flat_map element_text c)))))))
body_drawn_text o h w s more last a b c =
    rw (
      flat_map-append element_text more (last ++ (a ++ (b ++ c))),
      flat_map-append element_text last (a ++ (b ++ c)),
      flat_map-append element_text a (b ++ c),
      flat_map-append element_text b c,
    ) refl

-- the text of what is drawn for things, thing by thing
pub each_drawn : {X : Type 0} (h : X → List Element) (xs : List X) → drawn_text h xs ≡ flat_map (λ x. flat_map element_text (h x)) xs
each_drawn h [] = refl
each_drawn h (x ∷ xs) = flat_map-append element_text (h x) (flat_map h xs) ∙ ap (λ t. flat_map element_text (h x) ++ t) (each_drawn h xs)

-- a picture, part by part
pub parts : (start end : List ℕ) (a b c : List Element)
    → start ++ (flat_map element_text (a ++ (b ++ c)) ++ end)
    ≡ start ++ flat_map element_text a ++ flat_map element_text b ++ flat_map element_text c ++ end
parts start end a b c = rw (flat_map-append element_text a (b ++ c), flat_map-append element_text b c) (simp append_assoc)

-- the text of one number more
pub one_text_more : {X : Type 0} (h : X → List ℕ) (f : ℕ → List X) (n : ℕ)
    → flat_map h (each_below f (n + 1)) ≡ flat_map h (each_below f n) ++ flat_map h (f n)
one_text_more h f n = rw (add-one n) (flat_map-append h (each_below f n) (f n))

-- the pieces of a label in three and in four parts
pub in_three : (a b c : List (List ℕ)) → written (a ++ (b ++ c)) ≡ written a ++ (written b ++ written c)
in_three a b c = rw (flat_map-append (escaped_in escaping.Quoted) a (b ++ c), flat_map-append (escaped_in escaping.Quoted) b c) refl

pub in_four : (a b c d : List (List ℕ)) → written (a ++ (b ++ (c ++ d))) ≡ written a ++ (written b ++ (written c ++ written d))
in_four a b c d = flat_map-append (escaped_in escaping.Quoted) a (b ++ (c ++ d)) ∙ ap (λ t. written a ++ t) (in_three b c d)

-- what is made of the first things, and of the next one
pub taken_more : {X : Type 0} (f : X → List ℕ) (xs : List X) (k : ℕ) (d : X) → k < length xs
    → flat_map f (take (k + 1) xs) ≡ flat_map f (take k xs) ++ f (get_or xs k d)
taken_more f xs k d there =
    let next : k + 1 ≡ suc k = omega arith in
    ap (λ n. flat_map f (take n xs)) next ∙ ap (flat_map f) (take-suc xs k d there) ∙ flat_map-append f (take k xs) (get_or xs k d ∷ [])
    ∙ ap (λ t. flat_map f (take k xs) ++ t) (append-nil (f (get_or xs k d)))

-- the same behind some text
pub taken_behind : {X : Type 0} {l m n : Penned} (before : List ℕ) (f : X → List ℕ) (xs : List X) (k : ℕ) (d : X)
    → k < length xs → Goes l m (before ++ flat_map f (take k xs)) → Goes m n (f (get_or xs k d))
    → Goes l n (before ++ flat_map f (take (k + 1) xs))
taken_behind before f xs k d there first second =
    both _ _ _ first second (ap (λ t. before ++ t) (taken_more f xs k d there) ∙ sym (append_assoc before (flat_map f (take k xs)) (f (get_or xs k d))))
