-- WavesGoing: one piece of a text behind another.
use Rattle.std.proofs.Common.{◌≡◌, ℕ, suc, ◌+◌, Bool, true, false, cond, List, [], ◌∷◌, ◌++◌, refl, append_assoc, flat_map, ◌∙◌, ap, add-one}
use Rattle.std.proofs.lemmas.Grind.{flat_map-append}
use Rattle.std.proofs.lemmas.List.{append-nil}
use Rattle.vcp_outside.specs.Elements.{Element, element_text}
use Rattle.vcp_outside.specs.Drawing.{each_below}
use Rattle.vcp_outside.specs.Pens.{Penned, Goes, unmoved, same}

-- ---- pieces

-- nothing
-- a piece and another
-- the same piece, written otherwise
-- ---- things in order

pub each_suc : {X : Type 0} (f : ℕ → List X) (n : ℕ) → each_below f (suc n) ≡ each_below f n ++ f n
each_suc f n = refl

pub each_more : {X : Type 0} (f : ℕ → List X) (n : ℕ) → each_below f (n + 1) ≡ each_below f n ++ f n
each_more f n = rw (add-one n) (each_suc f n)

-- ---- the texts of elements

pub one_text : (e : Element) → flat_map element_text (e ∷ []) ≡ element_text e
one_text e = append-nil (element_text e)

pub two_texts : (d e : Element) → flat_map element_text (d ∷ e ∷ []) ≡ element_text d ++ element_text e
two_texts d e = ap (λ t. element_text d ++ t) (append-nil (element_text e))

-- one of two elements, as a test says
pub first_text : {l m : Penned} (d e : Element) (test : Bool) → test ≡ true
    → Goes l m (element_text d) → Goes l m (element_text (cond test d e))
first_text d e test is gathers = same gathers (ap (λ t. element_text (cond t d e)) is)

pub second_text : {l m : Penned} (d e : Element) (test : Bool) → test ≡ false
    → Goes l m (element_text e) → Goes l m (element_text (cond test d e))
second_text d e test is gathers = same gathers (ap (λ t. element_text (cond t d e)) is)

-- elements that are drawn where a test says so
pub drawn_if : {l m : Penned} (es : List Element) (test : Bool) → test ≡ true
    → Goes l m (flat_map element_text es) → Goes l m (flat_map element_text (cond test es []))
drawn_if es test is gathers = same gathers (ap (λ t. flat_map element_text (cond t es [])) is)

pub drawn_unless : {l m : Penned} (es : List Element) (test : Bool) → test ≡ false
    → Goes l m (flat_map element_text es) → Goes l m (flat_map element_text (cond test [] es))
drawn_unless es test is gathers = same gathers (ap (λ t. flat_map element_text (cond t [] es)) is)

pub not_drawn : {l : Penned} (es : List Element) (test : Bool) → test ≡ false
    → Goes l l (flat_map element_text (cond test es []))
not_drawn es test is = same unmoved (ap (λ t. flat_map element_text (cond t es [])) is)

pub one_drawn : {l m : Penned} (e : Element) → Goes l m (element_text e)
    → Goes l m (flat_map element_text (e ∷ []))
one_drawn e gathers = same gathers (one_text e)

pub text_more : (f : ℕ → List Element) (n : ℕ)
    → flat_map element_text (each_below f (n + 1)) ≡ flat_map element_text (each_below f n) ++ flat_map element_text (f n)
text_more f n = ap (flat_map element_text) (each_more f n) ∙ flat_map-append element_text (each_below f n) (f n)

pub single_more : (f : ℕ → Element) (n : ℕ)
    → flat_map element_text (each_below (λ i. f i ∷ []) (n + 1)) ≡ flat_map element_text (each_below (λ i. f i ∷ []) n) ++ element_text (f n)
single_more f n = text_more (λ i. f i ∷ []) n ∙ ap (λ t. flat_map element_text (each_below (λ i. f i ∷ []) n) ++ t) (one_text (f n))

-- the text of what is drawn for things
abbrev pub drawn_text : {X : Type 0} → (X → List Element) → List X → List ℕ
drawn_text h xs = flat_map element_text (flat_map h xs)

pub drawn_append : {X : Type 0} (h : X → List Element) (xs ys : List X) → drawn_text h (xs ++ ys) ≡ drawn_text h xs ++ drawn_text h ys
drawn_append h xs ys = ap (flat_map element_text) (flat_map-append h xs ys) ∙ flat_map-append element_text (flat_map h xs) (flat_map h ys)

pub drawn_more : {X : Type 0} (h : X → List Element) (f : ℕ → List X) (n : ℕ)
    → drawn_text h (each_below f (n + 1)) ≡ drawn_text h (each_below f n) ++ drawn_text h (f n)
drawn_more h f n = ap (drawn_text h) (each_more f n) ∙ drawn_append h (each_below f n) (f n)

pub drawn_one : {X : Type 0} (h : X → List Element) (x : X) → drawn_text h (x ∷ []) ≡ flat_map element_text (h x)
drawn_one h x = ap (flat_map element_text) (append-nil (h x))

pub three_texts : (v : Element) (a b : List Element)
    → flat_map element_text (v ∷ (a ++ b)) ≡ element_text v ++ (flat_map element_text a ++ flat_map element_text b)
three_texts v a b = ap (λ t. element_text v ++ t) (flat_map-append element_text a b)

joined : (start s a b c d e end : List ℕ) → start ++ ((s ++ (a ++ (b ++ (c ++ (d ++ e))))) ++ end) ≡ start ++ s ++ a ++ b ++ c ++ d ++ e ++ end
joined start s a b c d e end = simp append_assoc

four : (a b c d : List Element)
    → flat_map element_text (a ++ (b ++ (c ++ d)))
    ≡ flat_map element_text a ++ (flat_map element_text b ++ (flat_map element_text c ++ flat_map element_text d))
four a b c d =
    flat_map-append element_text a (b ++ (c ++ d))
    ∙ ap (λ (t : List ℕ). flat_map element_text a ++ t)
    (flat_map-append element_text b (c ++ d) ∙ ap (λ (t : List ℕ). flat_map element_text b ++ t) (flat_map-append element_text c d))

five : (a b c d e : List Element)
    → flat_map element_text (a ++ (b ++ (c ++ (d ++ e))))
    ≡ flat_map element_text a ++ (flat_map element_text b ++ (flat_map element_text c ++ (flat_map element_text d ++ flat_map element_text e)))
five a b c d e = flat_map-append element_text a (b ++ (c ++ (d ++ e))) ∙ ap (λ (t : List ℕ). flat_map element_text a ++ t) (four b c d e)

-- a picture, part by part
pub parts : (start end : List ℕ) (s : Element) (a b c d e : List Element)
    → start ++ (flat_map element_text (s ∷ (a ++ (b ++ (c ++ (d ++ e))))) ++ end)
    ≡ start ++ element_text s ++ flat_map element_text a ++ flat_map element_text b ++ flat_map element_text c ++ flat_map element_text d
    ++ flat_map element_text e ++ end
parts start end s a b c d e =
    ap (λ (t : List ℕ). start ++ ((element_text s ++ t) ++ end)) (five a b c d e)
    ∙ joined start (element_text s) (flat_map element_text a) (flat_map element_text b) (flat_map element_text c) (flat_map element_text d)
    (flat_map element_text e) end

-- what is drawn for one thing more
pub drawn_one_more : {X : Type 0} (h : X → List Element) (xs : List X) (x : X)
    → drawn_text h (xs ++ x ∷ []) ≡ drawn_text h xs ++ flat_map element_text (h x)
drawn_one_more h xs x = drawn_append h xs (x ∷ []) ∙ ap (λ t. drawn_text h xs ++ t) (drawn_one h x)
