-- IntegerTexts: what a text with an optional sign spells, where numbers that no type has are cut.
use Rattle.std.proofs.Common.{◌≡◌, ℕ, zero, suc, ◌-◌, ◌^◌, ◌<◌, ◌≤◌, ◌==◌, min, Bool, true, false, cond, ◌&&◌, List, [], ◌∷◌, length, take, drop, get_or, Option, Some, None}
use Rattle.std.proofs.Common.{option_map, option_and_then, ℤ, pos, neg_ℤ, ◌≤ℤ◌, to_z, refl, sym, ap, subst, ◌∙◌, arith, rules, inl, inr}
use mir.Syntax.{w128}
use Rattle.std.specs.Char.{is_ascii_digit}
use Rattle.std.specs.List.{list_all}
use Rattle.std.proofs.lemmas.Int.{to_z_pos}
use Rattle.std.proofs.lemmas.List.{take_all}
use Rattle.std.proofs.lemmas.List.Folds.{list_all_at}
use Rattle.std.proofs.lemmas.Bool.{cases_lt, ne_eqb, lt-leb, eqb-true}
use Rattle.vcp_base.specs.declared.ty.Ty.{Ty}
use Rattle.vcp_base.specs.declared.ty.Ty.TheVariants as ty
use Rattle.vcp_base.specs.Types.{fits}
use Rattle.vcp_base.specs.Numerals.{number_of, natural_of, cut_natural, integer_of, in_type}
use Rattle.vcp_base.proofs.Firsts.{part_to_end}

-- ---- a value beyond 64 bits is in no type

second_no : (a b : Bool) → b ≡ false → (a && b) ≡ false
second_no true b e = e
second_no false b e = refl

no_value : (t : Ty) (v : ℤ) → fits t v ≡ false → in_type t v ≡ None
no_value t v e = ap (λ (b : Bool). cond b (Some v) None) e

too_great : (t : Ty) (n : ℕ) → 2 ^ 64 ≤ n → fits t (pos n) ≡ false
too_great ty.Bool n big = second_no _ _ (lt-leb n 1 (omega (arith, big)))
too_great ty.Int n big = lt-leb n 32767 (omega (arith, big))
too_great ty.Dint n big = lt-leb n 2147483647 (omega (arith, big))
too_great ty.Lint n big = lt-leb n 9223372036854775807 (omega (arith, big))

too_small : (t : Ty) (n : ℕ) → 2 ^ 64 ≤ n → fits t (neg_ℤ (pos n)) ≡ false
too_small t zero big = absurd (omega (arith, big))
too_small ty.Bool (suc n) big = refl
too_small ty.Int (suc n) big = ap (λ (b : Bool). b && true) (lt-leb n 32767 (omega (arith, big)))
too_small ty.Dint (suc n) big = ap (λ (b : Bool). b && true) (lt-leb n 2147483647 (omega (arith, big)))
too_small ty.Lint (suc n) big = ap (λ (b : Bool). b && true) (lt-leb n 9223372036854775807 (omega (arith, big)))

-- ---- what is cut is in no type

-- two integers are one in each type
abbrev pub Alike : Option ℤ → Option ℤ → Type 0
Alike o p = (t : Ty) → option_and_then (in_type t) o ≡ option_and_then (in_type t) p

cut_alike : (f : ℕ → ℤ) → ((t : Ty) (n : ℕ) → 2 ^ 64 ≤ n → fits t (f n) ≡ false) → (o : Option ℕ)
    → Alike (option_map (λ n. f (min n (2 ^ 64))) o) (option_map f o)
cut_alike f none None t = refl
cut_alike f none (Some n) t = elim (cases_lt n (2 ^ 64)) [
  | inl low ↦ let e : min n (2 ^ 64) ≡ n = omega (arith, low) in ap (λ (m : ℕ). in_type t (f m)) e
  | inr big ↦
      let e : min n (2 ^ 64) ≡ 2 ^ 64 = omega (arith, big) in
      let top : 2 ^ 64 ≤ min n (2 ^ 64) = omega (arith, big) in
      no_value t (f (min n (2 ^ 64))) (none t (min n (2 ^ 64)) top) ∙ sym (no_value t (f n) (none t n big))
]

-- a minus sign before what is cut
minus_cut : (o : Option ℕ) → option_map neg_ℤ (cut_natural o) ≡ option_map (λ n. neg_ℤ (pos (min n (2 ^ 64)))) o
minus_cut None = refl
minus_cut (Some n) = refl

-- ---- the text

-- what follows the first byte
rest_is : (c : ℕ) (text digits : List ℕ) → digits ≡ take (length (c ∷ text) - 1) (drop 1 (c ∷ text)) → digits ≡ text
rest_is c text digits is = is ∙ part_to_end (c ∷ text) 1

after_plus : (c : ℕ) (text : List ℕ) → c ≡ 43 → integer_of (c ∷ text) ≡ option_map pos (natural_of text)
after_plus c text is =
    ap (λ (b : Bool). cond b (option_map pos (natural_of text))
    (cond (c == 45) (option_map (λ n. neg_ℤ (pos n)) (natural_of text)) (option_map pos (natural_of (c ∷ text))))) (ap (λ (x : ℕ). x == 43) is)

after_minus : (c : ℕ) (text : List ℕ) → (c ≡ 43 → ⊥) → c ≡ 45 → integer_of (c ∷ text) ≡ option_map (λ n. neg_ℤ (pos n)) (natural_of text)
after_minus c text isnt is =
    ap (λ (b : Bool). cond b (option_map pos (natural_of text))
    (cond (c == 45) (option_map (λ n. neg_ℤ (pos n)) (natural_of text)) (option_map pos (natural_of (c ∷ text))))) (ne_eqb c 43 isnt)
    ∙ ap (λ (b : Bool). cond b (option_map (λ n. neg_ℤ (pos n)) (natural_of text)) (option_map pos (natural_of (c ∷ text)))) (ap (λ (x : ℕ). x == 45) is)

no_sign : (c : ℕ) (text : List ℕ) → (c ≡ 43 → ⊥) → (c ≡ 45 → ⊥) → integer_of (c ∷ text) ≡ option_map pos (natural_of (c ∷ text))
no_sign c text isnt neither =
    ap (λ (b : Bool). cond b (option_map pos (natural_of text))
    (cond (c == 45) (option_map (λ n. neg_ℤ (pos n)) (natural_of text)) (option_map pos (natural_of (c ∷ text))))) (ne_eqb c 43 isnt)
    ∙ ap (λ (b : Bool). cond b (option_map (λ n. neg_ℤ (pos n)) (natural_of text)) (option_map pos (natural_of (c ∷ text)))) (ne_eqb c 45 neither)

pub empty_text : (text : List ℕ) → length text < 1 → Alike None (integer_of text)
empty_text [] none t = refl
empty_text (c ∷ text) none t = absurd (omega (arith, none))

pub plus_text : (text digits : List ℕ) (r : Option ℤ) → 1 ≤ length text → get_or text 0 0 ≡ 43 → digits ≡ take (length text - 1) (drop 1 text)
    → r ≡ cut_natural (natural_of digits) → Alike r (integer_of text)
plus_text [] digits r some is rest e t = absurd (omega (arith, some))
plus_text (c ∷ text) digits r some is rest e t =
    ap (option_and_then (in_type t)) (e ∙ ap (λ (ds : List ℕ). cut_natural (natural_of ds)) (rest_is c text digits rest))
    ∙ cut_alike pos too_great (natural_of text) t ∙ ap (option_and_then (in_type t)) (sym (after_plus c text is))

pub minus_text : (text digits : List ℕ) (o r : Option ℤ) → 1 ≤ length text → (get_or text 0 0 ≡ 43 → ⊥) → get_or text 0 0 ≡ 45
    → digits ≡ take (length text - 1) (drop 1 text) → o ≡ cut_natural (natural_of digits) → r ≡ option_map neg_ℤ o → Alike r (integer_of text)
minus_text [] digits o r some isnt is rest e f t = absurd (omega (arith, some))
minus_text (c ∷ text) digits o r some isnt is rest e f t =
    ap (option_and_then (in_type t))
    (f ∙ ap (option_map neg_ℤ) (e ∙ ap (λ (ds : List ℕ). cut_natural (natural_of ds)) (rest_is c text digits rest)) ∙ minus_cut (natural_of text))
    ∙ cut_alike (λ n. neg_ℤ (pos n)) too_small (natural_of text) t ∙ ap (option_and_then (in_type t)) (sym (after_minus c text isnt is))

pub unsigned_text : (text : List ℕ) (r : Option ℤ) → 1 ≤ length text → (get_or text 0 0 ≡ 43 → ⊥) → (get_or text 0 0 ≡ 45 → ⊥)
    → r ≡ cut_natural (natural_of text) → Alike r (integer_of text)
unsigned_text [] r some isnt neither e t = absurd (omega (arith, some))
unsigned_text (c ∷ text) r some isnt neither e t =
    ap (option_and_then (in_type t)) e ∙ cut_alike pos too_great (natural_of (c ∷ text)) t
    ∙ ap (option_and_then (in_type t)) (sym (no_sign c text isnt neither))

-- ---- the digits

pub no_number : (digits : List ℕ) (i : ℕ) → i < length digits → is_ascii_digit (get_or digits i 0) ≡ false → None ≡ cut_natural (natural_of digits)
no_number [] i there isnt = absurd (omega (arith, there))
no_number (c ∷ digits) i there isnt =
    sym (ap (λ (b : Bool). cut_natural (cond b (Some (number_of (c ∷ digits))) None)) (list_all_at is_ascii_digit (c ∷ digits) i 0 there isnt))

pub no_digits : (digits : List ℕ) → (length digits == 0) ≡ true → None ≡ cut_natural (natural_of digits)
no_digits [] none = refl
no_digits (c ∷ digits) none = let long : length (c ∷ digits) ≡ 0 = eqb-true (length (c ∷ digits)) 0 none in absurd (omega (arith, long))

small : (n m : ℕ) → n ≡ min m (2 ^ 64) → to_z w128 n ≡ pos n
small n m is = to_z_pos w128 n (omega (arith, is))

whole : (digits : List ℕ) (n : ℕ) → n ≡ min (number_of digits) (2 ^ 64) → list_all is_ascii_digit digits ≡ true → (length digits == 0) ≡ false
    → Some (to_z w128 n) ≡ cut_natural (natural_of digits)
whole [] n is all some = absurd cc
whole (c ∷ digits) n is all some =
    ap Some (small n (number_of (c ∷ digits)) is ∙ ap pos is)
    ∙ sym (ap (λ (b : Bool). cut_natural (cond b (Some (number_of (c ∷ digits))) None)) all)

pub whole_number : (digits : List ℕ) (i n : ℕ) → n ≡ min (number_of (take i digits)) (2 ^ 64) → list_all is_ascii_digit (take i digits) ≡ true
    → length digits ≤ i → (length digits == 0) ≡ false → Some (to_z w128 n) ≡ cut_natural (natural_of digits)
whole_number digits i n is all past some =
    let every : take i digits ≡ digits = take_all i digits past in
    whole digits n (is ∙ ap (λ (ds : List ℕ). min (number_of ds) (2 ^ 64)) every) (ap (list_all is_ascii_digit) (sym every) ∙ all) some

pub has_no_sign : (n m : ℕ) → n ≡ min m (2 ^ 64) → pos 0 ≤ℤ to_z w128 n
has_no_sign n m is = subst (λ (z : ℤ). pos 0 ≤ℤ z) (sym (small n m is)) (search rules)
