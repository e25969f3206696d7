-- Parts: a part of sites that are joined is a part of the first ones, and then one of the others.
use Rattle.std.proofs.Common.{◌≡◌, ℕ, zero, suc, ◌+◌, ◌-◌, ◌<◌, ◌≤◌, ◌==◌, true, false, List, [], ◌∷◌, ◌++◌, length, take, drop, refl, sym, ap, ◌∙◌, arith, inl, inr, length-append}
use Rattle.std.proofs.lemmas.List.{drop_all}
use Rattle.std.proofs.lemmas.Bool.{cases_lt}
use Rattle.std.proofs.lemmas.Bool.Decides.{nat_tests}
use Rattle.fault_sites.specs.declared.part.Part.{Part}
use Rattle.fault_sites.specs.declared.site.Site.{Site}
use Rattle.fault_sites.specs.Part.{kept, after}

abbrev none : List Site
none = []

take_none : (xs : List Site) → take 0 xs ≡ none
take_none [] = refl
take_none (x ∷ xs) = refl

take_nil : (n : ℕ) → take n none ≡ none
take_nil zero = refl
take_nil (suc n) = refl

drop_zero : (xs : List Site) → drop 0 xs ≡ xs
drop_zero [] = refl
drop_zero (x ∷ xs) = refl

drop_nil : (n : ℕ) → drop n none ≡ none
drop_nil zero = refl
drop_nil (suc n) = refl

-- of two lists joined, where these are the lengths that are left
cut_by : (s l t m : ℕ) (xs ys : List Site) → t ≡ s - length xs → m ≡ l - (length xs - s)
    → take l (drop s (xs ++ ys)) ≡ take l (drop s xs) ++ take m (drop t ys)
cut_by s l t m [] ys e f =
    let skip : t ≡ s = omega (arith, e) in
    let left : m ≡ l = omega (arith, f) in
    rw (skip, left, drop_nil s, take_nil l) refl
cut_by zero zero t m (x ∷ xs) ys e f =
    let left : m ≡ 0 = omega (arith, f) in
    rw (left, take_none (drop t ys)) refl
cut_by zero (suc l) t m (x ∷ xs) ys e f =
    let more = cut_by zero l t m xs ys (omega (arith, e)) (omega (arith, f)) in
    ap (λ (t : List Site). x ∷ t) (rw (drop_zero (xs ++ ys), drop_zero xs) at more)
cut_by (suc s) l t m (x ∷ xs) ys e f = cut_by s l t m xs ys (omega (arith, e)) (omega (arith, f))

pub kept_over : (p : Part) (xs : List Site) → p.left ≡ 0 → kept p xs ≡ none
kept_over p xs e = rw e (take_none (drop p.skip xs))

-- the part behind these sites, where it is over and where it isn't
pub after_over : (p : Part) (xs : List Site) → p.left ≡ 0 → after p xs ≡ p
after_over p xs e = let is : (p.left == 0) ≡ true = grind (arith, nat_tests) in rw is refl

pub after_going : (p : Part) (xs : List Site) → 0 < p.left
    → after p xs ≡ record { skip = p.skip - length xs; left = p.left - (length xs - p.skip) }
after_going p xs l = let is : (p.left == 0) ≡ false = grind (arith, nat_tests) in rw is refl

abbrev pub part_of : ℕ → ℕ → Part
part_of s l = record { skip = s; left = l }

pub part_same : (s t l m : ℕ) → s ≡ t → l ≡ m → part_of s l ≡ part_of t m
part_same s t l m e f = rw (e, f) refl

pub kept_append : (p : Part) (xs ys : List Site) → kept p (xs ++ ys) ≡ kept p xs ++ kept (after p xs) ys
kept_append p xs ys = elim (cases_lt 0 p.left) [
  | inl going ↦ rw (after_going p xs going) (cut_by p.skip p.left (p.skip - length xs) (p.left - (length xs - p.skip)) xs ys refl refl)
  | inr past ↦
      let done : p.left ≡ 0 = omega arith in
      rw (after_over p xs done) (kept_over p (xs ++ ys) done ∙ sym (ap (λ (t : List Site). t ++ kept p ys) (kept_over p xs done) ∙ kept_over p ys done))
]

after_by : (p : Part) (s l m : ℕ) (xs ys : List Site) → 0 < p.left → s ≡ p.skip - length xs → l ≡ p.left - (length xs - p.skip) → m ≡ length xs + length ys
    → after (part_of s l) ys ≡ part_of (p.skip - m) (p.left - (m - p.skip))
after_by p s l m xs ys going e f g = elim (cases_lt 0 l) [
  | inl more ↦ after_going (part_of s l) ys more ∙ part_same _ _ _ _ (omega (arith, e, g)) (omega (arith, e, f, g))
  | inr past ↦
      let done : l ≡ 0 = omega arith in
      after_over (part_of s l) ys done ∙ part_same s _ l _ (omega (arith, e, f, g)) (omega (arith, e, f, g))
]

pub after_append : (p : Part) (xs ys : List Site) → after (after p xs) ys ≡ after p (xs ++ ys)
after_append p xs ys = elim (cases_lt 0 p.left) [
  | inr past ↦
      let done : p.left ≡ 0 = omega arith in
      ap (λ (q : Part). after q ys) (after_over p xs done) ∙ (after_over p ys done ∙ sym (after_over p (xs ++ ys) done))
  | inl going ↦
      ap (λ (q : Part). after q ys) (after_going p xs going)
      ∙ (after_by p _ _ (length (xs ++ ys)) xs ys going refl refl (length-append xs ys) ∙ sym (after_going p (xs ++ ys) going))
]

pub after_nil : (p : Part) → after p [] ≡ p
after_nil p = elim (cases_lt 0 p.left) [
  | inr past ↦ after_over p [] (omega arith)
  | inl going ↦ after_going p [] going ∙ part_same (p.skip - 0) p.skip (p.left - (0 - p.skip)) p.left (omega arith) (omega arith)
]

pub kept_nil : (p : Part) → kept p [] ≡ []
kept_nil p = rw (drop_nil p.skip) (take_nil p.left)

-- of sites that all stand before the part
pub kept_before : (p : Part) (xs : List Site) → length xs ≤ p.skip → kept p xs ≡ []
kept_before p xs few = rw (drop_all p.skip xs few) (take_nil p.left)

-- ---- two parts

suc_plus : (a b : ℕ) → suc a + b ≡ suc (a + b)
suc_plus a b = omega arith

zero_plus : (b : ℕ) → 0 + b ≡ b
zero_plus b = omega arith

take_more : (a b : ℕ) (xs : List Site) → take (a + b) xs ≡ take a xs ++ take b (drop a xs)
take_more zero b xs =
    ap (λ (n : ℕ). take n xs) (zero_plus b)
    ∙ sym (ap (λ (t : List Site). t ++ take b (drop 0 xs)) (take_none xs) ∙ ap (λ (t : List Site). take b t) (drop_zero xs))
take_more (suc a) b [] = take_nil (suc a + b) ∙ sym (take_nil b)
take_more (suc a) b (x ∷ xs) = ap (λ (n : ℕ). take n (x ∷ xs)) (suc_plus a b) ∙ ap (λ (t : List Site). x ∷ t) (take_more a b xs)

drop_more_of : (s a : ℕ) (xs : List Site) → drop (s + a) xs ≡ drop a (drop s xs)
drop_more_of zero a xs = ap (λ (n : ℕ). drop n xs) (zero_plus a) ∙ sym (ap (λ (t : List Site). drop a t) (drop_zero xs))
drop_more_of (suc s) a [] = drop_nil (suc s + a) ∙ sym (drop_nil a)
drop_more_of (suc s) a (x ∷ xs) = ap (λ (n : ℕ). drop n (x ∷ xs)) (suc_plus s a) ∙ drop_more_of s a xs

pub parts_are_whole : (xs : List Site) (skip first second : ℕ) →
    kept (part_of skip (first + second)) xs ≡ kept (part_of skip first) xs ++ kept (part_of (skip + first) second) xs
parts_are_whole xs skip first second = rw (drop_more_of skip first xs) (take_more first second (drop skip xs))

-- of one site that is the first of the part
pub kept_first : (p : Part) (s : Site) → 0 < p.left → p.skip ≡ 0 → kept p (s ∷ []) ≡ s ∷ []
kept_first p s going none = rw none (first p.left going)
  where
    first : (l : ℕ) → 0 < l → take l (s ∷ []) ≡ s ∷ []
    first zero h = absurd (omega arith)
    first (suc l) h = ap (λ (t : List Site). s ∷ t) (take_nil l)
