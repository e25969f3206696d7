-- Below: what holds of lists that are joined number by number.
use Rattle.std.proofs.Common.{◌≡◌, ◌≢◌, ℕ, zero, suc, ◌*◌, ◌<◌, ◌≤◌, Bool, true, false, cond, ◌&&◌, List, [], ◌∷◌, ◌++◌, length, All, refl, ap, arith, inl, inr, length-append}
use Rattle.std.proofs.lemmas.Bool.{cases_lt}
use Rattle.std.proofs.lemmas.List.Elements.{All-nil, All-cons, All-append, All-head, All-tail, All-weaker}
use Rattle.fault_sites.specs.Sites.{each_below}
use Rattle.fault_sites.specs.Laws.{Distinct}

-- ---- each element

pub all_below : {X : Type 0} (P : X → Type 0) (f : ℕ → List X) (n : ℕ) → ((i : ℕ) → i < n → All P (f i)) → All P (each_below f n)
all_below P f zero h = All-nil P
all_below P f (suc i) h = All-append P (each_below f i) (f i) (all_below P f i (λ j l. h j (omega arith))) (h i (omega arith))

pub all_one : {X : Type 0} (P : X → Type 0) (x : X) → P x → All P (x ∷ [])
all_one P x h = All-cons P x [] h (All-nil P)

pub all_if : {X : Type 0} (P : X → Type 0) (b : Bool) (xs : List X) → (b ≡ true → All P xs) → All P (cond b xs [])
all_if P true xs h = h refl
all_if P false xs h = All-nil P

-- ---- a test of each number, which the checker computes

abbrev pub tested_below : (ℕ → Bool) → ℕ → Bool
tested_below p zero = true
tested_below p (suc i) = tested_below p i && p i

both : (a b : Bool) → (a && b) ≡ true → (a ≡ true) × (b ≡ true)
both true b h = (refl, h)
both false b h = absurd cc

pub passed : (p : ℕ → Bool) (n i : ℕ) → tested_below p n ≡ true → i < n → p i ≡ true
passed p zero i h l = absurd (omega arith)
passed p (suc n) i h l =
    let (front, last) = both (tested_below p n) (p n) h in
    elim (cases_lt i n) [
      | inl below ↦ passed p n i front below
      | inr past ↦ let here : i ≡ n = omega arith in rw here last
    ]

-- ---- each element once

pub distinct_append : {X : Type 0} (xs ys : List X) → Distinct xs → Distinct ys → All (λ x. All (λ y. x ≢ y) ys) xs → Distinct (xs ++ ys)
distinct_append [] ys front behind apart = behind
distinct_append (x ∷ xs) ys front behind apart = (
  All-append (λ y. x ≢ y) xs ys front.0 (All-head (λ x. All (λ y. x ≢ y) ys) x xs apart),
  distinct_append xs ys front.1 behind (All-tail (λ x. All (λ y. x ≢ y) ys) x xs apart),
)

pub distinct_one : {X : Type 0} (x : X) → Distinct (x ∷ [])
distinct_one x = (All-nil (λ y. x ≢ y), tt)

pub distinct_if : {X : Type 0} (b : Bool) (xs : List X) → Distinct xs → Distinct (cond b xs [])
distinct_if true xs h = h
distinct_if false xs h = tt

-- lists of other keys
pub apart_by : {X : Type 0} (key : X → ℕ) (P Q : ℕ → Type 0) (xs ys : List X) → ((m n : ℕ) → P m → Q n → m ≢ n) → All (λ x. P (key x)) xs
    → All (λ y. Q (key y)) ys → All (λ x. All (λ y. x ≢ y) ys) xs
apart_by key P Q xs ys other front behind =
    All-weaker (λ x. P (key x)) (λ x. All (λ y. x ≢ y) ys)
    (λ x p. All-weaker (λ y. Q (key y)) (λ y. x ≢ y) (λ y q e. other (key x) (key y) p q (ap key e)) ys behind) xs front

-- each list by itself, where the key tells the number
pub distinct_below : {X : Type 0} (key : X → ℕ) (f : ℕ → List X) (n : ℕ) → ((i : ℕ) → i < n → Distinct (f i))
    → ((i : ℕ) → i < n → All (λ x. key x ≡ i) (f i)) → Distinct (each_below f n)
distinct_below key f zero each is = tt
distinct_below key f (suc i) each is =
    distinct_append (each_below f i) (f i) (distinct_below key f i (λ j l. each j (omega arith)) (λ j l. is j (omega arith))) (each i (omega arith))
    (apart_by key (λ k. k < i) (λ k. k ≡ i) (each_below f i) (f i) (λ m n l e same. omega arith)
    (all_below (λ x. key x < i) f i (λ j l. All-weaker (λ x. key x ≡ j) (λ x. key x < i) (λ x e. omega arith) (f j) (is j (omega arith))))
    (is i (omega arith)))

-- ---- how many

pub length_below : {X : Type 0} (f : ℕ → List X) (n most : ℕ) → ((i : ℕ) → i < n → length (f i) ≤ most) → length (each_below f n) ≤ n * most
length_below f zero most h = omega arith
length_below f (suc i) most h =
    let front : length (each_below f i) ≤ i * most = length_below f i most (λ j l. h j (omega arith)) in
    let last : length (f i) ≤ most = h i (omega arith) in
    omega (arith, length-append (each_below f i) (f i))
