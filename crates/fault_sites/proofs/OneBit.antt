-- OneBit: what flips a bit of an integer, where it is added, leaves all other bits.
use Rattle.std.proofs.Common.{◌≡◌, ℕ, suc, ◌+◌, ◌-◌, ◌*◌, ◌/◌, ◌%◌, ◌^◌, ◌<◌, ◌≤◌, ◌==◌, Bool, true, false, not, cond, ℤ, pos, negsuc, neg_ℤ, ◌+ℤ◌, refl, sym, ap, ◌∙◌, arith, inl, inr}
use Rattle.std.specs.Int.{bit_at}
use Rattle.std.proofs.lemmas.Bool.{cases_eq, cases_lt, cases_order, cond-true, cond-false, eq-eqb, eqb-true, eqb-false, ne_eqb}
use Rattle.std.proofs.lemmas.Int.{ints}
use Rattle.std.proofs.lemmas.Nat.{pow_pos, shr_split}
use Rattle.std.proofs.lemmas.Nat.Bits.{bit_at-lt, bit_at-suc, bit_at_cat_low, bit_at_above, bit_at_cat_high, bit_at_lowest}
use Rattle.fault_sites.specs.Flips.{bit_of, flip}

-- ---- 2^b is added to a number whose bit b is 0

-- its parts above and below place b
split_more : (m b : ℕ) → m + 2 ^ b ≡ (m / 2 ^ b + 1) * 2 ^ b + m % 2 ^ b
split_more m b =
    let whole : m / 2 ^ b * 2 ^ b + m % 2 ^ b ≡ m = shr_split m b in
    let one_more : (m / 2 ^ b + 1) * 2 ^ b ≡ m / 2 ^ b * 2 ^ b + 2 ^ b = grind arith in
    omega (arith, whole, one_more)

-- the bits below
low : (m b c : ℕ) → c < b → bit_at (m + 2 ^ b) c ≡ bit_at m c
low m b c l =
    ap (λ (n : ℕ). bit_at n c) (split_more m b)
    ∙ (bit_at_cat_low (m / 2 ^ b + 1) b (m % 2 ^ b) c l
    ∙ (sym (bit_at_cat_low (m / 2 ^ b) b (m % 2 ^ b) c l) ∙ ap (λ (n : ℕ). bit_at n c) (shr_split m b)))

-- those from place b on are of the part above
above : (m b c : ℕ) → b ≤ c → bit_at m c ≡ bit_at (m / 2 ^ b) (c - b)
above m b c l =
    ap (λ (n : ℕ). bit_at n c) (sym (shr_split m b)) ∙ bit_at_cat_high (m / 2 ^ b) b (m % 2 ^ b) c (omega (arith, pow_pos b)) l

above_more : (m b c : ℕ) → b ≤ c → bit_at (m + 2 ^ b) c ≡ bit_at (m / 2 ^ b + 1) (c - b)
above_more m b c l =
    ap (λ (n : ℕ). bit_at n c) (split_more m b) ∙ bit_at_cat_high (m / 2 ^ b + 1) b (m % 2 ^ b) c (omega (arith, pow_pos b)) l

even_more : (a i : ℕ) → a % 2 ≡ 0 → bit_at (a + 1) (suc i) ≡ bit_at a (suc i)
even_more a i even =
    let half : (a + 1) / 2 ≡ a / 2 = omega (arith, even) in
    bit_at-suc (a + 1) i ∙ (ap (λ (h : ℕ). bit_at h i) half ∙ sym (bit_at-suc a i))

high : (m b c : ℕ) → bit_at m b ≡ 0 → b < c → bit_at (m + 2 ^ b) c ≡ bit_at m c
high m b c clear l =
    let on : c - b ≡ suc (c - b - 1) = omega arith in
    above_more m b c (omega arith)
    ∙ (ap (λ (i : ℕ). bit_at (m / 2 ^ b + 1) i) on
    ∙ (even_more (m / 2 ^ b) (c - b - 1) clear ∙ (ap (λ (i : ℕ). bit_at (m / 2 ^ b) i) (sym on) ∙ sym (above m b c (omega arith)))))

-- bit b itself
top_more : (m b : ℕ) → bit_at (m + 2 ^ b) b ≡ (m / 2 ^ b + 1) % 2
top_more m b =
    let none : b - b ≡ 0 = omega arith in
    above_more m b b (omega arith) ∙ (ap (λ (i : ℕ). bit_at (m / 2 ^ b + 1) i) none ∙ bit_at_lowest (m / 2 ^ b + 1))

one_more : (m b : ℕ) → bit_at m b ≡ 0 → bit_at (m + 2 ^ b) b ≡ 1
one_more m b clear = let odd : (m / 2 ^ b + 1) % 2 ≡ 1 = omega (arith, clear) in top_more m b ∙ odd

-- ---- the same of the tests of bits

-- bit c of a number is 1
abbrev has : ℕ → ℕ → Bool
has n c = n / 2 ^ c % 2 == 1

-- bit c, where bit b is turned
abbrev turned : ℕ → ℕ → Bool → Bool
turned b c x = cond (c == b) (not x) x

at_place : (b c : ℕ) (x : Bool) → c ≡ b → turned b c x ≡ not x
at_place b c x is = cond-true (c == b) (not x) x (eq-eqb c b is)

elsewhere : (b c : ℕ) (x : Bool) → (c ≡ b → ⊥) → turned b c x ≡ x
elsewhere b c x is = cond-false (c == b) (not x) x (ne_eqb c b is)

twice : (b c : ℕ) (x y : Bool) → x ≡ turned b c y → y ≡ turned b c x
twice b c x y is = elim (cases_eq c b) [
  | inl here ↦ sym (at_place b c x here ∙ (ap not (is ∙ at_place b c y here) ∙ not_twice y))
  | inr other ↦ sym (elsewhere b c x other ∙ (is ∙ elsewhere b c y other))
]
  where
    not_twice : (y : Bool) → not (not y) ≡ y
    not_twice true = refl
    not_twice false = refl

clear : (m b : ℕ) → has m b ≡ false → bit_at m b ≡ 0
clear m b is = omega (arith, bit_at-lt m b, eqb-false (bit_at m b) 1 is)

added : (m b c : ℕ) → has m b ≡ false → has (m + 2 ^ b) c ≡ turned b c (has m c)
added m b c is = elim (cases_order c b) [
  | inl here ↦ rw here (ap (λ (x : ℕ). x == 1) (one_more m b (clear m b is)) ∙ sym (at_place b b (has m b) refl ∙ ap not is))
  | inr other ↦ elim other [
    | inl below ↦ ap (λ (x : ℕ). x == 1) (low m b c below) ∙ sym (elsewhere b c (has m c) (λ e. omega (arith, below, e)))
    | inr above ↦ ap (λ (x : ℕ). x == 1) (high m b c (clear m b is) above) ∙ sym (elsewhere b c (has m c) (λ e. omega (arith, above, e)))
  ]
]

-- where bit b is 1, 2^b is in the number, and bit b of what is left is 0
within : (n b : ℕ) → has n b ≡ true → 2 ^ b ≤ n
within n b is = elim (cases_lt n (2 ^ b)) [
  | inl below ↦ absurd (omega (arith, bit_at_above n b b below (omega arith), eqb-true (bit_at n b) 1 is))
  | inr above ↦ above
]

left_clear : (m b : ℕ) → has (m + 2 ^ b) b ≡ true → has m b ≡ false
left_clear m b is = ne_eqb (bit_at m b) 1 (λ e. omega (arith, top_more m b, eqb-true (bit_at (m + 2 ^ b) b) 1 is, e))

taken : (n b c : ℕ) → has n b ≡ true → has (n - 2 ^ b) c ≡ turned b c (has n c)
taken n b c is =
    let whole : n - 2 ^ b + 2 ^ b ≡ n = omega (arith, within n b is) in
    let left : has (n - 2 ^ b) b ≡ false = left_clear (n - 2 ^ b) b (ap (λ (m : ℕ). has m b) whole ∙ is) in
    twice b c (has n c) (has (n - 2 ^ b) c) (ap (λ (m : ℕ). has m c) (sym whole) ∙ added (n - 2 ^ b) b c left)

-- ---- integers

plus_turned : (n b c : ℕ) (x : Bool) → has n b ≡ x → bit_of (pos n +ℤ cond x (neg_ℤ (pos (2 ^ b))) (pos (2 ^ b))) c ≡ turned b c (has n c)
plus_turned n b c true is =
    let less : pos n +ℤ neg_ℤ (pos (2 ^ b)) ≡ pos (n - 2 ^ b) = omega (arith, ints, within n b is) in
    ap (λ (z : ℤ). bit_of z c) less ∙ taken n b c is
plus_turned n b c false is = added n b c is

not_turned : (b c : ℕ) (x : Bool) → not (turned b c x) ≡ turned b c (not x)
not_turned b c x = by (c == b)
  where
    by : (here : Bool) → not (cond here (not x) x) ≡ cond here (not (not x)) (not x)
    by true = refl
    by false = refl

minus_turned : (n b c : ℕ) (x : Bool) → has n b ≡ x
    → bit_of (negsuc n +ℤ cond (not x) (neg_ℤ (pos (2 ^ b))) (pos (2 ^ b))) c ≡ turned b c (not (has n c))
minus_turned n b c true is =
    let less : negsuc n +ℤ pos (2 ^ b) ≡ negsuc (n - 2 ^ b) = omega (arith, ints, within n b is) in
    ap (λ (z : ℤ). bit_of z c) less ∙ (ap not (taken n b c is) ∙ not_turned b c (has n c))
minus_turned n b c false is =
    let more : negsuc n +ℤ neg_ℤ (pos (2 ^ b)) ≡ negsuc (n + 2 ^ b) = omega (arith, ints) in
    ap (λ (z : ℤ). bit_of z c) more ∙ (ap not (added n b c is) ∙ not_turned b c (has n c))

pub flips_one_bit : (w : ℤ) (b c : ℕ) → bit_of (w +ℤ flip w b) c ≡ cond (c == b) (not (bit_of w c)) (bit_of w c)
flips_one_bit (pos n) b c = plus_turned n b c (has n b) refl
flips_one_bit (negsuc n) b c = minus_turned n b c (has n b) refl
