-- One digit more.
use Rattle.std.proofs.Common.{◌≡◌, ℕ, suc, ◌+◌, ◌-◌, ◌*◌, ◌^◌, ◌<◌, ◌&&◌, true, false, Bool, List, [], ◌∷◌, ◌++◌, length, take, drop, get_or, refl, ap, ◌∙◌}
use Rattle.std.proofs.Common.{arith, add-one, None, nat_le}
use Rattle.std.proofs.Math.Nat.{pow-suc}
use Rattle.std.proofs.Math.Seq.{take-suc, split_at}
use Rattle.std.proofs.lemmas.Bool.{false≢true}
use Rattle.std.proofs.lemmas.Bool.Decides.{nat_tests}
use Rattle.std.specs.Char.{digit_value, is_ascii_digit}
use Rattle.std.specs.Str.{all_ascii_digits}
use Rattle.std.specs.Str.Parse.{digits_value, digits_value_after}
use Rattle.vcp_base.specs.Numerals.{numeral_of}

-- the value of digits, and of one more
value_more : (n : ℕ) (xs : List ℕ) (c : ℕ) → digits_value_after 10 n (xs ++ c ∷ []) ≡ digits_value_after 10 n xs * 10 + digit_value c
value_more n [] c = refl
value_more n (x ∷ xs) c = value_more (n * 10 + digit_value x) xs c

-- the value of a decimal digit
digit_is : (c : ℕ) → is_ascii_digit c ≡ true → digit_value c ≡ c - 48
digit_is c h = grind (arith, nat_tests)

and_true : (a b : Bool) → (a && b) ≡ true → (a ≡ true) × (b ≡ true)
and_true true b h = (refl, h)
and_true false b h = absurd (false≢true h)

all_more : (xs : List ℕ) (c : ℕ) → all_ascii_digits xs ≡ true → is_ascii_digit c ≡ true → all_ascii_digits (xs ++ c ∷ []) ≡ true
all_more [] c h k = rw k refl
all_more (x ∷ xs) c h k =
    let parts = and_true (is_ascii_digit x) (all_ascii_digits xs) h in
    rw (parts.0, all_more xs c parts.1 k) refl

and_false : (b : Bool) → (b && false) ≡ false
and_false true = refl
and_false false = refl

-- a byte that is no digit
not_all : (xs : List ℕ) (c : ℕ) (ys : List ℕ) → is_ascii_digit c ≡ false → all_ascii_digits (xs ++ c ∷ ys) ≡ false
not_all [] c ys h = rw h refl
not_all (x ∷ xs) c ys h = rw (not_all xs c ys h) (and_false (is_ascii_digit x))

pub all_digits_more : (xs : List ℕ) (i : ℕ) → i < length xs → all_ascii_digits (take i xs) ≡ true → is_ascii_digit (get_or xs i 0) ≡ true →
    all_ascii_digits (take (i + 1) xs) ≡ true
all_digits_more xs i h before here = rw (add-one, take-suc xs i 0 h) (all_more (take i xs) (get_or xs i 0) before here)

pub digits_value_more : (xs : List ℕ) (i : ℕ) → i < length xs → is_ascii_digit (get_or xs i 0) ≡ true →
    digits_value 10 (take (i + 1) xs) ≡ digits_value 10 (take i xs) * 10 + (get_or xs i 0 - 48)
digits_value_more xs i h here =
    rw (add-one, take-suc xs i 0 h, ← digit_is (get_or xs i 0) here) (value_more 0 (take i xs) (get_or xs i 0))

pub digits_below : (v i c : ℕ) → v < 10 ^ i → is_ascii_digit c ≡ true → v * 10 + (c - 48) < 10 ^ (i + 1)
digits_below v i c h k =
    let small : c - 48 < 10 = grind (arith, nat_tests) in
    let e : 10 ^ (i + 1) ≡ 10 ^ i * 10 = rw (add-one, pow-suc) refl in
    rw e (omega arith)

pub no_numeral : (xs : List ℕ) (i : ℕ) → i < length xs → is_ascii_digit (get_or xs i 0) ≡ false → numeral_of xs ≡ None
no_numeral xs i h here =
    let none : all_ascii_digits xs ≡ false = ap all_ascii_digits (split_at xs i 0 h) ∙ not_all (take i xs) (get_or xs i 0) (drop (suc i) xs) here in
    rw (none, and_false (nat_le (length xs) 10), and_false (nat_le 1 (length xs))) refl
