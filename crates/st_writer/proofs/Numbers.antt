-- The decimal text of a number is read as the number.
use Rattle.std.proofs.Common.{◌≡◌, ℕ, ◌+◌, ◌*◌, ◌-◌, ◌^◌, ◌<◌, Bool, true, false, cond, ◌&&◌, List, [], ◌∷◌, length, Option, Some, None, sym, refl, ◌∙◌, arith}
use Rattle.std.specs.Prelude.{nat_lt, nat_eq, ◌==◌}
use Rattle.std.specs.List.{list_all}
use Rattle.std.specs.Char.{is_ascii_digit, digit_value, to_ascii_lowercase}
use Rattle.std.specs.Str.{str_eq_ignore_ascii_case}
use Rattle.std.specs.Fmt.{decimal}
use Rattle.std.specs.Str.Parse.{AllDigits, digits_value_after}
use Rattle.std.proofs.lemmas.Bool.Decides.{nat_tests}
use Rattle.std.proofs.lemmas.Fmt.{decimal_is_IsNumeral}
use Rattle.vcp_base.specs.declared.ty.Ty.{Ty}
use Rattle.vcp_base.specs.declared.ty.Ty.TheVariants as ty
use Rattle.st_lexer.specs.Literals.{digit, are_digits, number, digits, based, plain}
use Rattle.st_lexer.specs.Symbols.{begins}

digit-is : (c : ℕ) → digit_value c < 10 → (is_ascii_digit c ≡ true) × (digit_value c ≡ c - 48)
digit-is c lt = grind (arith, nat_tests)

pub digit-of : (c : ℕ) → is_ascii_digit c ≡ true → digit c ≡ c - 48
unfolding digit
digit-of c e = rw e refl

pub both : (t u : Bool) → (t && u) ≡ true → (t ≡ true) × (u ≡ true)
both true u e = (refl, e)
both false u e = absurd cc

pub and-false : (t u : Bool) → u ≡ false → (t && u) ≡ false
and-false true u e = e
and-false false u e = refl

digit-value : (c : ℕ) → digit_value c < 10 → digit c ≡ digit_value c
digit-value c lt = let d = digit-is c lt in digit-of c d.0 ∙ sym d.1

digit-not-gap : (c : ℕ) → is_ascii_digit c ≡ true → (c == 95) ≡ false
digit-not-gap c e = grind (arith, nat_tests)

all-digits : (ds : List ℕ) → AllDigits 10 ds → list_all is_ascii_digit ds ≡ true
all-digits [] h = refl
all-digits (c ∷ cs) h = rw (digit-is c h.0).0 (all-digits cs h.1)

number-is : (n : ℕ) (ds : List ℕ) → AllDigits 10 ds → number 10 n ds ≡ digits_value_after 10 n ds
unfolding number
number-is n [] h = refl
number-is n (c ∷ cs) h =
    let d = digit-is c h.0 in
    rw (digit-not-gap c d.0, digit-value c h.0) (number-is (n * 10 + digit_value c) cs h.1)

less : (m n : ℕ) → m < n → nat_lt m n ≡ true
less m n lt = grind (arith, nat_tests)

are-digits : (ds : List ℕ) → AllDigits 10 ds → are_digits 10 true ds ≡ true
unfolding are_digits
are-digits [] h = refl
are-digits (c ∷ cs) h = rw (digit-value c h.0, less (digit_value c) 10 h.0) (are-digits cs h.1)

are-some-digits : (ds : List ℕ) → 0 < length ds → AllDigits 10 ds → are_digits 10 false ds ≡ true
unfolding are_digits
are-some-digits [] lt h = absurd (omega (arith, lt))
are-some-digits (c ∷ cs) lt h = rw (digit-value c h.0, less (digit_value c) 10 h.0) (are-digits cs h.1)

digits-of : (t : Bool) (m n : ℕ) → t ≡ true → m ≡ n → n < 2 ^ 63 → cond (t && nat_lt m (2 ^ 63)) (Some m) None ≡ Some n
digits-of t m n e f lt = rw (e, f, less n (2 ^ 63) lt) refl

-- some decimal digits that spell a number
pub record AreDecimal (ds : List ℕ) (n : ℕ) : Type 0 where
  pub some_of : 0 < length ds
  pub each : list_all is_ascii_digit ds ≡ true
  pub read : digits 10 ds ≡ Some n

pub decimal-is : (n : ℕ) → n < 2 ^ 63 → AreDecimal (decimal n) n
decimal-is n lt =
    let d = decimal_is_IsNumeral n (omega (arith, lt)) in
    record {
      some_of = d.0.0;
      each = all-digits (decimal n) d.0.1;
      read = digits-of (are_digits 10 false (decimal n)) (number 10 0 (decimal n)) n (are-some-digits (decimal n) d.0.0 d.0.1)
          (number-is 0 (decimal n) d.0.1 ∙ d.1) lt;
    }

-- ---- no base stands before the digits, and they are no word

digit-not-mark : (c : ℕ) → is_ascii_digit c ≡ true → nat_eq 35 c ≡ false
digit-not-mark c e = grind (arith, nat_tests)

no-base-of-one : (b : ℕ) (ds : List ℕ) → list_all is_ascii_digit ds ≡ true → begins (b ∷ 35 ∷ []) ds ≡ false
no-base-of-one b [] e = refl
no-base-of-one b (c ∷ []) e = and-false _ _ refl
no-base-of-one b (c ∷ d ∷ ds) e =
    let h = both (is_ascii_digit d) _ (both (is_ascii_digit c) _ e).1 in
    and-false (nat_eq b c) (nat_eq 35 d && true) (rw (digit-not-mark d h.0) refl)

no-base-of-two : (a b : ℕ) (ds : List ℕ) → list_all is_ascii_digit ds ≡ true → begins (a ∷ b ∷ 35 ∷ []) ds ≡ false
no-base-of-two a b [] e = refl
no-base-of-two a b (c ∷ ds) e = and-false _ _ (no-base-of-one b ds (both (is_ascii_digit c) _ e).1)

pub based-is : (ds : List ℕ) (n : ℕ) → AreDecimal ds n → based ds ≡ Some n
unfolding based
based-is ds n d = rw (no-base-of-one 50 ds d.each, no-base-of-one 56 ds d.each, no-base-of-two 49 54 ds d.each) d.read

digit-no-letter : (c b : ℕ) → is_ascii_digit c ≡ true → 57 < b → nat_eq (to_ascii_lowercase c) b ≡ false
digit-no-letter c b e lt = grind (arith, nat_tests)

no-word : (b : ℕ) (w ds : List ℕ) (n : ℕ) → AreDecimal ds n → 57 < to_ascii_lowercase b → str_eq_ignore_ascii_case ds (b ∷ w) ≡ false
no-word b w [] n d lt = refl
no-word b w (c ∷ ds) n d lt = rw (digit-no-letter c (to_ascii_lowercase b) (both (is_ascii_digit c) _ d.each).0 lt) refl

pub plain-is : (t : Option Ty) (ds : List ℕ) (n : ℕ) → AreDecimal ds n → plain t ds ≡ Some n
unfolding plain
plain-is None ds n d = based-is ds n d
plain-is (Some ty.Bool) ds n d =
    rw (no-word 84 (82 ∷ 85 ∷ 69 ∷ []) ds n d (omega arith), no-word 70 (65 ∷ 76 ∷ 83 ∷ 69 ∷ []) ds n d (omega arith)) (based-is ds n d)
plain-is (Some ty.Int) ds n d = based-is ds n d
plain-is (Some ty.Dint) ds n d = based-is ds n d
plain-is (Some ty.Lint) ds n d = based-is ds n d
