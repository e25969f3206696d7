-- Numbers: the value of a number's text.
use Rattle.std.proofs.Common.{◌≡◌, ℕ, suc, ◌+◌, ◌-◌, ◌*◌, ◌/◌, ◌%◌, ◌^◌, ◌<◌, ◌≤◌, ◌==◌, ◌&&◌, Bool, true, false, cond, List, [], ◌∷◌, ◌++◌, length, refl, ap, ◌∙◌, arith, Option, Some, None, ℤ, pos, negsuc, neg_ℤ, decimal}
use Rattle.std.specs.Option.{option_map, option_and_then}
use Rattle.std.specs.Fmt.{signed_decimal}
use Rattle.std.specs.Char.{is_ascii_digit}
use Rattle.std.specs.List.{list_all, fold}
use Rattle.std.proofs.lemmas.Bool.Decides.{nat_tests}
use Rattle.std.proofs.lemmas.Fmt.{decimal_by_steps, decimal_is_IsNumeral, length-decimal-le}
use Rattle.std.proofs.lemmas.Int.Digits.{digits_value-lt}
use Rattle.std.proofs.lemmas.Slice.Eq.{bytes_eq-Decides}
use Rattle.vcp_base.specs.Types.{fits}
use Rattle.vcp_base.specs.declared.ty.Ty.TheVariants as ty
use Rattle.vcp_base.specs.Numerals.{number_of, natural_of, integer_of, in_type}
use Rattle.pictures.specs.Values.{printed_as, printed_value}

-- the digits of a number
pub record IsDigits (n : ℕ) (ds : List ℕ) : Type 0 where
  pub first : ℕ
  pub more : List ℕ
  pub some : ds ≡ first ∷ more
  pub digits : list_all is_ascii_digit ds ≡ true
  pub value : number_of ds ≡ n

number_more : (a : ℕ) (ds : List ℕ) (c : ℕ) → fold (λ n digit. n * 10 + (digit - 48)) a (ds ++ c ∷ []) ≡ fold (λ n digit. n * 10 + (digit - 48)) a ds * 10 + (c - 48)
number_more a [] c = refl
number_more a (d ∷ ds) c = number_more (a * 10 + (d - 48)) ds c

all_more : (ds : List ℕ) (c : ℕ) → list_all is_ascii_digit ds ≡ true → is_ascii_digit c ≡ true → list_all is_ascii_digit (ds ++ c ∷ []) ≡ true
all_more [] c h k = rw k refl
all_more (d ∷ ds) c h k = both (is_ascii_digit d) (list_all is_ascii_digit ds) (list_all is_ascii_digit (ds ++ c ∷ [])) h (λ r. all_more ds c r k)
  where
    both : (a b e : Bool) → (a && b) ≡ true → (b ≡ true → e ≡ true) → (a && e) ≡ true
    both true b e h f = f h
    both false b e h f = absurd cc

is_digit : (n : ℕ) → n < 10 → is_ascii_digit (48 + n) ≡ true
is_digit n h = grind (arith, nat_tests)

one_digit : (n : ℕ) → n < 10 → IsDigits n ((48 + n) ∷ [])
one_digit n h = record {
  first = 48 + n;
  more = [];
  some = refl;
  digits = rw (is_digit n h) refl;
  value = omega arith;
}

more_digits : (n : ℕ) (ds : List ℕ) → 10 ≤ n → IsDigits (n / 10) ds → IsDigits n (ds ++ ((48 + n % 10) ∷ []))
more_digits n ds h is =
    let small : n % 10 < 10 = omega arith in
    let ten : n / 10 * 10 + (48 + n % 10 - 48) ≡ n = omega arith in
    record {
      first = is.first;
      more = is.more ++ (48 + n % 10) ∷ [];
      some = ap (λ (t : List ℕ). t ++ (48 + n % 10) ∷ []) is.some;
      digits = all_more ds (48 + n % 10) is.digits (is_digit (n % 10) small);
      value = number_more 0 ds (48 + n % 10) ∙ (ap (λ (m : ℕ). m * 10 + (48 + n % 10 - 48)) is.value ∙ ten);
    }

pub decimal_is : (n : ℕ) → n < 2 ^ 64 → IsDigits n (decimal n)
decimal_is n h = decimal_by_steps IsDigits one_digit more_digits n h

-- ---- their number

pick : (b : Bool) (m n : ℕ) → b ≡ true → m ≡ n → cond b (Some m) None ≡ Some n
pick b m n e g = rw (e, g) refl

natural_is : (n : ℕ) (ds : List ℕ) → IsDigits n ds → natural_of ds ≡ Some n
natural_is n [] is = let e = is.some in absurd cc
natural_is n (c ∷ ds) is = pick (list_all is_ascii_digit (c ∷ ds)) (number_of (c ∷ ds)) n is.digits is.value

no_sign : (c k : ℕ) (b : Bool) → (is_ascii_digit c && b) ≡ true → k < 48 → (c == k) ≡ false
no_sign c k b h low = of_digit (is_ascii_digit c) b refl h
  where
    of_digit : (a b : Bool) → is_ascii_digit c ≡ a → (a && b) ≡ true → (c == k) ≡ false
    of_digit true b e h = grind (arith, nat_tests)
    of_digit false b e h = absurd cc

unsigned : (a b : Bool) (x y z : Option ℤ) → a ≡ false → b ≡ false → cond a x (cond b y z) ≡ z
unsigned a b x y z e g = rw (e, g) refl

integer_is : (n : ℕ) (ds : List ℕ) → IsDigits n ds → integer_of ds ≡ Some (pos n)
integer_is n [] is = let e = is.some in absurd cc
integer_is n (c ∷ ds) is =
    unsigned (c == 43) (c == 45) _ _ (option_map pos (natural_of (c ∷ ds))) (no_sign c 43 (list_all is_ascii_digit ds) is.digits (omega arith))
    (no_sign c 45 (list_all is_ascii_digit ds) is.digits (omega arith))
    ∙ ap (option_map pos) (natural_is n (c ∷ ds) is)

pub low : (n : ℕ) → fits ty.Lint (pos n) ≡ true → n < 2 ^ 64
low n h = grind (arith, nat_tests)

pub low_negative : (n : ℕ) → fits ty.Lint (negsuc n) ≡ true → suc n < 2 ^ 64
low_negative n h = grind (arith, nat_tests)

spelled : (v : ℤ) → fits ty.Lint v ≡ true → integer_of (signed_decimal v) ≡ Some v
spelled (pos n) h = integer_is n (decimal n) (decimal_is n (low n h))
spelled (negsuc n) h = ap (option_map (λ (m : ℕ). neg_ℤ (pos m))) (natural_is (suc n) (decimal (suc n)) (decimal_is (suc n) (low_negative n h)))

-- ---- a cell

as_itself : (text : List ℕ) (v : ℤ) → text ≡ signed_decimal v → printed_as text v ≡ Some v
as_itself text v e = rw ((bytes_eq-Decides text (signed_decimal v)).1 e) refl

if_fits : (v : ℤ) → fits ty.Lint v ≡ true → in_type ty.Lint v ≡ Some v
if_fits v h = rw h refl

-- a value is read as it is printed
pub value_is_read : (v : ℤ) → fits ty.Lint v ≡ true → printed_value (signed_decimal v) ≡ Some v
value_is_read v h =
    ap (λ (o : Option ℤ). option_and_then (printed_as (signed_decimal v)) (option_and_then (in_type ty.Lint) o)) (spelled v h)
    ∙ (ap (λ (o : Option ℤ). option_and_then (printed_as (signed_decimal v)) o) (if_fits v h) ∙ as_itself (signed_decimal v) v refl)

-- no number has more digits than a greater one
below : (m n most : ℕ) → m ≤ n → n < most → m < most
below m n most le lt = omega arith

pub digits_grow : (m n : ℕ) → m ≤ n → n < 2 ^ 64 → length (decimal m) ≤ length (decimal n)
digits_grow m n le lt =
    let is = decimal_is_IsNumeral n lt in
    let most = rw is.1 at (digits_value-lt 10 (decimal n) is.0.1) in
    length-decimal-le (length (decimal n)) m is.0.0 (below m n (10 ^ length (decimal n)) le most) (below m n (2 ^ 64) le lt)
