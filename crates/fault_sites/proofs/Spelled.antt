-- Spelled: what the words of a line write.
use Rattle.std.proofs.Common.{◌≡◌, ℕ, suc, ◌+◌, ◌-◌, ◌*◌, ◌/◌, ◌%◌, ◌^◌, ◌<◌, ◌≤◌, ◌==◌, ◌&&◌, Bool, true, false, cond, nat_lt, nat_le, List, [], ◌∷◌, ◌++◌, length, Option, Some, None, ℤ, pos, negsuc, neg_ℤ, decimal, refl, ap, ◌∙◌, arith}
use Rattle.std.specs.Option.{option_map, option_and_then}
use Rattle.std.specs.Fmt.{signed_decimal}
use Rattle.std.specs.Char.{is_ascii_digit}
use Rattle.std.specs.List.{list_all, fold}
use Rattle.std.specs.Str.{all_ascii_digits}
use Rattle.std.specs.Str.Parse.{digits_value}
use Rattle.std.proofs.lemmas.Bool.Decides.{nat_tests}
use Rattle.std.proofs.lemmas.Int.{ints}
use Rattle.std.proofs.lemmas.Fmt.{decimal_by_steps, decimal_is_IsNumeral, length-decimal-le}
use Rattle.vcp_base.specs.Limits.{most_cycles}
use Rattle.vcp_base.specs.declared.kind.Kind.{Kind}
use Rattle.vcp_base.specs.declared.kind.Kind.TheVariants as kind
use Rattle.vcp_base.specs.Numerals.{number_of, natural_of, integer_of, numeral_of}
use Rattle.vcp_base.specs.Spellings.{kind_name}
use Rattle.vcp_base.specs.Words.{is_word}
use Rattle.fault_script.specs.Forms.{is_addend, number_below, cycle_of, index_of, addend_of, kind_of}

-- ---- digits

-- the digits of a number
pub record IsDigits (n : ℕ) (ds : List ℕ) : Type 0 where
  pub first : ℕ
  pub more : List ℕ
  pub some : ds ≡ first ∷ more
  pub digits : list_all is_ascii_digit ds ≡ true
  pub value : number_of ds ≡ n

number_more : (a : ℕ) (ds : List ℕ) (c : ℕ)
    → fold (λ n digit. n * 10 + (digit - 48)) a (ds ++ c ∷ []) ≡ fold (λ n digit. n * 10 + (digit - 48)) a ds * 10 + (c - 48)
number_more a [] c = refl
number_more a (d ∷ ds) c = number_more (a * 10 + (d - 48)) ds c

all_more : (ds : List ℕ) (c : ℕ) → list_all is_ascii_digit ds ≡ true → is_ascii_digit c ≡ true → list_all is_ascii_digit (ds ++ c ∷ []) ≡ true
all_more [] c h k = rw k refl
all_more (d ∷ ds) c h k = both (is_ascii_digit d) (list_all is_ascii_digit ds) (list_all is_ascii_digit (ds ++ c ∷ [])) h (λ r. all_more ds c r k)
  where
    both : (a b e : Bool) → (a && b) ≡ true → (b ≡ true → e ≡ true) → (a && e) ≡ true
    both true b e h f = f h
    both false b e h f = absurd cc

is_digit : (n : ℕ) → n < 10 → is_ascii_digit (48 + n) ≡ true
is_digit n h = grind (arith, nat_tests)

one_digit : (n : ℕ) → n < 10 → IsDigits n ((48 + n) ∷ [])
one_digit n h = record { first = 48 + n; more = []; some = refl; digits = rw (is_digit n h) refl; value = omega arith }

more_digits : (n : ℕ) (ds : List ℕ) → 10 ≤ n → IsDigits (n / 10) ds → IsDigits n (ds ++ ((48 + n % 10) ∷ []))
more_digits n ds h is =
    let small : n % 10 < 10 = omega arith in
    let ten : n / 10 * 10 + (48 + n % 10 - 48) ≡ n = omega arith in
    record {
      first = is.first;
      more = is.more ++ (48 + n % 10) ∷ [];
      some = ap (λ (t : List ℕ). t ++ (48 + n % 10) ∷ []) is.some;
      digits = all_more ds (48 + n % 10) is.digits (is_digit (n % 10) small);
      value = number_more 0 ds (48 + n % 10) ∙ (ap (λ (m : ℕ). m * 10 + (48 + n % 10 - 48)) is.value ∙ ten);
    }

decimal_is : (n : ℕ) → n < 2 ^ 64 → IsDigits n (decimal n)
decimal_is n h = decimal_by_steps IsDigits one_digit more_digits n h

-- ---- integers

pick : (b : Bool) (m n : ℕ) → b ≡ true → m ≡ n → cond b (Some m) None ≡ Some n
pick b m n e g = rw (e, g) refl

natural_is : (n : ℕ) (ds : List ℕ) → IsDigits n ds → natural_of ds ≡ Some n
natural_is n [] is = let e = is.some in absurd cc
natural_is n (c ∷ ds) is = pick (list_all is_ascii_digit (c ∷ ds)) (number_of (c ∷ ds)) n is.digits is.value

no_sign : (c k : ℕ) (b : Bool) → (is_ascii_digit c && b) ≡ true → k < 48 → (c == k) ≡ false
no_sign c k b h low = of_digit (is_ascii_digit c) b refl h
  where
    of_digit : (a b : Bool) → is_ascii_digit c ≡ a → (a && b) ≡ true → (c == k) ≡ false
    of_digit true b e h = grind (arith, nat_tests)
    of_digit false b e h = absurd cc

unsigned : (a b : Bool) (x y z : Option ℤ) → a ≡ false → b ≡ false → cond a x (cond b y z) ≡ z
unsigned a b x y z e g = rw (e, g) refl

integer_is : (n : ℕ) (ds : List ℕ) → IsDigits n ds → integer_of ds ≡ Some (pos n)
integer_is n [] is = let e = is.some in absurd cc
integer_is n (c ∷ ds) is =
    unsigned (c == 43) (c == 45) _ _ (option_map pos (natural_of (c ∷ ds))) (no_sign c 43 (list_all is_ascii_digit ds) is.digits (omega arith))
    (no_sign c 45 (list_all is_ascii_digit ds) is.digits (omega arith))
    ∙ ap (option_map pos) (natural_is n (c ∷ ds) is)

pub low : (n : ℕ) → is_addend (pos n) ≡ true → n < 2 ^ 64
low n h = grind (arith, ints, nat_tests)

pub low_negative : (n : ℕ) → is_addend (negsuc n) ≡ true → suc n < 2 ^ 64
low_negative n h = grind (arith, ints, nat_tests)

spelled : (e : ℤ) → is_addend e ≡ true → integer_of (signed_decimal e) ≡ Some e
spelled (pos n) h = integer_is n (decimal n) (decimal_is n (low n h))
spelled (negsuc n) h = ap (option_map (λ (m : ℕ). neg_ℤ (pos m))) (natural_is (suc n) (decimal (suc n)) (decimal_is (suc n) (low_negative n h)))

pub addend_is : (e : ℤ) → is_addend e ≡ true → addend_of (signed_decimal e) ≡ Some e
addend_is e h =
    ap (λ (o : Option ℤ). option_and_then (λ e. cond (is_addend e) (Some e) None) o) (spelled e h) ∙ ap (λ (b : Bool). cond b (Some e) None) h

-- ---- numbers of cycles, operations and operands

ascii_digits : (ds : List ℕ) → list_all is_ascii_digit ds ≡ true → all_ascii_digits ds ≡ true
ascii_digits [] h = refl
ascii_digits (c ∷ ds) h = both (is_ascii_digit c) (list_all is_ascii_digit ds) (all_ascii_digits ds) h (λ r. ascii_digits ds r)
  where
    both : (a b e : Bool) → (a && b) ≡ true → (b ≡ true → e ≡ true) → (a && e) ≡ true
    both true b e h f = f h
    both false b e h f = absurd cc

three : (a b d : Bool) (m n : ℕ) → a ≡ true → b ≡ true → d ≡ true → m ≡ n → cond (a && (b && d)) (Some m) None ≡ Some n
three a b d m n e f g h = rw (e, f, g, h) refl

at_most : (m n : ℕ) → m ≤ n → nat_le m n ≡ true
at_most m n h = grind (arith, nat_tests)

some_of : (n : ℕ) (ds : List ℕ) → IsDigits n ds → 1 ≤ length ds
some_of n [] is = let e = is.some in absurd cc
some_of n (c ∷ ds) is = omega arith

numeral_is : (n : ℕ) → n < 2 ^ 32 → numeral_of (decimal n) ≡ Some n
numeral_is n h =
    let is : IsDigits n (decimal n) = decimal_is n (omega arith) in
    let short : length (decimal n) ≤ 10 = length-decimal-le 10 n (omega arith) (omega arith) (omega arith) in
    three (nat_le 1 (length (decimal n))) (nat_le (length (decimal n)) 10) (all_ascii_digits (decimal n)) (digits_value 10 (decimal n)) n
    (at_most 1 (length (decimal n)) (some_of n (decimal n) is)) (at_most (length (decimal n)) 10 short) (ascii_digits (decimal n) is.digits)
    ((decimal_is_IsNumeral n (omega arith)).1)

below_is : (bound n : ℕ) → bound ≤ 2 ^ 32 → n < bound → number_below bound (decimal n) ≡ Some n
below_is bound n most h =
    let less : nat_lt n bound ≡ true = grind (arith, nat_tests) in
    ap (λ (o : Option ℕ). option_and_then (λ n. cond (nat_lt n bound) (Some n) None) o) (numeral_is n (omega arith))
    ∙ ap (λ (b : Bool). cond b (Some n) None) less

pub cycle_is : (n : ℕ) → n < most_cycles → cycle_of (decimal n) ≡ Some n
cycle_is n h = below_is most_cycles n (omega arith) h

pub index_is : (n : ℕ) → n < 2 ^ 32 → index_of (decimal n) ≡ Some n
index_is n h = below_is (2 ^ 32) n (omega arith) h

pub kind_is : (k : Kind) → kind_of (kind_name k) ≡ Some k
kind_is kind.Input = refl
kind_is kind.Const = refl
kind_is kind.Load = refl
kind_is kind.Store = refl
kind_is kind.Out = refl
kind_is kind.Conv = refl
kind_is kind.Neg = refl
kind_is kind.Not = refl
kind_is kind.Add = refl
kind_is kind.Sub = refl
kind_is kind.Mul = refl
kind_is kind.Div = refl
kind_is kind.Mod = refl
kind_is kind.Eq = refl
kind_is kind.Lt = refl
kind_is kind.And = refl
kind_is kind.Or = refl
kind_is kind.Xor = refl
kind_is kind.Sel = refl

-- ---- bytes that show: no blank, and none that ends a line

abbrev pub shows : ℕ → Bool
shows c = nat_lt 32 c

-- a word of them
pub record Shown (w : List ℕ) : Type 0 where
  pub first : ℕ
  pub more : List ℕ
  pub some : w ≡ first ∷ more
  pub all : list_all shows w ≡ true

digit_shows : (c : ℕ) → is_ascii_digit c ≡ true → shows c ≡ true
digit_shows c h = grind (arith, nat_tests)

digits_show : (ds : List ℕ) → list_all is_ascii_digit ds ≡ true → list_all shows ds ≡ true
digits_show [] h = refl
digits_show (c ∷ ds) h =
    both (is_ascii_digit c) (list_all is_ascii_digit ds) (shows c) (list_all shows ds) h (digit_shows c) (λ r. digits_show ds r)
  where
    both : (a b e f : Bool) → (a && b) ≡ true → (a ≡ true → e ≡ true) → (b ≡ true → f ≡ true) → (e && f) ≡ true
    both true b e f h k l = rw (k refl, l h) refl
    both false b e f h k l = absurd cc

pub decimal_shown : (n : ℕ) → n < 2 ^ 64 → Shown (decimal n)
decimal_shown n h =
    let is : IsDigits n (decimal n) = decimal_is n h in
    record { first = is.first; more = is.more; some = is.some; all = digits_show (decimal n) is.digits }

pub signed_shown : (e : ℤ) → is_addend e ≡ true → Shown (signed_decimal e)
signed_shown (pos n) h = decimal_shown n (low n h)
signed_shown (negsuc n) h =
    record { first = 45; more = decimal (suc n); some = refl; all = (decimal_shown (suc n) (low_negative n h)).all }

-- which of them are such words, as a test
abbrev pub shown_test : List ℕ → Bool
shown_test w = is_word w && list_all shows w

pub shown_from : (w : List ℕ) → shown_test w ≡ true → Shown w
shown_from [] h = absurd cc
shown_from (c ∷ w) h = record { first = c; more = w; some = refl; all = h }

pub kind_shown : (k : Kind) → shown_test (kind_name k) ≡ true
kind_shown kind.Input = refl
kind_shown kind.Const = refl
kind_shown kind.Load = refl
kind_shown kind.Store = refl
kind_shown kind.Out = refl
kind_shown kind.Conv = refl
kind_shown kind.Neg = refl
kind_shown kind.Not = refl
kind_shown kind.Add = refl
kind_shown kind.Sub = refl
kind_shown kind.Mul = refl
kind_shown kind.Div = refl
kind_shown kind.Mod = refl
kind_shown kind.Eq = refl
kind_shown kind.Lt = refl
kind_shown kind.And = refl
kind_shown kind.Or = refl
kind_shown kind.Xor = refl
kind_shown kind.Sel = refl
