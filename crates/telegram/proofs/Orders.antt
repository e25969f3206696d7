-- Orders: the last delivered number stands for all delivered ones, as they rise.
use Rattle.std.proofs.Common.{refl, ℕ, ◌≡◌, ◌<◌, ◌≤◌, nat_lt, Bool, true, false, ◌&&◌, List, [], ◌∷◌, Option, Some, None, sym, arith}
use Rattle.std.proofs.lemmas.Bool.{false≢true, lt-ltb, ltb-true}
use Rattle.telegram.specs.Deliveries.{Rising}
use Rattle.telegram.specs.Receipts.{is_above, last_number}
use Rattle.telegram.specs.WireRun.{Every, is_above_all, greatest}

pub first_true : (b c : Bool) → (b && c) ≡ true → b ≡ true
first_true true c h = refl
first_true false c h = h

pub second_true : (b c : Bool) → (b && c) ≡ true → c ≡ true
second_true true c h = h
second_true false c h = absurd (false≢true h)

pub both_true : (b c : Bool) → b ≡ true → c ≡ true → (b && c) ≡ true
both_true true c hb hc = hc
both_true false c hb hc = hb

implied : (b c : Bool) → (b ≡ true → c ≡ true) → b ≡ (b && c)
implied true c h = sym (h refl)
implied false c h = refl

-- a number above one that is above these is above these
pub higher : (m n : ℕ) (numbers : List ℕ) → n < m → is_above_all n numbers ≡ true → is_above_all m numbers ≡ true
higher m n [] h above = refl
higher m n (k ∷ numbers) h above =
    let under : k < n = ltb-true k n (first_true (nat_lt k n) (is_above_all n numbers) above) in
    both_true (nat_lt k m) (is_above_all m numbers) (lt-ltb k m (omega arith))
    (higher m n numbers h (second_true (nat_lt k n) (is_above_all n numbers) above))

greatest_below : (n : ℕ) (numbers : List ℕ) → is_above_all n numbers ≡ true → greatest numbers ≤ n
greatest_below n [] above = omega arith
greatest_below n (k ∷ numbers) above =
    let under : k < n = ltb-true k n (first_true (nat_lt k n) (is_above_all n numbers) above) in
    let rest : greatest numbers ≤ n = greatest_below n numbers (second_true (nat_lt k n) (is_above_all n numbers) above) in
    omega arith

pub all_below : (n : ℕ) (numbers : List ℕ) → is_above_all n numbers ≡ true → Every (λ m. m < n) numbers
all_below n [] above = tt
all_below n (k ∷ numbers) above = (
  ltb-true k n (first_true (nat_lt k n) (is_above_all n numbers) above),
  all_below n numbers (second_true (nat_lt k n) (is_above_all n numbers) above),
)

pub above_each : (n : ℕ) (numbers : List ℕ) → Every (λ m. m < n) numbers → is_above_all n numbers ≡ true
above_each n [] below = refl
above_each n (k ∷ numbers) below =
    both_true (nat_lt k n) (is_above_all n numbers) (lt-ltb k n below.0) (above_each n numbers below.1)

-- the last number stands for these
pub record Agree (last : Option ℕ) (numbers : List ℕ) : Type 0 where
  pub above : (n : ℕ) → is_above last n ≡ is_above_all n numbers
  pub greatest : last_number last ≡ greatest numbers

pub agree_none : Agree None []
agree_none = record { above = λ n. refl; greatest = refl }

pub agree_more : (n : ℕ) (numbers : List ℕ) → is_above_all n numbers ≡ true → Agree (Some n) (n ∷ numbers)
agree_more n numbers above =
    let least : greatest numbers ≤ n = greatest_below n numbers above in
    record {
      above = λ m. implied (nat_lt n m) (is_above_all m numbers) (λ h. higher m n numbers (ltb-true n m h) above);
      greatest = omega arith;
    }

-- a number above the last one but one
pub above_before : (last : Option ℕ) (n m : ℕ) → n < m → is_above last n ≡ true → is_above last m ≡ true
above_before None n m h above = refl
above_before (Some l) n m h above =
    let under : l < n = ltb-true l n above in
    lt-ltb l m (omega arith)

-- ---- lists of which something holds

pub every_to : {X : Type 0} (P Q : X → Type 0) (xs : List X) → ((x : X) → P x → Q x) → Every P xs → Every Q xs
every_to P Q [] f h = tt
every_to P Q (x ∷ xs) f h = (f x h.0, every_to P Q xs f h.1)

-- these numbers rise, and P holds of each
abbrev pub RisingIn : (ℕ → Type 0) → List ℕ → Type 0
RisingIn P numbers = Every P numbers × Rising numbers

-- one number before others that are above it, where P holds of it and so of each that is above it
pub one_before : (P : ℕ → Type 0) (Q : ℕ → Type 0) (n : ℕ) (numbers : List ℕ) → P n → ((m : ℕ) → Q m → n < m) → ((m : ℕ) → Q m → P m)
    → RisingIn Q numbers → RisingIn P (n ∷ numbers)
one_before P Q n numbers here up kept h =
    ((here, every_to Q P numbers kept h.0), (every_to Q (λ m. n < m) numbers up h.0, h.1))
