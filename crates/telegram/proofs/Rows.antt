-- Rows: the six answers to a telegram, as a choice by five tests.
use Rattle.std.proofs.Common.{refl, ℕ, ◌≡◌, Bool, true, false, cond, not, sym, ℤ}
use Rattle.std.proofs.lemmas.Bool.{false≢true}
use Rattle.telegram.specs.declared.receipt.Receipt.{Receipt}
use Rattle.telegram.specs.declared.receipt.Receipt.TheVariants as receipt
use Rattle.telegram.specs.Deliveries.{IfDelivered}

-- what the rows may answer: how many cycles began, the residue found and the one expected, the last number, the cycle, the value
pub record Told : Type 0 where
  pub begun : ℕ
  pub found : ℕ
  pub expected : ℕ
  pub last : ℕ
  pub cycle : ℕ
  pub value : ℤ

-- as the wire run chooses: the cycle has begun, the residue is expected, the number is above, the telegram is too old, the value fits
abbrev pub choice : Told → (begun expected above old fit : Bool) → Receipt
choice t begun expected above old fit =
    cond begun
    (cond expected (cond above (cond old (receipt.Age t.cycle) (cond fit (receipt.Delivered t.value) receipt.Value)) (receipt.Order t.last))
    (receipt.Stray t.found t.expected))
    (receipt.Early t.begun)

-- as the receiver chooses, row by row
abbrev pub by_rows : Told → (begun expected above old fit : Bool) → Receipt
by_rows t begun expected above old fit =
    cond (not begun)
    (receipt.Early t.begun)
    (cond (not expected)
    (receipt.Stray t.found t.expected)
    (cond (not above) (receipt.Order t.last) (cond old (receipt.Age t.cycle) (cond (not fit) receipt.Value (receipt.Delivered t.value)))))

pub rows_are_choice : (t : Told) (b c d e f : Bool) → by_rows t b c d e f ≡ choice t b c d e f
rows_are_choice t false c d e f = refl
rows_are_choice t true false d e f = refl
rows_are_choice t true true false e f = refl
rows_are_choice t true true true true f = refl
rows_are_choice t true true true false false = refl
rows_are_choice t true true true false true = refl

-- where the cycle hasn't begun nothing else counts
pub in_time : (b : Bool) (x y z : Receipt) → (b ≡ true → y ≡ z) → cond b y x ≡ cond b z x
in_time true x y z h = h refl
in_time false x y z h = refl

-- a delivery passed every test
pub record Passed (t : Told) (b c d e f : Bool) (v : ℤ) : Type 0 where
  pub begun : b ≡ true
  pub expected : c ≡ true
  pub above : d ≡ true
  pub young : e ≡ false
  pub fits : f ≡ true
  pub value : t.value ≡ v

not_early : (b : ℕ) (v : ℤ) → receipt.Early b ≡ receipt.Delivered v → ⊥
not_early b v h = cc

not_stray : (m n : ℕ) (v : ℤ) → receipt.Stray m n ≡ receipt.Delivered v → ⊥
not_stray m n v h = cc

not_order : (l : ℕ) (v : ℤ) → receipt.Order l ≡ receipt.Delivered v → ⊥
not_order l v h = cc

not_age : (n : ℕ) (v : ℤ) → receipt.Age n ≡ receipt.Delivered v → ⊥
not_age n v h = cc

not_value : (v : ℤ) → receipt.Value ≡ receipt.Delivered v → ⊥
not_value v h = cc

same_value : (u v : ℤ) → receipt.Delivered u ≡ receipt.Delivered v → u ≡ v
same_value u v h = cc

pub passed : (t : Told) (b c d e f : Bool) (v : ℤ) → choice t b c d e f ≡ receipt.Delivered v → Passed t b c d e f v
passed t false c d e f v h = absurd (not_early t.begun v h)
passed t true false d e f v h = absurd (not_stray t.found t.expected v h)
passed t true true false e f v h = absurd (not_order t.last v h)
passed t true true true true f v h = absurd (not_age t.cycle v h)
passed t true true true false false v h = absurd (not_value v h)
passed t true true true false true v h =
    record { begun = refl; expected = refl; above = refl; young = refl; fits = refl; value = same_value t.value v h }

-- and what passes every test is delivered
pub delivers : (t : Told) (b c d e f : Bool) → b ≡ true → c ≡ true → d ≡ true → e ≡ false → f ≡ true → choice t b c d e f ≡ receipt.Delivered t.value
delivers t false c d e f hb hc hd he hf = absurd (false≢true hb)
delivers t true false d e f hb hc hd he hf = absurd (false≢true hc)
delivers t true true false e f hb hc hd he hf = absurd (false≢true hd)
delivers t true true true true f hb hc hd he hf = absurd (false≢true (sym he))
delivers t true true true false false hb hc hd he hf = absurd (false≢true hf)
delivers t true true true false true hb hc hd he hf = refl

-- what holds of a value wherever it is delivered
pub if_delivered : (x : Receipt) (P : ℤ → Type 0) → ((v : ℤ) → x ≡ receipt.Delivered v → P v) → IfDelivered x P
if_delivered (receipt.Delivered v) P h = h v refl
if_delivered (receipt.Early begun) P h = tt
if_delivered (receipt.Stray found expected) P h = tt
if_delivered (receipt.Order last) P h = tt
if_delivered (receipt.Age cycle) P h = tt
if_delivered receipt.Value P h = tt
