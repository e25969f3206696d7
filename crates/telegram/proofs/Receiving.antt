-- Receiving: what a receiver answers, by its tests one after another.
use Rattle.std.proofs.Common.{◌≡◌, ℕ, ◌-◌, ◌<◌, ◌≤◌, ◌==◌, nat_lt, Bool, true, false, cond, not, Option, Some, sym, ap, ap₂, ◌∙◌, arith}
use Rattle.std.proofs.lemmas.Bool.Decides.{nat_tests}
use Rattle.vcp_base.specs.declared.code.Profile.TheVariants as profile
use Rattle.vcp_base.specs.declared.ty.Ty.TheVariants as ty
use Rattle.vcp_base.specs.Types.{fits}
use Rattle.coded_unit.specs.Words.{modulo, value_part}
use Rattle.telegram.specs.declared.receipt.Receipt.{Receipt}
use Rattle.telegram.specs.declared.receipt.Receipt.TheVariants as receipt
use Rattle.telegram.specs.declared.telegram.Telegram.{Telegram}
use Rattle.telegram.specs.Sendings.{telegram_residue}
use Rattle.telegram.specs.Receipts.{State, is_above, last_number, present, receipt_of}

below : (n m : ℕ) → n < m → nat_lt n m ≡ true
below n m h = grind (arith, nat_tests)

not_below : (n m : ℕ) → m ≤ n → nat_lt n m ≡ false
not_below n m h = grind (arith, nat_tests)

same : (n m : ℕ) → n ≡ m → (n == m) ≡ true
same n m h = grind (arith, nat_tests)

differ : (n m : ℕ) → (n ≡ m → ⊥) → (n == m) ≡ false
differ n m h = grind (arith, nat_tests)

-- ---- what is answered where the tests before are passed

abbrev residue : State → Telegram → ℕ
residue s t = telegram_residue s.listen s.seed s.step t.number

abbrev in_time : State → Telegram → Receipt
in_time s t =
    cond (not (fits ty.Dint (value_part profile.Narrow t.word))) receipt.Value (receipt.Delivered (value_part profile.Narrow t.word))

abbrev in_order : State → Telegram → Receipt
in_order s t = cond (nat_lt s.age (present s - t.number)) (receipt.Age (present s)) (in_time s t)

abbrev heard : State → Telegram → Receipt
heard s t = cond (not (is_above s.last t.number)) (receipt.Order (last_number s.last)) (in_order s t)

abbrev begun : State → Telegram → Receipt
begun s t = cond (not (modulo profile.Narrow t.word == residue s t)) (receipt.Stray (modulo profile.Narrow t.word) (residue s t)) (heard s t)

is_begun : (s : State) (t : Telegram) → t.number < s.begun → receipt_of s t ≡ begun s t
is_begun s t h = ap (λ (b : Bool). cond (not b) (receipt.Early s.begun) (begun s t)) (below t.number s.begun h)

-- ---- the answers

pub early : (s : State) (t : Telegram) → s.begun ≤ t.number → receipt.Early s.begun ≡ receipt_of s t
early s t h = sym (ap (λ (b : Bool). cond (not b) (receipt.Early s.begun) (begun s t)) (not_below t.number s.begun h))

pub stray : (s : State) (t : Telegram) (found expected : ℕ) → t.number < s.begun → found ≡ modulo profile.Narrow t.word → expected ≡ residue s t
    → (found ≡ expected → ⊥) → receipt.Stray found expected ≡ receipt_of s t
stray s t found expected h found_is expected_is other =
    let apart = differ (modulo profile.Narrow t.word) (residue s t) (λ e. other (found_is ∙ (e ∙ sym expected_is))) in
    ap₂ (λ a b. receipt.Stray a b) found_is expected_is
    ∙ sym (is_begun s t h
    ∙ ap (λ (b : Bool). cond (not b) (receipt.Stray (modulo profile.Narrow t.word) (residue s t)) (heard s t)) apart)

-- the telegram is of the sender that is heard
pub record IsHeard (s : State) (t : Telegram) : Type 0 where
  pub early : t.number < s.begun
  pub found : ℕ
  pub expected : ℕ
  pub found_is : found ≡ modulo profile.Narrow t.word
  pub expected_is : expected ≡ residue s t
  pub same : found ≡ expected

is_heard : (s : State) (t : Telegram) → IsHeard s t → receipt_of s t ≡ heard s t
is_heard s t h =
    let one = same (modulo profile.Narrow t.word) (residue s t) (sym h.found_is ∙ (h.same ∙ h.expected_is)) in
    is_begun s t h.early ∙ ap (λ (b : Bool). cond (not b) (receipt.Stray (modulo profile.Narrow t.word) (residue s t)) (heard s t)) one

pub order : (s : State) (t : Telegram) (last : ℕ) → IsHeard s t → s.last ≡ Some last → t.number ≤ last → receipt.Order last ≡ receipt_of s t
order s t last h is le =
    let low = ap (λ (o : Option ℕ). is_above o t.number) is ∙ not_below last t.number le in
    ap (λ (o : Option ℕ). receipt.Order (last_number o)) (sym is)
    ∙ sym (is_heard s t h ∙ ap (λ (b : Bool). cond (not b) (receipt.Order (last_number s.last)) (in_order s t)) low)

pub rises : (o : Option ℕ) (last n : ℕ) → o ≡ Some last → last < n → is_above o n ≡ true
rises o last n is lt = ap (λ (o : Option ℕ). is_above o n) is ∙ below last n lt

is_in_order : (s : State) (t : Telegram) → IsHeard s t → is_above s.last t.number ≡ true → receipt_of s t ≡ in_order s t
is_in_order s t h above = is_heard s t h ∙ ap (λ (b : Bool). cond (not b) (receipt.Order (last_number s.last)) (in_order s t)) above

pub age : (s : State) (t : Telegram) → IsHeard s t → is_above s.last t.number ≡ true → s.age < present s - t.number → receipt.Age (present s) ≡ receipt_of s t
age s t h above old =
    sym (is_in_order s t h above ∙ ap (λ (b : Bool). cond b (receipt.Age (present s)) (in_time s t)) (below s.age (present s - t.number) old))
