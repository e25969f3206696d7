-- Deliveries: what holds of all that is delivered over a wire.
use Rattle.std.specs.Prelude.{◌≡◌, ℕ, ◌+◌, ◌-◌, ◌<◌, ◌≤◌, true, List, [], ◌∷◌, ℤ, pos}
use Rattle.vcp_base.specs.declared.ty.Ty.TheVariants as ty
use Rattle.vcp_base.specs.Types.{fits}
use Rattle.telegram.specs.declared.receipt.Receipt.{Receipt}
use Rattle.telegram.specs.declared.receipt.Receipt.TheVariants as receipt
use Rattle.telegram.specs.declared.event.Event.{Event}
use Rattle.telegram.specs.declared.wire.Wire.{Wire}
use Rattle.telegram.specs.WireRun.{Handing, Every, sent_by, sent_in, apart, arrived, with_delivered}

-- where a value was delivered, P holds of it
abbrev pub IfDelivered : Receipt → (ℤ → Type 0) → Type 0
IfDelivered (receipt.Delivered v) P = P v
IfDelivered (receipt.Early begun) P = Unit {0}
IfDelivered (receipt.Stray found expected) P = Unit {0}
IfDelivered (receipt.Order last) P = Unit {0}
IfDelivered (receipt.Age now) P = Unit {0}
IfDelivered receipt.Value P = Unit {0}

-- the delivered numbers, in order
abbrev pub delivered : List Handing → List ℕ
delivered [] = []
delivered (h ∷ handings) = with_delivered h.receipt h.number (delivered handings)

-- each number is below all later ones
abbrev pub Rising : List ℕ → Type 0
Rising [] = Unit {0}
Rising (n ∷ numbers) = Every (λ m. n < m) numbers × Rising numbers

-- what is delivered was sent in no later cycle than the present one, and at most so many cycles before it
abbrev pub AreYoung : ℕ → List Handing → Type 0
AreYoung age handings = Every (λ h. IfDelivered h.receipt (λ v. (h.number ≤ h.cycle) × (h.cycle ≤ h.number + age))) handings

-- what is delivered of a telegram that wasn't altered was sent by the sender that is heard, in the cycle of its number
abbrev pub ComeFromSender : Wire → List Event → List Handing → Type 0
ComeFromSender w es handings =
    Every (λ h. IfDelivered h.receipt (λ v. h.alter ≡ pos 0 → (h.id ≡ w.listen) × (v ≡ sent_by (sent_in es) w.listen h.number))) handings

-- The equation: the telegram of sender `id` and cycle n, with `alter` added to its word, is one that may be delivered as the
-- value v. The signatures differ by what was altered, modulo the constant of the code; the number is above each delivered one;
-- the present cycle is at most the age later; and v is what the sent value and the carry make, a DINT.
pub record Solves (w : Wire) (sent : List (List ℤ)) (begun : ℕ) (numbers : List ℕ) (id n : ℕ) (alter v : ℤ) : Type 0 where
  pub on_time : n < begun
  pub signature : apart w id alter ≡ 0
  pub above : Every (λ m. m < n) numbers
  pub young : begun - 1 - n ≤ w.age
  pub value : v ≡ arrived w id n (sent_by sent id n) alter
  pub dint : fits ty.Dint v ≡ true
