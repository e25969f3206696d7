-- WireRun: what is delivered over a wire, by values, the equation of signatures, and delivered numbers. It has no word.
use Rattle.std.specs.Prelude.{◌≡◌, ℕ, ◌+◌, ◌-◌, ◌<◌, ◌≤◌, ◌==◌, nat_lt, max, Bool, true, cond, List, [], ◌∷◌, length, slice_index_or, ℤ, pos, ◌+ℤ◌, ◌-ℤ◌}
use Rattle.std.specs.List.{list_all}
use Rattle.vcp_base.specs.declared.code.Profile.TheVariants as profile
use Rattle.vcp_base.specs.declared.ty.Ty.TheVariants as ty
use Rattle.vcp_base.specs.Limits.{seeds, most_step, most_cycles}
use Rattle.vcp_base.specs.Types.{fits}
use Rattle.vcp_base.specs.Values.{at}
use Rattle.coded_unit.specs.Words.{modulo, carry, Middle}
use Rattle.signature_table.specs.Signatures.{signature}
use Rattle.telegram.specs.declared.event.Event.{Event}
use Rattle.telegram.specs.declared.event.Event.TheVariants as event
use Rattle.telegram.specs.declared.receipt.Receipt.{Receipt}
use Rattle.telegram.specs.declared.receipt.Receipt.TheVariants as receipt
use Rattle.telegram.specs.declared.wire.Wire.{Wire}
use Rattle.telegram.specs.Sendings.{most_senders, telegram_residue}

-- ---- what happens on a wire

-- P holds of each of these
abbrev pub Every : {X : Type 0} → (X → Type 0) → List X → Type 0
Every P [] = Unit {0}
Every P (x ∷ xs) = P x × Every P xs

-- the values of each cycle
abbrev pub sent_in : List Event → List (List ℤ)
sent_in [] = []
sent_in (event.Cycle values ∷ es) = values ∷ sent_in es
sent_in (event.Deliver line id number alter ∷ es) = sent_in es

-- the value that sender `id` sent in cycle n
abbrev pub sent_by : List (List ℤ) → ℕ → ℕ → ℤ
sent_by sent id n = at (slice_index_or sent n []) id

pub record IsWire (w : Wire) : Type 0 where
  pub senders : w.senders ≤ most_senders
  pub listen : w.listen < w.senders
  pub seed : w.seed < seeds
  pub step_from : 1 ≤ w.step
  pub step_to : w.step ≤ most_step

-- each sender has a value in the cycle, and it is a DINT; a telegram is that of a sender, and what is added to its word is moderate
abbrev pub IsEvent : Wire → Event → Type 0
IsEvent w (event.Cycle values) = (length values ≡ w.senders) × Every (λ v. fits ty.Dint v ≡ true) values
IsEvent w (event.Deliver line id number alter) = (id < w.senders) × Middle alter

pub record AreEvents (w : Wire) (es : List Event) : Type 0 where
  pub each : Every (λ e. IsEvent w e) es
  pub few : length (sent_in es) ≤ most_cycles

-- ---- what is delivered

-- by how much the residue of a sender's altered telegram differs from that of the sender that is heard: the stamp cancels
abbrev pub apart : Wire → ℕ → ℤ → ℕ
apart w id alter =
    modulo profile.Narrow (pos (signature profile.Narrow w.seed id) +ℤ alter -ℤ pos (signature profile.Narrow w.seed w.listen))

-- the value that comes of a sender's value v of cycle n where `alter` is added to its word
abbrev pub arrived : Wire → ℕ → ℕ → ℤ → ℤ → ℤ
arrived w id n v alter = v +ℤ carry profile.Narrow (telegram_residue id w.seed w.step n) alter

-- n is above each of these numbers
abbrev pub is_above_all : ℕ → List ℕ → Bool
is_above_all n numbers = list_all (λ m. nat_lt m n) numbers

-- the greatest of these numbers
abbrev pub greatest : List ℕ → ℕ
greatest [] = 0
greatest (m ∷ numbers) = max m (greatest numbers)

-- What comes of the telegram of sender `id` and cycle n, after so many cycles began and these numbers were delivered. It is
-- delivered where its cycle has begun, the signatures differ by what was altered, its number is above all delivered ones, it is
-- no older than the age, and what arrives is a DINT.
abbrev pub receipt_at : Wire → List (List ℤ) → ℕ → List ℕ → ℕ → ℕ → ℤ → Receipt
receipt_at w sent begun numbers id n alter =
    cond (nat_lt n begun)
    (cond (apart w id alter == 0)
    (cond (is_above_all n numbers)
    (cond (nat_lt w.age (begun - 1 - n))
    (receipt.Age (begun - 1))
    (cond (fits ty.Dint (arrived w id n (sent_by sent id n) alter)) (receipt.Delivered (arrived w id n (sent_by sent id n) alter)) receipt.Value))
    (receipt.Order (greatest numbers)))
    (receipt.Stray (modulo profile.Narrow (pos (telegram_residue id w.seed w.step n) +ℤ alter)) (telegram_residue w.listen w.seed w.step n)))
    (receipt.Early begun)

-- a telegram that was handed to the receiver in a cycle, and what it answered
pub record Handing : Type 0 where
  pub line : ℕ
  pub cycle : ℕ
  pub id : ℕ
  pub number : ℕ
  pub alter : ℤ
  pub receipt : Receipt

-- the delivered numbers after this one
abbrev pub with_delivered : Receipt → ℕ → List ℕ → List ℕ
with_delivered (receipt.Delivered v) n numbers = n ∷ numbers
with_delivered (receipt.Early begun) n numbers = numbers
with_delivered (receipt.Stray found expected) n numbers = numbers
with_delivered (receipt.Order last) n numbers = numbers
with_delivered (receipt.Age now) n numbers = numbers
with_delivered receipt.Value n numbers = numbers

-- a handing, and what follows it from the numbers that are then delivered
abbrev pub handed : Handing → List ℕ → (List ℕ → List Handing) → List Handing
handed h numbers later = h ∷ later (with_delivered h.receipt h.number numbers)

-- the handings of these events, after so many cycles began and these numbers were delivered; `sent` has the values of the whole run
abbrev pub wired_from : Wire → List (List ℤ) → ℕ → List ℕ → List Event → List Handing
wired_from w sent begun numbers [] = []
wired_from w sent begun numbers (event.Cycle values ∷ es) = wired_from w sent (begun + 1) numbers es
wired_from w sent begun numbers (event.Deliver line id n alter ∷ es) =
    handed (record { line = line; cycle = begun - 1; id = id; number = n; alter = alter; receipt = receipt_at w sent begun numbers id n alter }) numbers
    (λ more. wired_from w sent begun more es)

-- the wire run: each telegram that is handed to the receiver, with its receipt
abbrev pub wired : Wire → List Event → List Handing
wired w es = wired_from w (sent_in es) 0 [] es
