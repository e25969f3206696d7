-- Senders: where nothing is altered, what is delivered comes from the sender that is heard; and the equation of a delivery.
use Rattle.std.proofs.Common.{ℕ, ◌≡◌, ◌==◌, ◌<◌, ◌≤◌, ◌+◌, ◌-◌, nat_lt, List, [], ◌∷◌, length, ℤ, pos, ◌+ℤ◌, ap, sym, ◌∙◌, arith}
use Rattle.std.proofs.lemmas.Bool.{ltb-true, ltb-false, lt-ltb, le-ltb}
use Rattle.std.proofs.lemmas.Bool.Decides.{Decides-eqb}
use Rattle.std.proofs.lemmas.Int.{ints}
use Rattle.vcp_base.specs.declared.code.Profile.{Profile}
use Rattle.vcp_base.specs.declared.code.Profile.TheVariants as profile
use Rattle.vcp_base.specs.declared.ty.Ty.TheVariants as ty
use Rattle.vcp_base.specs.Code.{modulus}
use Rattle.vcp_base.specs.Limits.{most_operations, most_step, most_cycles}
use Rattle.vcp_base.specs.Types.{fits}
use Rattle.coded_unit.specs.Words.{carry}
use Rattle.coded_unit.specs.WordLaws.{WordLaws}
use Rattle.signature_table.specs.Signatures.{signature, expected}
use Rattle.telegram.specs.declared.receipt.Receipt.TheVariants as receipt
use Rattle.telegram.specs.Deliveries.{IfDelivered, ComeFromSender, Solves}
use Rattle.telegram.specs.Sendings.{telegram_residue}
use Rattle.telegram.specs.declared.event.Event.{Event}
use Rattle.telegram.specs.declared.event.Event.TheVariants as event
use Rattle.telegram.specs.declared.wire.Wire.{Wire}
use Rattle.telegram.specs.WireRun.{IsWire, IsEvent, AreEvents, Every, sent_in, sent_by, wired_from, wired, receipt_at, apart, arrived, is_above_all, with_delivered}
use Rattle.telegram.proofs.Equation.{same_signature, no_carry}
use Rattle.telegram.proofs.Following.{told_at, delivered_passed}
use Rattle.telegram.proofs.Orders.{all_below, above_each}
use Rattle.telegram.proofs.Rows.{delivers, if_delivered}

-- the laws of the code on which this rests
pub record SenderLaws : Type 0 where
  pub words : (p : Profile) → WordLaws p
  pub residues : (p : Profile) (seed step i n : ℕ) → step ≤ most_step → n < most_cycles → expected p seed step i n < modulus p
  pub distinct : (p : Profile) (seed i j : ℕ) → i < most_operations → j < most_operations → signature p seed j ≡ signature p seed i → j ≡ i

-- the sender of an unaltered telegram that solves the equation is the one that is heard
same_sender : (laws : SenderLaws) (w : Wire) (id n : ℕ) → IsWire w → id < w.senders → n < most_cycles → apart w id (pos 0) ≡ 0 → id ≡ w.listen
same_sender laws w id n wire sender few none =
    let p = profile.Narrow in
    let own = laws.residues p w.seed w.step id n wire.step_to few in
    let heard = laws.residues p w.seed w.step w.listen n wire.step_to few in
    let most = wire.senders in
    let listen = wire.listen in
    let one : signature p w.seed id ≡ signature p w.seed w.listen =
    same_signature p (laws.words p) (signature p w.seed id) (signature p w.seed w.listen) (omega arith) (omega arith) none in
    laws.distinct p w.seed w.listen id (omega arith) (omega arith) one

-- and its value arrives as it was sent
same_arrived : (laws : SenderLaws) (w : Wire) (id n : ℕ) (v : ℤ) → IsWire w → n < most_cycles → arrived w id n v (pos 0) ≡ v
same_arrived laws w id n v wire few =
    let p = profile.Narrow in
    let own = telegram_residue id w.seed w.step n in
    let nothing : carry p own (pos 0) ≡ pos 0 = no_carry p (laws.words p) own (laws.residues p w.seed w.step id n wire.step_to few) in
    let plain : v +ℤ pos 0 ≡ v = omega (arith, ints) in
    ap (λ (z : ℤ). v +ℤ z) nothing ∙ plain

unaltered_delivery : (laws : SenderLaws) (w : Wire) (sent : List (List ℤ)) (begun : ℕ) (numbers : List ℕ) (id n : ℕ) (alter v : ℤ) → IsWire w → id < w.senders
    → begun ≤ most_cycles → alter ≡ pos 0 → receipt_at w sent begun numbers id n alter ≡ receipt.Delivered v
    → (id ≡ w.listen) × (v ≡ sent_by sent w.listen n)
unaltered_delivery laws w sent begun numbers id n alter v wire sender few none h =
    let all = delivered_passed w sent begun numbers id n alter v h in
    let under : n < begun = ltb-true n begun all.begun in
    let zero : apart w id alter ≡ 0 = (Decides-eqb (apart w id alter) 0).0 all.expected in
    let plain : apart w id (pos 0) ≡ 0 = ap (λ (z : ℤ). apart w id z) (sym none) ∙ zero in
    let same : id ≡ w.listen = same_sender laws w id n wire sender (omega arith) plain in
    let value : v ≡ arrived w id n (sent_by sent id n) (pos 0) = sym all.value ∙ ap (λ (z : ℤ). arrived w id n (sent_by sent id n) z) none in
    (same, value ∙ (same_arrived laws w id n (sent_by sent id n) wire (omega arith) ∙ ap (λ (i : ℕ). sent_by sent i n) same))

from_sender : (laws : SenderLaws) (w : Wire) (sent : List (List ℤ)) (begun : ℕ) (numbers : List ℕ) (es : List Event) → IsWire w
    → begun + length (sent_in es) ≤ most_cycles → Every (λ e. IsEvent w e) es
    → Every (λ h. IfDelivered h.receipt (λ v. h.alter ≡ pos 0 → (h.id ≡ w.listen) × (v ≡ sent_by sent w.listen h.number))) (wired_from w sent begun numbers es)
from_sender laws w sent begun numbers [] wire few each = tt
from_sender laws w sent begun numbers (event.Cycle values ∷ es) wire few each =
    from_sender laws w sent (begun + 1) numbers es wire (omega arith) each.1
from_sender laws w sent begun numbers (event.Deliver line id n alter ∷ es) wire few each =
    let x = receipt_at w sent begun numbers id n alter in
    let here = if_delivered x (λ v. alter ≡ pos 0 → (id ≡ w.listen) × (v ≡ sent_by sent w.listen n))
    (λ v h none. unaltered_delivery laws w sent begun numbers id n alter v wire each.0.0 (omega arith) none h) in
    (here, from_sender laws w sent begun (with_delivered x n numbers) es wire few each.1)

pub unaltered_come : SenderLaws → (w : Wire) (es : List Event) → IsWire w → AreEvents w es → ComeFromSender w es (wired w es)
unaltered_come laws w es wire events = from_sender laws w (sent_in es) 0 [] es wire (omega (arith, events.few)) events.each

-- ---- the equation

pub solves : (w : Wire) (sent : List (List ℤ)) (begun : ℕ) (numbers : List ℕ) (id n : ℕ) (alter v : ℤ)
    → receipt_at w sent begun numbers id n alter ≡ receipt.Delivered v → Solves w sent begun numbers id n alter v
solves w sent begun numbers id n alter v h =
    let all = delivered_passed w sent begun numbers id n alter v h in
    record {
      on_time = ltb-true n begun all.begun;
      signature = (Decides-eqb (apart w id alter) 0).0 all.expected;
      above = all_below n numbers all.above;
      young = ltb-false w.age (begun - 1 - n) all.young;
      value = sym all.value;
      dint = ap (λ (z : ℤ). fits ty.Dint z) (sym all.value) ∙ all.fits;
    }

pub solved : (w : Wire) (sent : List (List ℤ)) (begun : ℕ) (numbers : List ℕ) (id n : ℕ) (alter v : ℤ) → Solves w sent begun numbers id n alter v
    → receipt_at w sent begun numbers id n alter ≡ receipt.Delivered v
solved w sent begun numbers id n alter v h =
    delivers (told_at w sent begun numbers id n alter) (nat_lt n begun) (apart w id alter == 0) (is_above_all n numbers) (nat_lt w.age (begun - 1 - n))
    (fits ty.Dint (arrived w id n (sent_by sent id n) alter))
    (lt-ltb n begun h.on_time) ((Decides-eqb (apart w id alter) 0).1 h.signature) (above_each n numbers h.above) (le-ltb w.age (begun - 1 - n) h.young)
    (ap (λ (z : ℤ). fits ty.Dint z) (sym h.value) ∙ h.dint)
    ∙ ap (λ (z : ℤ). receipt.Delivered z) (sym h.value)
