-- Delivering: what comes of the three numbers of a delivery.
use Rattle.std.proofs.Common.{◌≡◌, ℕ, Bool, true, false, cond, ◌&&◌, Some, None, Ok, Err, ℤ, pos, unsigned_abs, refl, sym, ap, ◌∙◌, rules, to_z, of_z, SFits, w64}
use Rattle.vcp_base.specs.Integers.{is_addend}
use Rattle.telegram.specs.declared.event.Event.TheVariants as event
use Rattle.telegram.specs.declared.wire.Wire.{Wire}
use Rattle.telegram.specs.declared.script.wire_fault.WireFault.TheVariants as refusal
use Rattle.telegram.specs.Forms.{is_below, number_below, delivery_if}
use Rattle.telegram.proofs.InRange.{same}

pub addend_is : (v : ℤ) (b c : Bool) → SFits w64 v → b ≡ is_addend (to_z w64 (of_z w64 v)) → b ≡ c → is_addend v ≡ c
addend_is v b c fits is e = ap is_addend (sym (same v fits)) ∙ (sym is ∙ e)

fails : (b : Bool) (n : ℕ) → cond b (Some n) None ≡ None → b ≡ false
fails false n e = refl
fails true n e = search rules

holds : (b : Bool) (n m : ℕ) → cond b (Some n) None ≡ Some m → b ≡ true
holds true n m e = refl
holds false n m e = search rules

same_number : (b : Bool) (n m : ℕ) → cond b (Some n) None ≡ Some m → n ≡ m
same_number true n m e = search rules
same_number false n m e = search rules

-- what is added is too large
pub no_addend : (w : Wire) (begun line : ℕ) (id n alter : ℤ) → is_addend alter ≡ false → Err (refusal.Range line) ≡ delivery_if w begun line id n alter
no_addend w begun line id n alter far = sym (ap (λ (b : Bool). cond b
    (cond (is_below (pos w.senders) id && is_below (pos begun) n)
    (Ok (event.Deliver line (unsigned_abs id) (unsigned_abs n) alter)) (Err (refusal.Unsent line)))
    (Err (refusal.Range line))) far)

added : (w : Wire) (begun line : ℕ) (id n alter : ℤ) → is_addend alter ≡ true →
    delivery_if w begun line id n alter ≡
    cond (is_below (pos w.senders) id && is_below (pos begun) n) (Ok (event.Deliver line (unsigned_abs id) (unsigned_abs n) alter)) (Err (refusal.Unsent line))
added w begun line id n alter near = ap (λ (b : Bool). cond b
    (cond (is_below (pos w.senders) id && is_below (pos begun) n)
    (Ok (event.Deliver line (unsigned_abs id) (unsigned_abs n) alter)) (Err (refusal.Unsent line)))
    (Err (refusal.Range line))) near

one_of_them : (w : Wire) (begun line : ℕ) (id n alter : ℤ) → is_addend alter ≡ true → is_below (pos w.senders) id ≡ true →
    delivery_if w begun line id n alter ≡
    cond (is_below (pos begun) n) (Ok (event.Deliver line (unsigned_abs id) (unsigned_abs n) alter)) (Err (refusal.Unsent line))
one_of_them w begun line id n alter near one = added w begun line id n alter near ∙ ap (λ (b : Bool). cond (b && is_below (pos begun) n)
    (Ok (event.Deliver line (unsigned_abs id) (unsigned_abs n) alter)) (Err (refusal.Unsent line))) one

-- the sender is none of the wire's
pub no_sender : (w : Wire) (begun line : ℕ) (id n alter : ℤ) → is_addend alter ≡ true → number_below w.senders id ≡ None
    → Err (refusal.Unsent line) ≡ delivery_if w begun line id n alter
no_sender w begun line id n alter near none = sym (added w begun line id n alter near ∙ ap (λ (b : Bool). cond (b && is_below (pos begun) n)
    (Ok (event.Deliver line (unsigned_abs id) (unsigned_abs n) alter)) (Err (refusal.Unsent line))) (fails (is_below (pos w.senders) id) (unsigned_abs id) none))

-- the cycle hasn't begun
pub not_begun : (w : Wire) (begun line : ℕ) (id n alter : ℤ) (i : ℕ) → is_addend alter ≡ true → number_below w.senders id ≡ Some i
    → number_below begun n ≡ None → Err (refusal.Unsent line) ≡ delivery_if w begun line id n alter
not_begun w begun line id n alter i near some none = sym (one_of_them w begun line id n alter near
    (holds (is_below (pos w.senders) id) (unsigned_abs id) i some)
    ∙ ap (λ (b : Bool). cond b (Ok (event.Deliver line (unsigned_abs id) (unsigned_abs n) alter)) (Err (refusal.Unsent line)))
    (fails (is_below (pos begun) n) (unsigned_abs n) none))

-- the delivery
pub delivered : (w : Wire) (begun line : ℕ) (id n alter z : ℤ) (i k : ℕ) → is_addend alter ≡ true → number_below w.senders id ≡ Some i
    → number_below begun n ≡ Some k → z ≡ alter → Ok (event.Deliver line i k z) ≡ delivery_if w begun line id n alter
delivered w begun line id n alter z i k near some one is = sym (one_of_them w begun line id n alter near
    (holds (is_below (pos w.senders) id) (unsigned_abs id) i some)
    ∙ ap (λ (b : Bool). cond b (Ok (event.Deliver line (unsigned_abs id) (unsigned_abs n) alter)) (Err (refusal.Unsent line)))
    (holds (is_below (pos begun) n) (unsigned_abs n) k one)
    ∙ ap (λ (m : ℕ). Ok (event.Deliver line m (unsigned_abs n) alter)) (same_number (is_below (pos w.senders) id) (unsigned_abs id) i some)
    ∙ ap (λ (m : ℕ). Ok (event.Deliver line i m alter)) (same_number (is_below (pos begun) n) (unsigned_abs n) k one)
    ∙ ap (λ (v : ℤ). Ok (event.Deliver line i k v)) (sym is))
