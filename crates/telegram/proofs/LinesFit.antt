-- LinesFit: the lines behind the first.
use Rattle.std.proofs.Common.{◌≡◌, ℕ, zero, suc, ◌<◌, ◌≤◌, ◌+◌, ◌==◌, Bool, true, false, ◌&&◌, cond, List, [], ◌∷◌, length, drop, slice_get, Option, Some, Result, Err, Ok, IfOk, ℤ, pos, codes, bytes_eq, unsigned_abs, refl, sym, ap, subst, ◌∙◌, arith}
use Rattle.std.specs.List.{list_all}
use Rattle.std.proofs.lemmas.Bool.{false≢true, eqb-true}
use Rattle.std.proofs.lemmas.Int.{ints}
use Rattle.vcp_base.specs.declared.ty.Ty.TheVariants as ty
use Rattle.vcp_base.specs.Types.{fits}
use Rattle.coded_unit.specs.Words.{Middle}
use Rattle.vcp_base.specs.Integers.{is_addend}
use Rattle.telegram.specs.declared.event.Event.{Event}
use Rattle.telegram.specs.declared.event.Event.TheVariants as event
use Rattle.telegram.specs.declared.wire.Wire.{Wire}
use Rattle.telegram.specs.WireRun.{Every}
use Rattle.telegram.specs.declared.script.wire_fault.WireFault.{WireFault}
use Rattle.telegram.specs.declared.script.wire_fault.WireFault.TheVariants as refusal
use Rattle.telegram.specs.Forms.{integers_of, is_below, cycle_of, delivery_if, delivery_of, event_of}
use Rattle.telegram.specs.Reads.{EventFits}

-- ---- values

-- the elements from the place of one on
drop_here : {X : Type 0} (xs : List X) (i : ℕ) (x : X) → slice_get xs i ≡ Some x → drop i xs ≡ x ∷ drop (suc i) xs
drop_here [] i x e = absurd cc
drop_here (y ∷ xs) zero x e = let same : y ≡ x = cc in ap (λ z. z ∷ xs) same
drop_here (y ∷ xs) (suc i) x e = drop_here xs i x e

pub next_fits : (vs : List ℤ) (i : ℕ) (v : ℤ) (b : Bool) → slice_get vs i ≡ Some v → fits ty.Dint v ≡ b
    → list_all (fits ty.Dint) (drop i vs) ≡ (b && list_all (fits ty.Dint) (drop (i + 1) vs))
next_fits vs i v b there is =
    let next : suc i ≡ i + 1 = omega arith in
    ap (list_all (fits ty.Dint)) (drop_here vs i v there)
    ∙ (ap (λ (b : Bool). b && list_all (fits ty.Dint) (drop (suc i) vs)) is ∙ ap (λ (n : ℕ). b && list_all (fits ty.Dint) (drop n vs)) next)

pub all_fit : (vs : List ℤ) (i : ℕ) → length vs ≤ i → list_all (fits ty.Dint) (drop i vs) ≡ true
all_fit [] zero past = refl
all_fit [] (suc i) past = refl
all_fit (v ∷ vs) zero past = absurd (omega (arith, past))
all_fit (v ∷ vs) (suc i) past = all_fit vs i (omega (arith, past))

first_true : (b c : Bool) → (b && c) ≡ true → b ≡ true
first_true true c h = refl
first_true false c h = h

second_true : (b c : Bool) → (b && c) ≡ true → c ≡ true
second_true true c h = h
second_true false c h = absurd (false≢true h)

each_fits : (vs : List ℤ) → list_all (fits ty.Dint) vs ≡ true → Every (λ v. fits ty.Dint v ≡ true) vs
each_fits [] h = tt
each_fits (v ∷ vs) h =
    (first_true (fits ty.Dint v) (list_all (fits ty.Dint) vs) h, each_fits vs (second_true (fits ty.Dint v) (list_all (fits ty.Dint) vs) h))

cycle_fits : (w : Wire) (begun : ℕ) (vs : List ℤ) → length vs ≡ w.senders → list_all (fits ty.Dint) vs ≡ true → EventFits w begun (event.Cycle vs)
cycle_fits w begun vs many h = record { is = (many, each_fits vs h); comes = tt }

cycle_cond : (w : Wire) (begun line : ℕ) (vs : List ℤ) (a b : Bool) → (length vs == w.senders) ≡ a → list_all (fits ty.Dint) vs ≡ b
    → IfOk (cond (a && b) (Ok (event.Cycle vs)) (Err (refusal.Range line))) (EventFits w begun)
cycle_cond w begun line vs true true ha hb = cycle_fits w begun vs (eqb-true (length vs) w.senders ha) hb
cycle_cond w begun line vs true false ha hb = tt
cycle_cond w begun line vs false b ha hb = tt

pub cycle_of_fits : (w : Wire) (begun line : ℕ) (vs : List ℤ) (r : Result Event WireFault) → r ≡ cycle_of w line (Some vs) → IfOk r (EventFits w begun)
cycle_of_fits w begun line vs r is =
    subst (λ (r : Result Event WireFault). IfOk r (EventFits w begun)) (sym is) (cycle_cond w begun line vs _ _ refl refl)

-- ---- deliveries

middle : (e : ℤ) → is_addend e ≡ true → Middle e
middle e h = (grind (arith, ints), grind (arith, ints))

below : (many : ℕ) (v : ℤ) → is_below (pos many) v ≡ true → unsigned_abs v < many
below many v h = grind (arith, ints)

pub delivery_fits : (w : Wire) (begun line : ℕ) (id n alter : ℤ) → is_addend alter ≡ true → is_below (pos w.senders) id ≡ true → is_below (pos begun) n ≡ true
    → EventFits w begun (event.Deliver line (unsigned_abs id) (unsigned_abs n) alter)
delivery_fits w begun line id n alter moderate sender sent = record {
  is = (below w.senders id sender, middle alter moderate);
  comes = below begun n sent;
}

delivery_cond : (w : Wire) (begun line : ℕ) (id n alter : ℤ) (a b c : Bool) → is_addend alter ≡ a → is_below (pos w.senders) id ≡ b → is_below (pos begun) n ≡ c
    → IfOk (cond a (cond (b && c) (Ok (event.Deliver line (unsigned_abs id) (unsigned_abs n) alter)) (Err (refusal.Unsent line))) (Err (refusal.Range line)))
    (EventFits w begun)
delivery_cond w begun line id n alter true true true ha hb hc = delivery_fits w begun line id n alter ha hb hc
delivery_cond w begun line id n alter true true false ha hb hc = tt
delivery_cond w begun line id n alter true false c ha hb hc = tt
delivery_cond w begun line id n alter false b c ha hb hc = tt

pub delivery_if_fits : (w : Wire) (begun line : ℕ) (id n alter : ℤ) (r : Result Event WireFault) → r ≡ delivery_if w begun line id n alter
    → IfOk r (EventFits w begun)
delivery_if_fits w begun line id n alter r is =
    subst (λ (r : Result Event WireFault). IfOk r (EventFits w begun)) (sym is) (delivery_cond w begun line id n alter _ _ _ refl refl refl)

pub three : (w : Wire) (begun number : ℕ) (vs : List ℤ) (a b c : ℤ) → length vs ≡ 3 → slice_get vs 0 ≡ Some a → slice_get vs 1 ≡ Some b
    → slice_get vs 2 ≡ Some c → delivery_of w begun number (Some vs) ≡ delivery_if w begun number a b c
three w begun number [] a b c many ha hb hc = absurd (omega (arith, many))
three w begun number (v ∷ []) a b c many ha hb hc = absurd (omega (arith, many))
three w begun number (v ∷ x ∷ []) a b c many ha hb hc = absurd (omega (arith, many))
three w begun number (v ∷ x ∷ y ∷ []) a b c many ha hb hc =
    let va : v ≡ a = cc in
    let xb : x ≡ b = cc in
    let yc : y ≡ c = cc in
    rw (va, xb, yc) refl
three w begun number (v ∷ x ∷ y ∷ z ∷ vs) a b c many ha hb hc = absurd (omega (arith, many))

pub not_three : (w : Wire) (begun number : ℕ) (vs : List ℤ) → (length vs ≡ 3 → ⊥) → delivery_of w begun number (Some vs) ≡ Err (refusal.Form number)
not_three w begun number [] other = refl
not_three w begun number (v ∷ []) other = refl
not_three w begun number (v ∷ x ∷ []) other = refl
not_three w begun number (v ∷ x ∷ y ∷ []) other = absurd (other refl)
not_three w begun number (v ∷ x ∷ y ∷ z ∷ vs) other = refl

-- ---- the words

pub cycle_is : (w : Wire) (begun number : ℕ) (verb : List ℕ) (more : List (List ℕ)) (o : Option (List ℤ)) → bytes_eq verb (codes "cycle") ≡ true
    → integers_of more ≡ o → event_of w begun number (verb ∷ more) ≡ cycle_of w number o
cycle_is w begun number verb more o is numbers =
    ap (λ (b : Bool). cond b (cycle_of w number (integers_of more))
    (cond (bytes_eq verb (codes "deliver")) (delivery_of w begun number (integers_of more)) (Err (refusal.Form number)))) is
    ∙ ap (cycle_of w number) numbers

pub delivery_is : (w : Wire) (begun number : ℕ) (verb : List ℕ) (more : List (List ℕ)) (o : Option (List ℤ)) → bytes_eq verb (codes "cycle") ≡ false
    → bytes_eq verb (codes "deliver") ≡ true → integers_of more ≡ o → event_of w begun number (verb ∷ more) ≡ delivery_of w begun number o
delivery_is w begun number verb more o other is numbers =
    ap (λ (b : Bool). cond b (cycle_of w number (integers_of more))
    (cond (bytes_eq verb (codes "deliver")) (delivery_of w begun number (integers_of more)) (Err (refusal.Form number)))) other
    ∙ (ap (λ (b : Bool). cond b (delivery_of w begun number (integers_of more)) (Err (refusal.Form number))) is ∙ ap (delivery_of w begun number) numbers)

pub neither : (w : Wire) (begun number : ℕ) (verb : List ℕ) (more : List (List ℕ)) → bytes_eq verb (codes "cycle") ≡ false
    → bytes_eq verb (codes "deliver") ≡ false → event_of w begun number (verb ∷ more) ≡ Err (refusal.Form number)
neither w begun number verb more other is =
    ap (λ (b : Bool). cond b (cycle_of w number (integers_of more))
    (cond (bytes_eq verb (codes "deliver")) (delivery_of w begun number (integers_of more)) (Err (refusal.Form number)))) other
    ∙ ap (λ (b : Bool). cond b (delivery_of w begun number (integers_of more)) (Err (refusal.Form number))) is
