-- Marking: which operations are marked, and from which a path leads.
use Rattle.std.proofs.Common.{◌≡◌, ◌≢◌, ◌⊎◌, ⊎_elim, inl, inr, ℕ, zero, suc, ◌+◌, ◌<◌, ◌≤◌, ◌==◌}
use Rattle.std.proofs.Common.{Bool, true, false, cond, nat_lt, List, [], ◌∷◌, replicate, Some, None, slice_get, ap, sym, subst, refl, ◌∙◌, arith}
use Rattle.std.proofs.lemmas.Bool.{cases_lt}
use Rattle.std.proofs.lemmas.Bool.Decides.{eqb_tells, nat_tests}
use Rattle.std.specs.Option.{is_some}
use Rattle.vcp_base.specs.Kinds.{operands, operand_type}
use Rattle.vcp_base.specs.declared.kind.Kind.{Kind}
use Rattle.vcp_base.specs.declared.kind.Kind.TheVariants as kind
use Rattle.vcp_base.specs.declared.ty.Ty.{Ty}
use Rattle.op_graph.specs.declared.op.Cell.{Cell}
use Rattle.op_graph.specs.declared.op.Op.{Op}
use Rattle.op_graph.specs.Lists.{Lists, cells}
use Rattle.op_graph.specs.Reads.{named, Reads}
use Rattle.op_graph.specs.Rules.{reads_as}
use Rattle.weight_audit.specs.Paths.{Step, Crosses, Leads, Reached}
use Rattle.weight_audit.specs.Sweeping.{mark, MarksRead, MarksStore, CrossesMarked}

-- each operation that a marked one from n on reads is marked
abbrev pub ClosedFrom : List Op → ℕ → List Bool → Type 0
ClosedFrom ops n marks = (q k j : ℕ) → n ≤ q → Reads ops q k j → mark marks q ≡ true → mark marks k ≡ true

-- every marked one is reached
abbrev pub AreSound : Lists → ℕ → ℕ → List Bool → Type 0
AreSound g out borders marks = (k : ℕ) → mark marks k ≡ true → Reached g out borders k

-- everything that is reached is marked
abbrev pub AreComplete : Lists → ℕ → ℕ → List Bool → Type 0
AreComplete g out borders marks = (k : ℕ) → Reached g out borders k → mark marks k ≡ true

abbrev pub Keeps : List Bool → List Bool → Type 0
Keeps old new = (k : ℕ) → mark old k ≡ true → mark new k ≡ true

none_marked : (n k : ℕ) → mark (replicate n false) k ≡ true → ⊥
none_marked zero zero e = absurd cc
none_marked zero (suc k) e = absurd cc
none_marked (suc n) zero e = absurd cc
none_marked (suc n) (suc k) e = none_marked n k e

-- operation m hands its mark on
pub closed_more : (ops : List Op) (m n : ℕ) (old new : List Bool) → ((q k j : ℕ) → Reads ops q k j → k < q) → n ≡ suc m → Keeps old new
    → ((k j : ℕ) → Reads ops m k j → mark old m ≡ true → mark new k ≡ true) → ((k : ℕ) → mark new k ≡ true → (mark old k ≡ true) ⊎ MarksRead ops old m k)
    → ClosedFrom ops n old → ClosedFrom ops m new
closed_more ops m n old new earlier is kept marked sound closed q k j le reads now =
    by_place (⊎_elim (λ (h : mark old q ≡ true). h)
    (λ (r : MarksRead ops old m q). absurd (let before : q < m = earlier m q r.place r.reads in omega (arith, before, le))) (sound q now))
  where
    by_place : mark old q ≡ true → mark new k ≡ true
    by_place was = ⊎_elim
        (λ (h : ((q == m) ≡ true) × (q ≡ m)). marked k j (subst (λ p. Reads ops p k j) h.1 reads) (subst (λ p. mark old p ≡ true) h.1 was))
        (λ (h : ((q == m) ≡ false) × (q ≢ m)). kept k (closed q k j (let ne = h.1 in omega (arith, le, is, ne)) reads was))
        (eqb_tells q m)

pub sound_more : (g : Lists) (out borders m : ℕ) (old new : List Bool) → ((k : ℕ) → mark new k ≡ true → (mark old k ≡ true) ⊎ MarksRead g.operations old m k)
    → AreSound g out borders old → AreSound g out borders new
sound_more g out borders m old new sound are k now = ⊎_elim
    (λ (h : mark old k ≡ true). are k h)
    (λ (r : MarksRead g.operations old m k). let path = are m r.marked in (Step.Read m r.place ∷ path.0, (r.reads, path.1)))
    (sound k now)

-- the STORE of one cell more is marked, where its LOAD is
pub store_marked : (held : List Cell) (i : ℕ) (cell : Cell) (later old new : List Bool) → slice_get held i ≡ Some cell → Keeps old new
    → (mark later cell.load ≡ true → mark new cell.store ≡ true)
    → ((n : ℕ) (c : Cell) → n < i → slice_get held n ≡ Some c → mark later c.load ≡ true → mark old c.store ≡ true)
    → (n : ℕ) (c : Cell) → n < i + 1 → slice_get held n ≡ Some c → mark later c.load ≡ true → mark new c.store ≡ true
store_marked held i cell later old new here kept marked before n c below there loaded = elim (cases_lt n i) [
  | inl lt ↦ kept c.store (before n c lt there loaded)
  | inr past ↦
      let at : n ≡ i = omega arith in
      let both : Some c ≡ Some cell = sym there ∙ (ap (slice_get held) at ∙ here) in
      let same : c ≡ cell = cc in
      subst (λ d. mark new d.store ≡ true) (sym same) (marked (subst (λ d. mark later d.load ≡ true) same loaded))
]

pub store_sound : (held : List Cell) (i : ℕ) (cell : Cell) (later old new : List Bool) → slice_get held i ≡ Some cell
    → ((k : ℕ) → mark new k ≡ true → (mark old k ≡ true) ⊎ MarksStore later cell k) → ((k : ℕ) → mark old k ≡ true → CrossesMarked held later k)
    → (k : ℕ) → mark new k ≡ true → CrossesMarked held later k
store_sound held i cell later old new here sound before k now = ⊎_elim
    (λ (h : mark old k ≡ true). before k h)
    (λ (m : MarksStore later cell k).
    record {
      load = cell.load;
      crosses = record { number = i; cell = cell; there = here; store = sym m.store; load = refl };
      marked = m.marked;
    })
    (sound k now)

-- ---- the first distance

pub out_sound : (g : Lists) (out n : ℕ) (marks : List Bool) → ((k : ℕ) → mark marks k ≡ true → (mark (replicate n false) k ≡ true) ⊎ (k ≡ out))
    → AreSound g out 0 marks
out_sound g out n marks sound k now = ⊎_elim
    (λ (h : mark (replicate n false) k ≡ true). absurd (none_marked n k h))
    (λ (e : k ≡ out). ([], (e, refl)))
    (sound k now)

complete_at : (g : Lists) (out : ℕ) (marks : List Bool) → ClosedFrom g.operations 0 marks → mark marks out ≡ true → (steps : List Step) (k : ℕ)
    → Leads g out 0 k steps → mark marks k ≡ true
complete_at g out marks closed at_out [] k leads = subst (λ n. mark marks n ≡ true) (sym leads.0) at_out
complete_at g out marks closed at_out (Step.Read q j ∷ steps) k leads =
    closed q k j (omega arith) leads.0 (complete_at g out marks closed at_out steps q leads.1)
complete_at g out marks closed at_out (Step.Cross l ∷ steps) k leads = absurd leads

pub out_complete : (g : Lists) (out : ℕ) (marks : List Bool) → ClosedFrom g.operations 0 marks → mark marks out ≡ true → AreComplete g out 0 marks
out_complete g out marks closed at_out k path = complete_at g out marks closed at_out path.0 k path.1

-- ---- one border more

pub crossed_sound : (g : Lists) (out borders : ℕ) (later marks : List Bool) → AreSound g out borders later
    → ((k : ℕ) → mark marks k ≡ true → CrossesMarked (cells g) later k) → AreSound g out (suc borders) marks
crossed_sound g out borders later marks are sound k now =
    let crosses = sound k now in
    let path = are crosses.load crosses.marked in
    (Step.Cross crosses.load ∷ path.0, (crosses.crosses, path.1))

complete_before : (g : Lists) (out borders : ℕ) (later marks : List Bool) → AreComplete g out borders later → ClosedFrom g.operations 0 marks
    → ((k l : ℕ) → Crosses (cells g) k l → mark later l ≡ true → mark marks k ≡ true)
    → (steps : List Step) (k : ℕ) → Leads g out (suc borders) k steps → mark marks k ≡ true
complete_before g out borders later marks are closed crossed [] k leads = absurd (let e = leads.1 in omega (arith, e))
complete_before g out borders later marks are closed crossed (Step.Read q j ∷ steps) k leads =
    closed q k j (omega arith) leads.0 (complete_before g out borders later marks are closed crossed steps q leads.1)
complete_before g out borders later marks are closed crossed (Step.Cross l ∷ steps) k leads = crossed k l leads.0 (are l (steps, leads.1))

pub crossed_complete : (g : Lists) (out borders : ℕ) (later marks : List Bool) → AreComplete g out borders later → ClosedFrom g.operations 0 marks
    → ((k l : ℕ) → Crosses (cells g) k l → mark later l ≡ true → mark marks k ≡ true) → AreComplete g out (suc borders) marks
crossed_complete g out borders later marks are closed crossed k path = complete_before g out borders later marks are closed crossed path.0 k path.1

-- ---- what one operation reads

-- a kind with a fourth operand would have a third
some_lower : (n j : ℕ) (t u : Ty) → is_some (cond (nat_lt (suc (suc (suc j))) n) (Some t) None) ≡ true
    → is_some (cond (nat_lt 2 n) (Some u) None) ≡ true
some_lower n j t u h = by_tests (nat_lt (suc (suc (suc j))) n) (nat_lt 2 n) refl refl h
  where
    by_tests : (a b : Bool) → nat_lt (suc (suc (suc j))) n ≡ a → nat_lt 2 n ≡ b → is_some (cond a (Some t) None) ≡ true
        → is_some (cond b (Some u) None) ≡ true
    by_tests false b e f h = absurd cc
    by_tests true true e f h = refl
    by_tests true false e f h = absurd (grind (arith, nat_tests))

third_there : (k : Kind) (from : Ty) (j : ℕ) → is_some (reads_as k from (suc (suc (suc j)))) ≡ true → is_some (reads_as k from 2) ≡ true
third_there kind.Load from j h = absurd cc
third_there k from j h = some_lower (operands k) j (operand_type k (suc (suc (suc j))) from) (operand_type k 2 from) h

-- each operand's operation is marked
pub all_marked : (op : Op) (marks : List Bool) (k place : ℕ) → (is_some (reads_as op.kind op.from 0) ≡ true → mark marks op.a ≡ true)
    → (is_some (reads_as op.kind op.from 1) ≡ true → mark marks op.b ≡ true) → (is_some (reads_as op.kind op.from 2) ≡ true → mark marks op.c ≡ true)
    → is_some (reads_as op.kind op.from place) ≡ true → named op place ≡ k → mark marks k ≡ true
all_marked op marks k zero a b c reads e = subst (λ (n : ℕ). mark marks n ≡ true) e (a reads)
all_marked op marks k (suc zero) a b c reads e = subst (λ (n : ℕ). mark marks n ≡ true) e (b reads)
all_marked op marks k (suc (suc zero)) a b c reads e = subst (λ (n : ℕ). mark marks n ≡ true) e (c reads)
all_marked op marks k (suc (suc (suc j))) a b c reads e =
    subst (λ (n : ℕ). mark marks n ≡ true) e (c (third_there op.kind op.from j reads))

-- what was marked before, or is read
pub or_before : {P Q T : Type 0} → (Q → P ⊎ T) → Q ⊎ T → P ⊎ T
or_before f (inl q) = f q
or_before f (inr t) = inr t
