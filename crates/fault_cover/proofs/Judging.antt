-- Judging: verdicts, cycle by cycle.
use Rattle.std.proofs.Common.{◌≡◌, ◌≢◌, ⊎_elim, ℕ, zero, suc, ◌+◌, ◌<◌, ◌==◌, cond, Bool, true, false, List, [], ◌∷◌, map, slice_get, ℤ, pos, negsuc, Option}
use Rattle.std.proofs.Common.{Some, None, ap, sym, subst, ◌∙◌, refl, arith}
use Rattle.std.proofs.lemmas.Bool.Decides.{eqb_tells, nat_tests}
use Rattle.vcp_base.specs.Differences.{Difference, first_difference}
use Rattle.vcp_base.specs.Kinds.{same}
use Rattle.coded_unit.specs.Words.{modulo}
use Rattle.op_graph.specs.declared.op.Outlet.{Outlet}
use Rattle.op_graph.specs.GraphRun.{Cycle, Stop}
use Rattle.op_graph.specs.Lists.{Lists}
use Rattle.signature_table.specs.Signatures.{Numbers, expected}
use Rattle.fault_script.specs.Changes.{Acts}
use Rattle.fault_script.specs.Differences.{difference_at}
use Rattle.fault_injector.specs.Accepted.{RefusedAt, first_unaccepted, residue_under}
use Rattle.fault_injector.specs.declared.verdicts.Verdict.{Verdict}
use Rattle.fault_injector.specs.declared.verdicts.Verdict.TheVariants as verdict
use Rattle.fault_injector.specs.Verdicts.{compared, judged, judged_cycle, stops_alike, verdict_or}
use Rattle.fault_cover.specs.Certain.{IsQuiet, IsSafe}

-- ---- runs

module _ (t : Numbers) (g : Lists) (acts : Acts) where
  by_verdict : (P : Verdict → Type 0) (i : ℕ) (c p : Cycle) (later : Verdict) (x : Option Verdict) → judged_cycle t g acts i c p ≡ x
      → ((v : Verdict) → x ≡ Some v → P v) → (x ≡ None → P later) → P (verdict_or (judged_cycle t g acts i c p) later)
  by_verdict P i c p later None e first second = subst (λ y. P (verdict_or y later)) (sym e) (second refl)
  by_verdict P i c p later (Some v) e first second = subst (λ y. P (verdict_or y later)) (sym e) (first v refl)

  -- what holds of the verdicts of the cycles before one that has a verdict, and of that one's, holds of the run's
  pub compared_by : (P : Verdict → Type 0) → P verdict.Same → (steps i : ℕ) (cs ps : List Cycle)
      → ((j : ℕ) (c p : Cycle) → j < steps → slice_get cs j ≡ Some c → slice_get ps j ≡ Some p → (v : Verdict) → judged_cycle t g acts (i + j) c p ≡ Some v
      → P v)
      → ((c p : Cycle) → slice_get cs steps ≡ Some c → slice_get ps steps ≡ Some p → (v : Verdict) × (judged_cycle t g acts (i + steps) c p ≡ Some v) × P v)
      → P (compared t g acts i cs ps)
  compared_by P same steps i [] ps early last = same
  compared_by P same steps i (c ∷ cs) [] early last = same
  compared_by P same zero i (c ∷ cs) (p ∷ ps) early last =
      let one = last c p refl refl in
      let none : i + 0 ≡ i = omega arith in
      subst (λ y. P (verdict_or y (compared t g acts (suc i) cs ps))) (sym (sym (ap (λ m. judged_cycle t g acts m c p) none) ∙ one.1)) one.2
  compared_by P same (suc steps) i (c ∷ cs) (p ∷ ps) early last =
      by_verdict P i c p (compared t g acts (suc i) cs ps) (judged_cycle t g acts i c p) refl
      (λ v e. early 0 c p (omega arith) refl refl v (ap (λ m. judged_cycle t g acts m c p) (let none : i + 0 ≡ i = omega arith in none) ∙ e))
      (λ none. compared_by P same steps (suc i) cs ps
      (λ j d q lt here there v e. early (suc j) d q (omega (arith, lt)) here there v
      (ap (λ m. judged_cycle t g acts m d q) (let more : i + suc j ≡ suc i + j = omega arith in more) ∙ e))
      (λ d q here there.
      let one = last d q here there in
      (one.0, ap (λ m. judged_cycle t g acts m d q) (let more : suc i + steps ≡ i + suc steps = omega arith in more) ∙ one.1, one.2)))

  -- where no cycle before one has a verdict, that one's is the run's
  pub compared_at : (steps i : ℕ) (cs ps : List Cycle) (c p : Cycle) (v : Verdict)
      → ((j : ℕ) (d q : Cycle) → j < steps → slice_get cs j ≡ Some d → slice_get ps j ≡ Some q → judged_cycle t g acts (i + j) d q ≡ None)
      → slice_get cs steps ≡ Some c → slice_get ps steps ≡ Some p → judged_cycle t g acts (i + steps) c p ≡ Some v → compared t g acts i cs ps ≡ v
  compared_at steps i [] ps c p v none here there is = absurd cc
  compared_at steps i (d ∷ cs) [] c p v none here there is = absurd cc
  compared_at zero i (d ∷ cs) (q ∷ ps) c p v none here there is =
      let first : d ≡ c = some_is here in
      let other : q ≡ p = some_is there in
      let count : i ≡ i + 0 = omega arith in
      ap (λ y. verdict_or y (compared t g acts (suc i) cs ps))
      (ap (λ x. judged_cycle t g acts i x q) first ∙ ap (λ x. judged_cycle t g acts i c x) other ∙ ap (λ m. judged_cycle t g acts m c p) count ∙ is)
    where
      some_is : {a b : Cycle} → Some a ≡ Some b → a ≡ b
      some_is e = cc
  compared_at (suc steps) i (d ∷ cs) (q ∷ ps) c p v none here there is =
      let first : judged_cycle t g acts i d q ≡ None =
      ap (λ m. judged_cycle t g acts m d q) (let count : i ≡ i + 0 = omega arith in count) ∙ none 0 d q (omega arith) refl refl in
      ap (λ y. verdict_or y (compared t g acts (suc i) cs ps)) first
      ∙ compared_at steps (suc i) cs ps c p v
      (λ j e r lt one other. ap (λ m. judged_cycle t g acts m e r) (let more : suc i + j ≡ i + suc j = omega arith in more)
      ∙ none (suc j) e r (omega (arith, lt)) one other)
      here there (ap (λ m. judged_cycle t g acts m c p) (let more : suc i + steps ≡ i + suc steps = omega arith in more) ∙ is)

-- ---- one cycle

pub alike_quiet : (b : Bool) (n op : ℕ) (s : Stop) → IsQuiet (cond b verdict.Same (verdict.Stopped n s.op s.kind))
alike_quiet true n op s = tt
alike_quiet false n op s = tt

verdict_is : {a b : Verdict} → Some a ≡ Some b → a ≡ b
verdict_is e = cc

pub quiet_is_safe : (v : Verdict) → IsQuiet v → IsSafe v
quiet_is_safe verdict.Same quiet = tt
quiet_is_safe (verdict.Wrong cycle output got want) quiet = absurd quiet
quiet_is_safe (verdict.RanOn cycle) quiet = absurd quiet
quiet_is_safe (verdict.Refused cycle output found wanted) quiet = tt
quiet_is_safe (verdict.Stopped cycle op kind) quiet = tt

pub quiet_not_refused : (cycle output found wanted : ℕ) (v : Verdict) → IsQuiet v → v ≡ verdict.Refused cycle output found wanted → ⊥
quiet_not_refused cycle output found wanted v quiet e = subst IsQuiet e quiet

-- a cycle in which nothing is refused, no stop is passed and no output differs
pub judged_quiet : (n : ℕ) (stop other : Option Stop) (refused : Option RefusedAt) (wrong : Option Difference) → (stop ≡ None → refused ≡ None)
    → (stop ≡ None → other ≡ None) → (stop ≡ None → wrong ≡ None) → (v : Verdict) → judged n stop refused other wrong ≡ Some v → IsQuiet v
judged_quiet n (Some s) other refused wrong first second third v e =
    subst IsQuiet (verdict_is e) (alike_quiet (stops_alike s other) n s.op s)
judged_quiet n None other refused wrong first second third v e = absurd
    (let none : judged n None refused other wrong ≡ None =
    ap (λ r. judged n None r other wrong) (first refl) ∙ ap (λ o. judged n None None o wrong) (second refl) ∙ ap (λ w. judged n None None None w)
    (third refl) in
    let no : Some v ≡ None = sym e ∙ none in
    cc)

pub judged_none : (n : ℕ) (stop other : Option Stop) (refused : Option RefusedAt) (wrong : Option Difference) → stop ≡ None → refused ≡ None → other ≡ None
    → wrong ≡ None → judged n stop refused other wrong ≡ None
judged_none n stop other refused wrong e f h k =
    ap (λ s. judged n s refused other wrong) e ∙ ap (λ r. judged n None r other wrong) f ∙ ap (λ o. judged n None None o wrong) h ∙ ap
    (λ w. judged n None None None w) k

-- ---- outputs

-- all outputs are accepted where none has a difference
pub all_accepted : (t : Numbers) (g : Lists) (acts : Acts) (n number : ℕ) (outs : List Outlet)
    → ((i : ℕ) (o : Outlet) → slice_get outs i ≡ Some o → modulo t.profile (difference_at t g acts n o.op) ≡ 0) → first_unaccepted t g acts n number outs ≡ None
all_accepted t g acts n number [] none = refl
all_accepted t g acts n number (o ∷ outs) none = ⊎_elim
    (λ (h : ((modulo t.profile (difference_at t g acts n o.op) == 0) ≡ true) × (modulo t.profile (difference_at t g acts n o.op) ≡ 0)).
    ap (λ b. cond b (first_unaccepted t g acts n (suc number) outs)
    (Some (record { output = number; found = residue_under t g acts n o.op; expected = expected t.profile t.seed t.step o.op n }))) h.0
    ∙ all_accepted t g acts n (suc number) outs (λ i p there. none (suc i) p there))
    (λ (h : ((modulo t.profile (difference_at t g acts n o.op) == 0) ≡ false) × (modulo t.profile (difference_at t g acts n o.op) ≢ 0)).
    absurd (h.1 (none 0 o refl)))
    (eqb_tells (modulo t.profile (difference_at t g acts n o.op)) 0)

-- the first output that isn't accepted
pub record IsFirstUnaccepted (t : Numbers) (g : Lists) (acts : Acts) (n number : ℕ) (outs : List Outlet) : Type 0 where
  pub place : ℕ
  pub outlet : Outlet
  pub there : slice_get outs place ≡ Some outlet
  pub differs : modulo t.profile (difference_at t g acts n outlet.op) ≢ 0
  pub before : (i : ℕ) (o : Outlet) → i < place → slice_get outs i ≡ Some o → modulo t.profile (difference_at t g acts n o.op) ≡ 0
  pub refused : RefusedAt
  pub is : first_unaccepted t g acts n number outs ≡ Some refused
  pub number_is : refused.output ≡ number + place

pub one_unaccepted : (t : Numbers) (g : Lists) (acts : Acts) (n number : ℕ) (outs : List Outlet) (i : ℕ) (o : Outlet) → slice_get outs i ≡ Some o
    → modulo t.profile (difference_at t g acts n o.op) ≢ 0 → IsFirstUnaccepted t g acts n number outs
one_unaccepted t g acts n number [] i o there differs = absurd cc
one_unaccepted t g acts n number (p ∷ outs) i o there differs = ⊎_elim
    (λ (h : ((modulo t.profile (difference_at t g acts n p.op) == 0) ≡ true) × (modulo t.profile (difference_at t g acts n p.op) ≡ 0)).
    later i there h (λ j that. one_unaccepted t g acts n (suc number) outs j o that differs))
    (λ (h : ((modulo t.profile (difference_at t g acts n p.op) == 0) ≡ false) × (modulo t.profile (difference_at t g acts n p.op) ≢ 0)). record {
      place = 0;
      outlet = p;
      there = refl;
      differs = h.1;
      before = λ j q lt that. absurd (omega (arith, lt));
      refused = record { output = number; found = residue_under t g acts n p.op; expected = expected t.profile t.seed t.step p.op n };
      is = ap (λ b. cond b (first_unaccepted t g acts n (suc number) outs)
          (Some (record { output = number; found = residue_under t g acts n p.op; expected = expected t.profile t.seed t.step p.op n }))) h.0;
      number_is = omega arith;
    })
    (eqb_tells (modulo t.profile (difference_at t g acts n p.op)) 0)
  where
    outlet_is : {a b : Outlet} → Some a ≡ Some b → a ≡ b
    outlet_is e = cc

    more_before : (m : IsFirstUnaccepted t g acts n (suc number) outs) → modulo t.profile (difference_at t g acts n p.op) ≡ 0 → (j : ℕ) (q : Outlet)
        → j < suc m.place
        → slice_get (p ∷ outs) j ≡ Some q → modulo t.profile (difference_at t g acts n q.op) ≡ 0
    more_before m none zero q lt that = subst (λ (x : Outlet). modulo t.profile (difference_at t g acts n x.op) ≡ 0) (outlet_is that) none
    more_before m none (suc j) q lt that = m.before j q (omega (arith, lt)) that

    later : (j : ℕ) → slice_get (p ∷ outs) j ≡ Some o
        → ((modulo t.profile (difference_at t g acts n p.op) == 0) ≡ true) × (modulo t.profile (difference_at t g acts n p.op) ≡ 0)
        → ((j : ℕ) → slice_get outs j ≡ Some o → IsFirstUnaccepted t g acts n (suc number) outs) → IsFirstUnaccepted t g acts n number (p ∷ outs)
    later zero that h more = absurd (differs (subst (λ (x : Outlet). modulo t.profile (difference_at t g acts n x.op) ≡ 0) (outlet_is that) h.1))
    later (suc j) that h more =
        let m = more j that in
        let count = m.number_is in
        record {
          place = suc m.place;
          outlet = m.outlet;
          there = m.there;
          differs = m.differs;
          before = more_before m h.1;
          refused = m.refused;
          is = ap (λ b. cond b (first_unaccepted t g acts n (suc number) outs)
              (Some (record { output = number; found = residue_under t g acts n p.op; expected = expected t.profile t.seed t.step p.op n }))) h.0 ∙ m.is;
          number_is = omega (arith, count);
        }

same_self : (x : ℤ) → same x x ≡ true
same_self (pos n) = grind (arith, nat_tests)
same_self (negsuc n) = grind (arith, nat_tests)

pub no_first_difference : (f h : Outlet → ℤ) (outs : List Outlet) (number : ℕ) → ((i : ℕ) (o : Outlet) → slice_get outs i ≡ Some o → f o ≡ h o)
    → first_difference (map f outs) (map h outs) number ≡ None
no_first_difference f h [] number alike = refl
no_first_difference f h (o ∷ outs) number alike =
    let one : same (f o) (h o) ≡ true = ap (same (f o)) (sym (alike 0 o refl)) ∙ same_self (f o) in
    ap (λ b. cond b (first_difference (map f outs) (map h outs) (suc number)) (Some (record { place = number; first = f o; second = h o }))) one
    ∙ no_first_difference f h outs (suc number) (λ i p there. alike (suc i) p there)
