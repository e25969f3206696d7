-- Meaning: what it says of every run that a fault at one operation is told to be refused, or to come to nothing.
use Rattle.std.proofs.Common.{◌≡◌, ◌≢◌, ℕ, suc, ◌+◌, ◌*◌, ◌<◌, Bool, true, false, List, [], ◌∷◌, slice_get, ℤ, pos, ◌+ℤ◌, ◌-ℤ◌, ◌*ℤ◌, Option, Some, None, ap}
use Rattle.std.proofs.Common.{sym, subst, ◌∙◌, refl, arith}
use Rattle.std.proofs.Math.IntN.{*ℤ_comm, *ℤ-zero}
use Rattle.std.proofs.lemmas.Int.{ints}
use Rattle.vcp_base.specs.declared.code.Profile.{Profile}
use Rattle.vcp_base.specs.Code.{modulus}
use Rattle.vcp_base.specs.Kinds.{multiplier}
use Rattle.coded_unit.specs.Words.{modulo}
use Rattle.coded_unit.specs.WordLaws.{WordLaws}
use Rattle.op_graph.specs.declared.op.Op.{Op}
use Rattle.op_graph.specs.declared.op.Outlet.{Outlet}
use Rattle.op_graph.specs.GraphRun.{Cycle, initial}
use Rattle.op_graph.specs.Lists.{Lists}
use Rattle.signature_table.specs.Signatures.{Numbers, signature, stamp}
use Rattle.range_audit.specs.Audit.{RowsFit}
use Rattle.fault_script.specs.declared.act.Act.{Act}
use Rattle.fault_script.specs.Changes.{Acts}
use Rattle.fault_script.specs.Differences.{difference_at, made, origin}
use Rattle.fault_injector.specs.FaultRun.{run_under}
use Rattle.fault_injector.specs.Stepping.{word_of}
use Rattle.fault_injector.specs.declared.verdicts.Verdict.{Verdict}
use Rattle.fault_injector.specs.declared.verdicts.Verdict.TheVariants as verdict
use Rattle.fault_injector.specs.Verdicts.{compared, plain_cycles}
use Rattle.fault_cover.specs.declared.disturbance.Disturbance.{Disturbance}
use Rattle.fault_cover.specs.declared.disturbance.Disturbance.TheVariants as disturbance
use Rattle.fault_cover.specs.declared.effect.Effect.TheVariants as told
use Rattle.fault_cover.specs.Beginnings.{amount_of, rest_of}
use Rattle.fault_cover.specs.Certain.{ActsMean, FirstToDiffer, IsActOf, IsSafe, IsSubject, Means, RefusedMeans, StandsAt, verdict_under}
use Rattle.fault_cover.specs.Sources.{HasInverse, Refuses, comes, is_any, late_made, source_at, sources}
use Rattle.fault_cover.specs.Telling.{RefusedWhenReached, NoOutputBefore, Nowhere, Subject, Tells, TellsAt, UnlessSame, does_the_same}
use Rattle.fault_cover.proofs.Certainty.{Laws, TouchesFrom, always_quiet, difference_is, hidden_always, hidden_before, run_has, run_is_refused, touching}
use Rattle.fault_cover.proofs.Dividing.{above_one, apart, times_minus, times_residue, times_scaled}
use Rattle.fault_cover.proofs.Judging.{IsFirstUnaccepted, one_unaccepted, quiet_is_safe, quiet_not_refused}
use Rattle.fault_cover.proofs.UntouchedRuns.{IsRun, acts_run}

-- ---- what the acts make

single : (t : Numbers) (g : Lists) (k : ℕ) (op : Op) (d : Disturbance) → rest_of d ≡ None → sources t g k op d ≡ source_at k 0 (amount_of t g op d) ∷ []
single t g k op disturbance.AddToResult one = refl
single t g k op (disturbance.AddToOperand j) one = refl
single t g k op (disturbance.AddToRest right) one = absurd cc
single t g k op (disturbance.Late j r) one = refl
single t g k op (disturbance.Does a) one = refl

module _ (p : Profile) (laws : WordLaws p) where
  -- a multiple of the constant, by a factor that has an inverse, is of a multiple
  pub any_counts : (z size : ℤ) → HasInverse p z → modulo p size ≢ 0 → modulo p (z *ℤ size) ≢ 0
  any_counts z size inverse unknown none =
      let y = inverse.0 in
      let one : modulo p (size *ℤ (z *ℤ y)) ≡ modulo p (size *ℤ pos 1) =
      sym (times_residue p laws size (z *ℤ y)) ∙ ap (λ r. modulo p (size *ℤ pos r)) inverse.1 in
      let turned : size *ℤ (z *ℤ y) ≡ y *ℤ (z *ℤ size) =
      times_scaled size z y ∙ ap (λ x. z *ℤ x) (*ℤ_comm size y) ∙ times_scaled z y size in
      let zero : modulo p (y *ℤ (z *ℤ size)) ≡ modulo p (y *ℤ pos 0) =
      sym (times_residue p laws y (z *ℤ size)) ∙ ap (λ r. modulo p (y *ℤ pos r)) none in
      let nothing : y *ℤ pos 0 ≡ pos 0 = *ℤ-zero y in
      let own : size *ℤ pos 1 ≡ size = omega (arith, ints) in
      let small : modulo p (pos 0) ≡ 0 = laws.small 0 (above p) in
      unknown (sym (ap (modulo p) own) ∙ sym one ∙ ap (modulo p) turned ∙ zero ∙ ap (modulo p) nothing ∙ small)
    where
      above : (q : Profile) → 0 < modulus q
      above q = let one = above_one q in omega (arith, one)

  known_counts : (z size : ℤ) → size ≡ pos 1 → modulo p z ≢ 0 → modulo p (z *ℤ size) ≢ 0
  known_counts z size one differs none =
      differs (sym (ap (λ x. modulo p (z *ℤ x)) one ∙ ap (modulo p) (let own : z *ℤ pos 1 ≡ z = omega (arith, ints) in own)) ∙ none)

  -- differences of integers of the same residues have one residue
  differences_alike : (a b c d : ℤ) → modulo p a ≡ modulo p c → modulo p b ≡ modulo p d → modulo p (a -ℤ b) ≡ modulo p (c -ℤ d)
  differences_alike a b c d e f =
      let first = apart p laws a c e in
      let second = apart p laws b d f in
      let parts = times_minus (pos (modulus p)) first.0 second.0 in
      let one = first.1 in
      let other = second.1 in
      laws.multiple (a -ℤ b) (c -ℤ d) (first.0 -ℤ second.0) (omega (arith, ints))

-- the word that is late differs from the one that should be read by the two signatures and the step
late_residue : (t : Numbers) (before n : ℕ) (r : ℕ) (o v w e : ℤ) → WordLaws t.profile → n ≡ suc before
    → e ≡ word_of t v (pos (signature t.profile t.seed r) +ℤ pos (stamp t.step before)) -ℤ word_of t w (o +ℤ pos (stamp t.step n))
    → modulo t.profile e ≡ modulo t.profile (pos (signature t.profile t.seed r) -ℤ pos t.step -ℤ o)
late_residue t before n r o v w e laws next is =
    let p = t.profile in
    let z = pos (signature p t.seed r) +ℤ pos (stamp t.step before) in
    let x = o +ℤ pos (stamp t.step n) in
    let first : modulo p (word_of t v z) ≡ modulo p z = laws.residue v (modulo p z) (laws.below z) in
    let second : modulo p (word_of t w x) ≡ modulo p x = laws.residue w (modulo p x) (laws.below x) in
    let stamps : stamp t.step n ≡ stamp t.step before + t.step = ap (stamp t.step) next ∙ grown t.step before in
    let apart_by : z -ℤ x ≡ pos (signature p t.seed r) -ℤ pos t.step -ℤ o = omega (arith, ints) in
    ap (modulo p) is ∙ differences_alike p laws (word_of t v z) (word_of t w x) z x first second ∙ ap (modulo p) apart_by
  where
    grown : (step m : ℕ) → step * (suc m + 1) ≡ step * (m + 1) + step
    grown step m = omega arith

-- what stands of an act of the fault: its difference is the amount times a size, and what an output refuses of the amount it refuses of that
pub record IsSized (s : Subject) (op : Op) (d : Disturbance) (a : Act) (size : ℤ) : Type 0 where
  pub one : rest_of d ≡ None
  pub makes : modulo s.graph.profile (made s.table s.graph op a) ≡ modulo s.graph.profile (amount_of s.table s.graph op d *ℤ size)
  pub counts : (z : ℤ) → Refuses s.graph.profile (is_any d) z → modulo s.graph.profile (z *ℤ size) ≢ 0

once : (z size : ℤ) → size ≡ pos 1 → z ≡ z *ℤ size
once z size e = (let own : z ≡ z *ℤ pos 1 = omega (arith, ints) in own) ∙ ap (λ x. z *ℤ x) (sym e)

sized : (s : Subject) (rows : List (List ℤ)) (n k : ℕ) (op : Op) (d : Disturbance) (a : Act) (size : ℤ) → IsSubject s → WordLaws s.graph.profile
    → slice_get s.graph.operations k ≡ Some op → IsActOf s rows n k d a size → IsSized s op d a size
sized s rows n k op disturbance.AddToResult a size is laws there of = record {
  one = refl;
  makes = ap (λ x. modulo s.graph.profile (made s.table s.graph op x)) of.0
      ∙ ap (modulo s.graph.profile) (let own : size ≡ pos 1 *ℤ size = omega (arith, ints) in own);
  counts = λ z refuses. any_counts s.graph.profile laws z size refuses of.1;
}
sized s rows n k op (disturbance.AddToOperand j) a size is laws there of = record {
  one = refl;
  makes = ap (λ x. modulo s.graph.profile (made s.table s.graph op x)) of.0;
  counts = λ z refuses. any_counts s.graph.profile laws z size refuses of.1;
}
sized s rows n k op (disturbance.AddToRest right) a size is laws there of = absurd of
sized s rows n k op (disturbance.Late j r) a size is laws there of =
    let p = s.graph.profile in
    let e = of.0 in
    let late = of.2 in
    let same : late.op ≡ op = op_is (sym late.there ∙ there) in
    let m = multiplier op.kind j in
    let profile = is.table_is.0 in
    let table_laws : WordLaws s.table.profile = subst WordLaws (sym profile) laws in
    let residue = late_residue s.table late.before n r (origin s.table s.graph late.op j) _ _ e table_laws late.cycle late.word in
    let in_graph : modulo p e ≡ modulo p (pos (signature s.table.profile s.table.seed r) -ℤ pos s.table.step -ℤ origin s.table s.graph op j) =
    sym (ap (λ q. modulo q e) profile) ∙ residue
    ∙ ap (λ q. modulo q (pos (signature s.table.profile s.table.seed r) -ℤ pos s.table.step -ℤ origin s.table s.graph late.op j)) profile
    ∙ ap (λ o. modulo p (pos (signature s.table.profile s.table.seed r) -ℤ pos s.table.step -ℤ origin s.table s.graph o j)) same in
    record {
      one = refl;
      makes = ap (λ x. modulo p (made s.table s.graph op x)) of.1 ∙ sym (times_residue p laws m e) ∙ ap (λ x. modulo p (m *ℤ pos x)) in_graph
          ∙ times_residue p laws m (pos (signature s.table.profile s.table.seed r) -ℤ pos s.table.step -ℤ origin s.table s.graph op j)
          ∙ ap (modulo p) (once (late_made s.table s.graph op j r) size of.3);
      counts = λ z refuses. known_counts p laws z size of.3 refuses;
    }
  where
    op_is : {x y : Op} → Some x ≡ Some y → x ≡ y
    op_is h = cc
sized s rows n k op (disturbance.Does b) a size is laws there of = record {
  one = refl;
  makes = ap (λ x. modulo s.graph.profile (made s.table s.graph op x)) of.0 ∙ ap (modulo s.graph.profile) (once (made s.table s.graph op b) size of.2);
  counts = λ z refuses. known_counts s.graph.profile laws z size of.2 refuses;
}

-- ---- what is told

refused_spreads : (b : Bool) (h : ℕ) (X : Type 0) → UnlessSame b (told.Refused h) X → X
refused_spreads true h X tells = absurd cc
refused_spreads false h X tells = tells

nothing_spreads : (b : Bool) (X : Type 0) → b ≡ false → UnlessSame b told.Nothing X → X
nothing_spreads true X other tells = absurd cc
nothing_spreads false X other tells = tells

-- What stands of a run with a fault: what it comes to is reached from the fault's sources, and what comes to the outputs that are reached first is what
-- the sources say, times a size; of which an output refuses what it refuses of what is told.
pub record Spreads (s : Subject) (acts : Acts) (n k : ℕ) (op : Op) (d : Disturbance) (size : ℤ) : Type 0 where
  pub touches : TouchesFrom s.graph acts n (sources s.table s.graph k op d)
  pub differences : (h : ℕ) → NoOutputBefore s (sources s.table s.graph k op d) h → (i : ℕ) (o : Outlet) → slice_get s.graph.outputs i ≡ Some o
      → modulo s.table.profile (difference_at s.table s.graph acts (n + h) o.op)
      ≡ modulo s.graph.profile (comes s.graph o.op h (sources s.table s.graph k op d) *ℤ size)
  pub counts : (z : ℤ) → Refuses s.graph.profile (is_any d) z → modulo s.graph.profile (z *ℤ size) ≢ 0

module _ (s : Subject) (is : IsSubject s) (laws : Laws s.graph) (acts : Acts) (rows : List (List ℤ)) (fit : RowsFit s.graph rows) (run : List Cycle)
    (is_run : IsRun s.graph acts rows run) (n k : ℕ) (op : Op) (d : Disturbance) (size : ℤ) (there : slice_get s.graph.operations k ≡ Some op)
    (spreads : Spreads s acts n k op d size) where
  tells_refused : (h : ℕ) → Tells s k d (told.Refused h) → RefusedWhenReached s (is_any d) (sources s.table s.graph k op d) h
  tells_refused h tells =
      refused_spreads (does_the_same op.kind d) h (RefusedWhenReached s (is_any d) (sources s.table s.graph k op d) h)
      (subst (TellsAt s k d (told.Refused h)) there tells)

  tells_nothing : does_the_same op.kind d ≡ false → Tells s k d told.Nothing → Nowhere s (sources s.table s.graph k op d)
  tells_nothing other tells =
      nothing_spreads (does_the_same op.kind d) (Nowhere s (sources s.table s.graph k op d)) other (subst (TellsAt s k d told.Nothing) there tells)

  unaccepted : (h : ℕ) → RefusedWhenReached s (is_any d) (sources s.table s.graph k op d) h → IsFirstUnaccepted s.table s.graph acts (n + h) 0 s.graph.outputs
  unaccepted h refused =
      let r = refused.refused in
      one_unaccepted s.table s.graph acts (n + h) 0 s.graph.outputs refused.output r.output r.there
      (λ none. spreads.counts (comes s.graph r.output.op h (sources s.table s.graph k op d)) r.refuses
      (sym (spreads.differences h refused.first.outputs refused.output r.output r.there) ∙ none))

  first_to_differ : (h : ℕ) (refused : RefusedWhenReached s (is_any d) (sources s.table s.graph k op d) h)
      → (u : IsFirstUnaccepted s.table s.graph acts (n + h) 0 s.graph.outputs) → FirstToDiffer s k d size h u.place
  first_to_differ h refused u = record {
    op = op;
    there = there;
    outlet = u.outlet;
    outlet_is = u.there;
    differs = λ none. u.differs (spreads.differences h refused.first.outputs u.place u.outlet u.there ∙ none);
    first = λ i o lt here differs. differs (sym (spreads.differences h refused.first.outputs i o here) ∙ u.before i o lt here);
  }

  refused_means : (h : ℕ) → Tells s k d (told.Refused h)
      → RefusedMeans s run (compared s.table s.graph acts 0 run (plain_cycles s.graph (initial s.graph) rows)) rows n k d size h
  refused_means h tells =
      let refused = tells_refused h tells in
      let hidden = hidden_before s acts n (sources s.table s.graph k op d) h spreads.touches refused.first.outputs refused.first.stops in
      let u = unaccepted h refused in
      record {
        safe = run_has s is laws acts rows fit run is_run (n + h) hidden u IsSafe tt quiet_is_safe tt;
        where_refused = run_has s is laws acts rows fit run is_run (n + h) hidden u
            (λ v. (cycle output found wanted : ℕ) → v ≡ verdict.Refused cycle output found wanted → (cycle ≡ n + h) × FirstToDiffer s k d size h output)
            (λ cycle output found wanted e. absurd cc)
            (λ v quiet cycle output found wanted e. absurd (quiet_not_refused cycle output found wanted v quiet e))
            (λ cycle output found wanted e.
            let same = refusal_is (n + h) u.refused.output u.refused.found u.refused.expected cycle output found wanted e in
            let count = u.number_is in
            let place : u.place ≡ output = (let first = same.1 in omega (arith, first, count)) in
            (sym same.0, subst (FirstToDiffer s k d size h) place (first_to_differ h refused u)));
        refused = λ comes_to. (
          u.refused.output,
          u.refused.found,
          u.refused.expected,
          run_is_refused s is laws acts rows fit run is_run (n + h) hidden u comes_to.cycle comes_to.begun comes_to.going,
        );
      }
    where
      refusal_is : (a b c e f i j l : ℕ) → verdict.Refused a b c e ≡ verdict.Refused f i j l → (a ≡ f) × (b ≡ i)
      refusal_is a b c e f i j l h = (cc, cc)

  pub run_means : Means s run (compared s.table s.graph acts 0 run (plain_cycles s.graph (initial s.graph) rows)) rows n k d size
  run_means = record {
    refused = refused_means;
    nothing = λ other that no tells.
        let same : other ≡ op = op_is (sym that ∙ there) in
        always_quiet s is laws acts rows fit run is_run (hidden_always s acts n (sources s.table s.graph k op d) spreads.touches
        (tells_nothing (ap (λ (x : Op). does_the_same x.kind d) (sym same) ∙ no) tells));
  }
    where
      op_is : {x y : Op} → Some x ≡ Some y → x ≡ y
      op_is h = cc

-- what comes of an act at one operation
act_spreads : (s : Subject) (is : IsSubject s) (laws : Laws s.graph) (acts : Acts) (n k : ℕ) (op : Op) (d : Disturbance) (a : Act) (size : ℤ)
    → slice_get s.graph.operations k ≡ Some op → StandsAt acts n k a → IsSized s op d a size → Spreads s acts n k op d size
act_spreads s is laws acts n k op d a size there stands sized =
    let amount = amount_of s.table s.graph op d in
    let one : source_at k 0 amount ∷ [] ≡ sources s.table s.graph k op d = sym (single s.table s.graph k op d sized.one) in
    record {
      touches = subst (TouchesFrom s.graph acts n) one (touching s.graph acts n k a amount stands);
      differences = subst
          (λ from. (h : ℕ) → NoOutputBefore s from h → (i : ℕ) (o : Outlet) → slice_get s.graph.outputs i ≡ Some o
          → modulo s.table.profile (difference_at s.table s.graph acts (n + h) o.op) ≡ modulo s.graph.profile (comes s.graph o.op h from *ℤ size)) one
          (λ h none i o here. difference_is s is laws acts n k op a there stands amount size h sized.makes none i o here);
      counts = sized.counts;
    }

-- of acts of a fault at an operation that is there
pub fault_means : (s : Subject) (acts : Acts) (rows : List (List ℤ)) (n k : ℕ) (op : Op) (d : Disturbance) (a : Act) (size : ℤ) → IsSubject s → Laws s.graph
    → RowsFit s.graph rows → slice_get s.graph.operations k ≡ Some op → StandsAt acts n k a → IsActOf s rows n k d a size → ActsMean s acts rows n k d size
fault_means s acts rows n k op d a size is laws fit there stands of =
    run_means s is laws acts rows fit (run_under s.table s.graph acts rows) (acts_run s.table s.graph acts is.graph laws.earlier laws.entries laws.cells rows)
    n k op d size there (act_spreads s is laws acts n k op d a size there stands (sized s rows n k op d a size is laws.words there of))

-- nothing is told where there is no such operation
nothing_means : (s : Subject) (run : List Cycle) (v : Verdict) (rows : List (List ℤ)) (n k : ℕ) (d : Disturbance) (size : ℤ)
    → slice_get s.graph.operations k ≡ None → Means s run v rows n k d size
nothing_means s run v rows n k d size none = record {
  refused = λ h tells. absurd (subst (TellsAt s k d (told.Refused h)) none tells);
  nothing = λ op there no tells. absurd (subst (TellsAt s k d told.Nothing) none tells);
}

-- what is told of a fault has its meaning where it has it wherever there is the operation
pub means_there : (s : Subject) (run : List Cycle) (v : Verdict) (rows : List (List ℤ)) (n k : ℕ) (d : Disturbance) (size : ℤ)
    → ((op : Op) → slice_get s.graph.operations k ≡ Some op → Means s run v rows n k d size) → Means s run v rows n k d size
means_there s run v rows n k d size there = by_operation (slice_get s.graph.operations k) refl
  where
    by_operation : (o : Option Op) → slice_get s.graph.operations k ≡ o → Means s run v rows n k d size
    by_operation None e = nothing_means s run v rows n k d size e
    by_operation (Some op) e = there op e

pub acts_mean : (s : Subject) (acts : Acts) (rows : List (List ℤ)) (n k : ℕ) (d : Disturbance) (a : Act) (size : ℤ) → IsSubject s → Laws s.graph
    → RowsFit s.graph rows → StandsAt acts n k a → IsActOf s rows n k d a size → ActsMean s acts rows n k d size
acts_mean s acts rows n k d a size is laws fit stands of =
    means_there s (run_under s.table s.graph acts rows) (verdict_under s.table s.graph acts rows) rows n k d size
    (λ op e. fault_means s acts rows n k op d a size is laws fit e stands of)
