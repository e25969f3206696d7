-- Picking: the verdicts of a row, counted one by one.
use Rattle.std.proofs.Common.{◌≡◌, ℕ, zero, suc, ◌+◌, ◌≤◌, ◌++◌, take, flat_map, add-one, append_assoc, ◌||◌, Bool, true, false, cond, min, List, [], ◌∷◌, length, drop, All, slice_get, Some, refl, sym, ap, subst, ◌∙◌, arith}
use Rattle.std.specs.List.{list_any}
use Rattle.std.proofs.lemmas.List.{append-nil, drop_all}
use Rattle.std.proofs.lemmas.List.Elements.{All-get_or}
use Rattle.std.proofs.lemmas.Option.{get_or_from_slice_get, slice_get_within}
use Rattle.fault_script.specs.declared.act.Fault.{Fault}
use Rattle.fault_injector.specs.declared.verdicts.Verdict.{Verdict}
use Rattle.fault_injector.specs.declared.verdicts.Verdict.TheVariants as verdict
use Rattle.fault_injector.specs.declared.lines.Totals.{Totals}
use Rattle.fault_injector.specs.FaultLines.{faults as faults_of, counted, totals_after}
use Rattle.verdict_tables.specs.declared.tables.Table.{Table}
use Rattle.verdict_tables.specs.Tables.{is_in, picked, first_before}
use Rattle.verdict_tables.proofs.LinesRead.{drop_here}

-- what holds of each element holds of one at a place
pub at_place : {X : Type 0} (P : X → Type 0) (xs : List X) (i : ℕ) (x : X) → slice_get xs i ≡ Some x → All P xs → P x
at_place P xs i x there all = subst P (get_or_from_slice_get xs i x x there) (All-get_or P xs i x (slice_get_within xs i x there) all)

pub one_counted : (t : Totals) (v : Verdict) → faults_of (counted t v) ≡ faults_of t + 1
one_counted t verdict.Same = omega arith
one_counted t (verdict.Wrong cycle output got want) = omega arith
one_counted t (verdict.RanOn cycle) = omega arith
one_counted t (verdict.Refused cycle output found wanted) = omega arith
one_counted t (verdict.Stopped cycle op kind) = omega arith

picked_or : (t : Totals) (v : Verdict) (b : Bool) (later : List Verdict)
    → totals_after t (cond b (v ∷ later) later) ≡ totals_after (cond b (counted t v) t) later
picked_or t v true later = refl
picked_or t v false later = refl

-- one group more
pub one_picked : (tb : Table) (n : ℕ) (groups : List (List Fault)) (vs : List Verdict) (i : ℕ) (faults : List Fault) (v : Verdict) (t : Totals) (b : Bool)
    → slice_get groups i ≡ Some faults → slice_get vs i ≡ Some v → is_in tb n faults v ≡ b
    → totals_after t (picked tb n (drop i groups) (drop i vs))
    ≡ totals_after (cond b (counted t v) t) (picked tb n (drop (i + 1) groups) (drop (i + 1) vs))
one_picked tb n groups vs i faults v t b at there is =
    ap (λ (gs : List (List Fault)). totals_after t (picked tb n gs (drop i vs))) (drop_here groups i faults at)
    ∙ ap (λ (ws : List Verdict). totals_after t (picked tb n (faults ∷ drop (i + 1) groups) ws)) (drop_here vs i v there)
    ∙ picked_or t v (is_in tb n faults v) (picked tb n (drop (i + 1) groups) (drop (i + 1) vs))
    ∙ ap (λ (b : Bool). totals_after (cond b (counted t v) t) (picked tb n (drop (i + 1) groups) (drop (i + 1) vs))) is

-- no group is left
pub none_picked : (tb : Table) (n : ℕ) (groups : List (List Fault)) (vs : List Verdict) (i : ℕ) (t : Totals) → length groups ≤ i
    → totals_after t (picked tb n (drop i groups) (drop i vs)) ≡ t
none_picked tb n groups vs i t past = ap (λ (gs : List (List Fault)). totals_after t (picked tb n gs (drop i vs))) (drop_all i groups past)

-- one verdict more of all
pub one_of_all : (vs : List Verdict) (i : ℕ) (v : Verdict) (t : Totals) → slice_get vs i ≡ Some v
    → totals_after t (drop i vs) ≡ totals_after (counted t v) (drop (i + 1) vs)
one_of_all vs i v t there = ap (totals_after t) (drop_here vs i v there)

pub none_of_all : (vs : List Verdict) (i : ℕ) (t : Totals) → length vs ≤ i → totals_after t (drop i vs) ≡ t
none_of_all vs i t past = ap (totals_after t) (drop_all i vs past)

-- a test of the faults from a place on
pub any_from : (p : Fault → Bool) (faults : List Fault) (i : ℕ) (f : Fault) (b : Bool) → slice_get faults i ≡ Some f → p f ≡ b
    → list_any p (drop i faults) ≡ (b || list_any p (drop (i + 1) faults))
any_from p faults i f b there is =
    ap (list_any p) (drop_here faults i f there) ∙ ap (λ (b : Bool). b || list_any p (drop (i + 1) faults)) is

pub any_past : (p : Fault → Bool) (faults : List Fault) (i : ℕ) → length faults ≤ i → list_any p (drop i faults) ≡ false
any_past p faults i past = ap (list_any p) (drop_all i faults past)

-- the first cycle of the faults from a place on
pub first_more : (n : ℕ) (faults : List Fault) (i : ℕ) (f : Fault) (m : ℕ) → slice_get faults i ≡ Some f → m ≡ min n f.cycle
    → first_before n (drop i faults) ≡ first_before m (drop (i + 1) faults)
first_more n faults i f m there is =
    ap (first_before n) (drop_here faults i f there) ∙ ap (λ (k : ℕ). first_before k (drop (i + 1) faults)) (sym is)

pub first_past : (n : ℕ) (faults : List Fault) (i : ℕ) → length faults ≤ i → first_before n (drop i faults) ≡ n
first_past n faults i past = ap (first_before n) (drop_all i faults past)

-- the text of one element more, and of all
pub one_more : {X : Type 0} (h : X → List ℕ) (xs : List X) (i : ℕ) (x : X) → slice_get xs i ≡ Some x
    → flat_map h (take (i + 1) xs) ≡ flat_map h (take i xs) ++ h x
one_more h xs i x there = rw (add-one i) (taken h xs i x there)
  where
    taken : {X : Type 0} (h : X → List ℕ) (xs : List X) (i : ℕ) (x : X) → slice_get xs i ≡ Some x
        → flat_map h (take (suc i) xs) ≡ flat_map h (take i xs) ++ h x
    taken h [] i x there = absurd cc
    taken h (y ∷ xs) zero x there = let same : y ≡ x = cc in rw same (append-nil (h x))
    taken h (y ∷ xs) (suc i) x there = ap (λ t. h y ++ t) (taken h xs i x there) ∙ sym (append_assoc (h y) (flat_map h (take i xs)) (h x))

pub all_taken : {X : Type 0} (h : X → List ℕ) (xs : List X) (i : ℕ) → length xs ≤ i → flat_map h xs ≡ flat_map h (take i xs)
all_taken h [] zero past = refl
all_taken h [] (suc i) past = refl
all_taken h (x ∷ xs) zero past = absurd (omega (arith, past))
all_taken h (x ∷ xs) (suc i) past = ap (λ t. h x ++ t) (all_taken h xs i (omega (arith, past)))
