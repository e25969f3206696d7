-- Channels: a pair's run in which all answers of a channel are right.
use Rattle.std.proofs.Common.{ℕ, suc, ◌+◌, ◌≤◌, ◌<◌, ◌≡◌, refl, sym, ap, subst, ◌∙◌, List, [], ◌∷◌, ◌++◌, length, arith, ℤ, Option, Some, None, slice_get}
use Rattle.std.proofs.lemmas.List.{length-map}
use Rattle.vcp_base.specs.declared.kind.StopKind.{StopKind}
use Rattle.vcp_base.specs.Limits.{most_cycles}
use Rattle.coded_unit.specs.declared.call.Answer.{Answer}
use Rattle.coded_unit.specs.Log.{Entry}
use Rattle.op_graph.specs.Lists.{Lists}
use Rattle.op_graph.specs.Rules.{IsGraph}
use Rattle.op_graph.specs.GraphRun.{Cycle, cycle, outputs, stored, Run, Stop, after_cycle, run_from}
use Rattle.signature_table.specs.Signatures.{Numbers, IsTable, stamp_before}
use Rattle.coded_machine.specs.declared.cycle_end.CycleEnd.{CycleEnd}
use Rattle.coded_machine.specs.declared.cycle_end.CycleEnd.TheVariants as end
use Rattle.coded_machine.specs.Calls.{CallsOf, Whole, AllRight}
use Rattle.coded_machine.specs.CycleEnds.{end_of, outputs_of, stored_words}
use Rattle.coded_machine.specs.Honest.{CellsHold, StandsFor, HonestCycles, end_at, end_for}
use Rattle.coded_machine.specs.Runs.{setting_at, calls_over}
use Rattle.pair_channel.specs.declared.pair_end.PairEnd.{PairEnd}
use Rattle.pair_channel.specs.declared.pair_end.PairEnd.TheVariants as pair
use Rattle.pair_channel.specs.Beside.{AllBeside, beside, beside_end}
use Rattle.pair_channel.specs.PairEnds.{both, PairCause, Alike, FirstDifference}
use Rattle.pair_channel.specs.PairRuns.{pair_end, PairOutcome, pair_then, pair_over, unless_over, AllPairs, FrontOfRun, pair_outcome_for, Disagrees}
use Rattle.pair_channel.proofs.Ends.{both_cause, both_second_row, stop_in, pair_stop_in}

pub right_front : (es fs : List Entry) → AllRight (es ++ fs) → AllRight es × AllRight fs
right_front [] fs h = (tt, h)
right_front (e ∷ es) fs h = let r = right_front es fs h.1 in ((h.0, r.0), r.1)

pub rows_wide : (g : Lists) (a b : List Answer) → length (outputs_of g a) ≡ length (outputs_of g b)
rows_wide g a b = length-map g.outputs _ ∙ sym (length-map g.outputs _)

pub unless_here : (p : PairEnd) (P Q : Type 0) → p ≡ pair.Released → unless_over p P Q → P
unless_here pair.Released P Q is h = h
unless_here (pair.Stopped k why) P Q is h = absurd cc
unless_here (pair.Parted e f) P Q is h = absurd cc
unless_here (pair.Differ i x y) P Q is h = absurd cc

-- ---- one channel's part in the pair's end

-- the pair releases only what the channel releases, with its row, and stops only as it stops
abbrev pub PartOf : PairEnd → CycleEnd → List ℤ → List ℤ → Type 0
PartOf pair.Released e row mine = (e ≡ end.Released) × (row ≡ mine)
PartOf (pair.Stopped k why) e row mine = e ≡ end.Stopped k why
PartOf (pair.Parted x y) e row mine = Unit {0}
PartOf (pair.Differ i x y) e row mine = Unit {0}

pub first_part : (p : PairEnd) (e f : CycleEnd) (row other : List ℤ) → PairCause e f row other p → PartOf p e row row
first_part pair.Released e f row other h = (h.0, refl)
first_part (pair.Stopped k why) e f row other h = h.0
first_part (pair.Parted x y) e f row other h = tt
first_part (pair.Differ i x y) e f row other h = tt

pub second_part : (p : PairEnd) (e f : CycleEnd) (row other : List ℤ) → PairCause e f row other p → PartOf p f row other
second_part pair.Released e f row other h = (h.1, h.2)
second_part (pair.Stopped k why) e f row other h = h.1
second_part (pair.Parted x y) e f row other h = tt
second_part (pair.Differ i x y) e f row other h = tt

-- ---- the front of the graph's run

at_once : (p : PairEnd) (r : Run) → (p ≡ pair.Released → r ≡ record { rows = []; end = None }) →
    ((k : ℕ) (why : StopKind) → p ≡ pair.Stopped k why → r ≡ record { rows = []; end = Some (record { op = k; kind = why }) }) →
    FrontOfRun (record { rows = []; end = p }) r
at_once p r whole stopped = record { later = r.rows; front = refl; whole = whole; stopped = stopped }

one_more : (row wanted : List ℤ) (later : PairOutcome) (next : Run) → row ≡ wanted → FrontOfRun later next →
    FrontOfRun (record { rows = row ∷ later.rows; end = later.end }) (record { rows = wanted ∷ next.rows; end = next.end })
one_more row wanted later next is f = record {
  later = f.later;
  front = ap (λ z. z ∷ next.rows) (sym is) ∙ ap (λ (zs : List (List ℤ)). row ∷ zs) f.front;
  whole = λ e. ap (λ (z : List ℤ). record { rows = z ∷ next.rows; end = next.end }) (sym is)
      ∙ ap (λ (x : Run). record { rows = row ∷ x.rows; end = x.end }) (f.whole e);
  stopped = λ k why e. ap (λ (z : List ℤ). record { rows = z ∷ next.rows; end = next.end }) (sym is)
      ∙ ap (λ (x : Run). record { rows = row ∷ x.rows; end = x.end }) (f.stopped k why e);
}

-- one cycle of a channel that stands for the graph's
front_step : (g : Lists) (p : PairEnd) (e : CycleEnd) (row mine values : List ℤ) (s : Option StopKind) (next : List ℤ → Run) (later : PairOutcome) →
    PartOf p e row mine → e ≡ end_at (length values) s → (s ≡ None → mine ≡ outputs g values) →
    (p ≡ pair.Released → s ≡ None → FrontOfRun later (next (stored g values))) → FrontOfRun (pair_then p row later) (after_cycle g values next s)
front_step g pair.Released e row mine values None next later part is wide rest =
    one_more row (outputs g values) later (next (stored g values)) (part.1 ∙ wide refl) (rest refl refl)
front_step g pair.Released e row mine values (Some why) next later part is wide rest =
    let both : end.Released ≡ end.Stopped (length values) why = sym part.0 ∙ is in absurd cc
front_step g (pair.Stopped k cause) e row mine values None next later part is wide rest =
    let both : end.Released ≡ end.Stopped k cause = sym is ∙ part in absurd cc
front_step g (pair.Stopped k cause) e row mine values (Some why) next later part is wide rest =
    at_once (pair.Stopped k cause) _ (λ h. absurd cc)
    (λ l other h.
    let one : Stop = record { op = length values; kind = why } in
    let two : Stop = record { op = l; kind = other } in
    let same : Some one ≡ Some two = ap stop_in (sym is ∙ part) ∙ ap pair_stop_in h in
    ap (λ (x : Option Stop). record { rows = []; end = x }) same)
front_step g (pair.Parted x y) e row mine values s next later part is wide rest = at_once (pair.Parted x y) _ (λ h. absurd cc) (λ l other h. absurd cc)
front_step g (pair.Differ i x y) e row mine values s next later part is wide rest = at_once (pair.Differ i x y) _ (λ h. absurd cc) (λ l other h. absurd cc)

nothing_left : FrontOfRun (record { rows = []; end = pair.Released }) (record { rows = []; end = None })
nothing_left = at_once pair.Released _ (λ h. refl) (λ k why h. absurd cc)

-- what is known of a channel's cycle whose answers are right and whose cells hold honest words
abbrev pub Stands : Lists → Numbers → ℕ → List Answer → Cycle → Type 0
Stands g t n answers c =
    (end_of g t n answers ≡ end_for c) × (c.stop ≡ None → outputs_of g answers ≡ outputs g c.values) × (c.stop ≡ None →
    CellsHold g t.seed (stamp_before t.step (suc n)) (stored_words g answers) (stored g c.values))

pub stands_here : HonestCycles → (g : Lists) (t : Numbers) (n : ℕ) (held values row : List ℤ) (answers : List Answer) → IsGraph g → IsTable t →
    n < most_cycles → CellsHold g t.seed (stamp_before t.step n) held values → AllRight (CallsOf (setting_at g t n held row) answers) →
    Whole g.operations answers → Stands g t n answers (cycle g values row)
stands_here law g t n held values row answers graph table few hold right whole =
    let c : Cycle = cycle g values row in
    let stands : StandsFor (setting_at g t n held row) values answers = law (setting_at g t n held row) values answers graph table few hold right whole in (
      stands.end_is,
      stands.row_is,
      λ s. subst (λ j. CellsHold g t.seed (stamp_before t.step j) (stored_words g answers) (stored g c.values)) (omega arith) (stands.cells_are s),
    )

pub front_first : HonestCycles → (g : Lists) (t u : Numbers) (n : ℕ) (rows : List (List ℤ)) (ours theirs : List (List Answer)) (held values : List ℤ) →
    IsGraph g → IsTable t → CellsHold g t.seed (stamp_before t.step n) held values → n + length rows ≤ most_cycles → AllPairs g t u n rows ours theirs →
    AllRight (calls_over g t n held rows ours) → FrontOfRun (pair_over g t u n ours theirs) (run_from g values rows)
front_first law g t u n [] [] [] held values graph table hold many all right = nothing_left
front_first law g t u n [] [] (b ∷ theirs) held values graph table hold many all right = absurd all
front_first law g t u n [] (a ∷ ours) [] held values graph table hold many all right = absurd all
front_first law g t u n [] (a ∷ ours) (b ∷ theirs) held values graph table hold many all right = absurd all
front_first law g t u n (row ∷ rows) [] [] held values graph table hold many all right = absurd all
front_first law g t u n (row ∷ rows) [] (b ∷ theirs) held values graph table hold many all right = absurd all
front_first law g t u n (row ∷ rows) (a ∷ ours) [] held values graph table hold many all right = absurd all
front_first law g t u n (row ∷ rows) (a ∷ ours) (b ∷ theirs) held values graph table hold many all right =
    let parts = right_front (CallsOf (setting_at g t n held row) a) (calls_over g t (suc n) (stored_words g a) rows ours) right in
    let c : Cycle = cycle g values row in
    let here : Stands g t n a c = stands_here law g t n held values row a graph table (omega arith) hold parts.0 all.0 in
    let p : PairEnd = pair_end g t u n a b in
    let cause = both_cause (end_of g t n a) (end_of g u n b) (outputs_of g a) (outputs_of g b) (rows_wide g a b) in
    front_step g p (end_of g t n a) (outputs_of g a) (outputs_of g a) c.values c.stop (λ h. run_from g h rows) (pair_over g t u (suc n) ours theirs)
    (first_part p (end_of g t n a) (end_of g u n b) (outputs_of g a) (outputs_of g b) cause) here.0 here.1
    (λ is stops. front_first law g t u (suc n) rows ours theirs (stored_words g a) (stored g c.values) graph table (here.2 stops) (omega arith)
    (unless_here p _ _ is all.2) parts.1)

pub front_second : HonestCycles → (g : Lists) (t u : Numbers) (n : ℕ) (rows : List (List ℤ)) (ours theirs : List (List Answer)) (held values : List ℤ) →
    IsGraph g → IsTable u → CellsHold g u.seed (stamp_before u.step n) held values → n + length rows ≤ most_cycles → AllPairs g t u n rows ours theirs →
    AllRight (calls_over g u n held rows theirs) → FrontOfRun (pair_over g t u n ours theirs) (run_from g values rows)
front_second law g t u n [] [] [] held values graph table hold many all right = nothing_left
front_second law g t u n [] [] (b ∷ theirs) held values graph table hold many all right = absurd all
front_second law g t u n [] (a ∷ ours) [] held values graph table hold many all right = absurd all
front_second law g t u n [] (a ∷ ours) (b ∷ theirs) held values graph table hold many all right = absurd all
front_second law g t u n (row ∷ rows) [] [] held values graph table hold many all right = absurd all
front_second law g t u n (row ∷ rows) [] (b ∷ theirs) held values graph table hold many all right = absurd all
front_second law g t u n (row ∷ rows) (a ∷ ours) [] held values graph table hold many all right = absurd all
front_second law g t u n (row ∷ rows) (a ∷ ours) (b ∷ theirs) held values graph table hold many all right =
    let parts = right_front (CallsOf (setting_at g u n held row) b) (calls_over g u (suc n) (stored_words g b) rows theirs) right in
    let c : Cycle = cycle g values row in
    let here : Stands g u n b c = stands_here law g u n held values row b graph table (omega arith) hold parts.0 all.1 in
    let p : PairEnd = pair_end g t u n a b in
    let cause = both_cause (end_of g t n a) (end_of g u n b) (outputs_of g a) (outputs_of g b) (rows_wide g a b) in
    front_step g p (end_of g u n b) (outputs_of g a) (outputs_of g b) c.values c.stop (λ h. run_from g h rows) (pair_over g t u (suc n) ours theirs)
    (second_part p (end_of g t n a) (end_of g u n b) (outputs_of g a) (outputs_of g b) cause) here.0 here.1
    (λ is stops. front_second law g t u (suc n) rows ours theirs (stored_words g b) (stored g c.values) graph table (here.2 stops) (omega arith)
    (unless_here p _ _ is all.2) parts.1)

-- ---- the graph's run in the second channel's place

then_same : (p : PairEnd) (row : List ℤ) (x y : PairOutcome) → (p ≡ pair.Released → x ≡ y) → pair_then p row x ≡ pair_then p row y
then_same pair.Released row x y h = ap (pair_then pair.Released row) (h refl)
then_same (pair.Stopped k why) row x y h = refl
then_same (pair.Parted e f) row x y h = refl
then_same (pair.Differ i v w) row x y h = refl

released_stop : (k : ℕ) (s : Option StopKind) → end_at k s ≡ end.Released → s ≡ None
released_stop k None e = refl
released_stop k (Some why) e = absurd cc

second_released : (p : PairEnd) (e f : CycleEnd) (row other : List ℤ) → PairCause e f row other p → p ≡ pair.Released → f ≡ end.Released
second_released p e f row other h is = (subst (PairCause e f row other) is h).1

-- one cycle of a second channel whose answers are right: the pair's end is the one beside the graph's cycle, and after a release the cells hold
-- honest words
beside_here : HonestCycles → (g : Lists) (t u : Numbers) (n : ℕ) (row : List ℤ) (a b : List Answer) (held values : List ℤ) → IsGraph g → IsTable u →
    CellsHold g u.seed (stamp_before u.step n) held values → n < most_cycles → AllRight (CallsOf (setting_at g u n held row) b) → Whole g.operations b →
    (pair_end g t u n a b ≡ beside_end g t n a (cycle g values row)) × (pair_end g t u n a b ≡ pair.Released →
    CellsHold g u.seed (stamp_before u.step (suc n)) (stored_words g b) (stored g (cycle g values row).values))
beside_here law g t u n row a b held values graph table hold few right whole =
    let c : Cycle = cycle g values row in
    let here : Stands g u n b c = stands_here law g u n held values row b graph table few hold right whole in
    let p : PairEnd = pair_end g t u n a b in
    let cause = both_cause (end_of g t n a) (end_of g u n b) (outputs_of g a) (outputs_of g b) (rows_wide g a b) in
    let stops : end_of g u n b ≡ end.Released → c.stop ≡ None = λ is. released_stop (length c.values) c.stop (sym here.0 ∙ is) in (
      both_second_row (end_of g t n a) (end_of g u n b) (outputs_of g a) (outputs_of g b) (outputs g c.values) (λ is. here.1 (stops is))
          ∙ ap (λ f. both (end_of g t n a) f (outputs_of g a) (outputs g c.values)) here.0,
      λ is. here.2 (stops (second_released p (end_of g t n a) (end_of g u n b) (outputs_of g a) (outputs_of g b) cause is)),
    )

pub graph_beside : HonestCycles → (g : Lists) (t u : Numbers) (n : ℕ) (rows : List (List ℤ)) (ours theirs : List (List Answer)) (held values : List ℤ) →
    IsGraph g → IsTable u → CellsHold g u.seed (stamp_before u.step n) held values → n + length rows ≤ most_cycles → AllPairs g t u n rows ours theirs →
    AllRight (calls_over g u n held rows theirs) → pair_over g t u n ours theirs ≡ beside g t n values rows ours
graph_beside law g t u n [] [] [] held values graph table hold many all right = refl
graph_beside law g t u n [] [] (b ∷ theirs) held values graph table hold many all right = absurd all
graph_beside law g t u n [] (a ∷ ours) [] held values graph table hold many all right = absurd all
graph_beside law g t u n [] (a ∷ ours) (b ∷ theirs) held values graph table hold many all right = absurd all
graph_beside law g t u n (row ∷ rows) [] [] held values graph table hold many all right = absurd all
graph_beside law g t u n (row ∷ rows) [] (b ∷ theirs) held values graph table hold many all right = absurd all
graph_beside law g t u n (row ∷ rows) (a ∷ ours) [] held values graph table hold many all right = absurd all
graph_beside law g t u n (row ∷ rows) (a ∷ ours) (b ∷ theirs) held values graph table hold many all right =
    let parts = right_front (CallsOf (setting_at g u n held row) b) (calls_over g u (suc n) (stored_words g b) rows theirs) right in
    let c : Cycle = cycle g values row in
    let p : PairEnd = pair_end g t u n a b in
    let here = beside_here law g t u n row a b held values graph table hold (omega arith) parts.0 all.1 in
    then_same p (outputs_of g a) (pair_over g t u (suc n) ours theirs) (beside g t (suc n) (stored g c.values) rows ours)
    (λ is. graph_beside law g t u (suc n) rows ours theirs (stored_words g b) (stored g c.values) graph table (here.1 is) (omega arith)
    (unless_here p _ _ is all.2) parts.1)
    ∙ ap (λ q. pair_then q (outputs_of g a) (beside g t (suc n) (stored g c.values) rows ours)) here.0

unless_other : (p : PairEnd) (P Q R S : Type 0) → (p ≡ pair.Released → P → R) → (Q → S) → unless_over p P Q → unless_over p R S
unless_other pair.Released P Q R S f k h = f refl h
unless_other (pair.Stopped op why) P Q R S f k h = k h
unless_other (pair.Parted x y) P Q R S f k h = k h
unless_other (pair.Differ i x y) P Q R S f k h = k h

pub all_beside : HonestCycles → (g : Lists) (t u : Numbers) (n : ℕ) (rows : List (List ℤ)) (ours theirs : List (List Answer)) (held values : List ℤ) →
    IsGraph g → IsTable u → CellsHold g u.seed (stamp_before u.step n) held values → n + length rows ≤ most_cycles → AllPairs g t u n rows ours theirs →
    AllRight (calls_over g u n held rows theirs) → AllBeside g t n values rows ours
all_beside law g t u n [] [] [] held values graph table hold many all right = tt
all_beside law g t u n [] [] (b ∷ theirs) held values graph table hold many all right = absurd all
all_beside law g t u n [] (a ∷ ours) [] held values graph table hold many all right = absurd all
all_beside law g t u n [] (a ∷ ours) (b ∷ theirs) held values graph table hold many all right = absurd all
all_beside law g t u n (row ∷ rows) [] [] held values graph table hold many all right = absurd all
all_beside law g t u n (row ∷ rows) [] (b ∷ theirs) held values graph table hold many all right = absurd all
all_beside law g t u n (row ∷ rows) (a ∷ ours) [] held values graph table hold many all right = absurd all
all_beside law g t u n (row ∷ rows) (a ∷ ours) (b ∷ theirs) held values graph table hold many all right =
    let parts = right_front (CallsOf (setting_at g u n held row) b) (calls_over g u (suc n) (stored_words g b) rows theirs) right in
    let c : Cycle = cycle g values row in
    let p : PairEnd = pair_end g t u n a b in
    let here = beside_here law g t u n row a b held values graph table hold (omega arith) parts.0 all.1 in
    let later : Type 0 = AllPairs g t u (suc n) rows ours theirs in
    let next : Type 0 = AllBeside g t (suc n) (stored g c.values) rows ours in (
      all.0,
      subst (λ (q : PairEnd). unless_over q next (ours ≡ [])) here.0
          (unless_other p later ((ours ≡ []) × (theirs ≡ [])) next (ours ≡ [])
          (λ is h. all_beside law g t u (suc n) rows ours theirs (stored_words g b) (stored g c.values) graph table (here.1 is) (omega arith) h parts.1)
          (λ h. h.0) all.2),
    )

-- ---- both channels

alike_stops : (k : ℕ) (s : Option StopKind) → Alike (end_at k s) (end_at k s)
alike_stops k None = refl
alike_stops k (Some why) = refl

one_value : (row : List ℤ) (i : ℕ) (x y : ℤ) → slice_get row i ≡ Some x → slice_get row i ≡ Some y → x ≡ y
one_value row i x y here there = let same : Some x ≡ Some y = sym here ∙ there in cc

agree_step : (g : Lists) (p : PairEnd) (e f : CycleEnd) (row other values : List ℤ) (s : Option StopKind) (later : PairOutcome) → PairCause e f row other p →
    e ≡ end_at (length values) s → f ≡ end_at (length values) s → (s ≡ None → row ≡ outputs g values) → (s ≡ None → other ≡ outputs g values) →
    (p ≡ pair.Released → Disagrees later.end → ⊥) → Disagrees (pair_then p row later).end → ⊥
agree_step g pair.Released e f row other values s later cause one two mine theirs rest apart = rest refl apart
agree_step g (pair.Stopped k why) e f row other values s later cause one two mine theirs rest apart = apart
agree_step g (pair.Parted x y) e f row other values s later cause one two mine theirs rest apart =
    cause.2 (subst (λ z. Alike e z) (sym two) (subst (λ z. Alike z (end_at (length values) s)) (sym one) (alike_stops (length values) s)))
agree_step g (pair.Differ i x y) e f row other values s later cause one two mine theirs rest apart =
    let stops : s ≡ None = released_stop (length values) s (sym one ∙ cause.0) in
    let same : other ≡ row = theirs stops ∙ sym (mine stops) in
    let d : FirstDifference row other i x y = cause.2 in
    d.differ (one_value row i x y d.here (ap (λ z. slice_get z i) (sym same) ∙ d.there))

pub honest_agree : HonestCycles → (g : Lists) (t u : Numbers) (n : ℕ) (rows : List (List ℤ)) (ours theirs : List (List Answer))
    (held kept values : List ℤ) → IsGraph g → IsTable t → IsTable u → CellsHold g t.seed (stamp_before t.step n) held values →
    CellsHold g u.seed (stamp_before u.step n) kept values → n + length rows ≤ most_cycles → AllPairs g t u n rows ours theirs →
    AllRight (calls_over g t n held rows ours) → AllRight (calls_over g u n kept rows theirs) → Disagrees (pair_over g t u n ours theirs).end → ⊥
honest_agree law g t u n [] [] [] held kept values graph one two hold keep many all right too apart = apart
honest_agree law g t u n [] [] (b ∷ theirs) held kept values graph one two hold keep many all right too apart = absurd all
honest_agree law g t u n [] (a ∷ ours) [] held kept values graph one two hold keep many all right too apart = absurd all
honest_agree law g t u n [] (a ∷ ours) (b ∷ theirs) held kept values graph one two hold keep many all right too apart = absurd all
honest_agree law g t u n (row ∷ rows) [] [] held kept values graph one two hold keep many all right too apart = absurd all
honest_agree law g t u n (row ∷ rows) [] (b ∷ theirs) held kept values graph one two hold keep many all right too apart = absurd all
honest_agree law g t u n (row ∷ rows) (a ∷ ours) [] held kept values graph one two hold keep many all right too apart = absurd all
honest_agree law g t u n (row ∷ rows) (a ∷ ours) (b ∷ theirs) held kept values graph one two hold keep many all right too apart =
    let parts = right_front (CallsOf (setting_at g t n held row) a) (calls_over g t (suc n) (stored_words g a) rows ours) right in
    let others = right_front (CallsOf (setting_at g u n kept row) b) (calls_over g u (suc n) (stored_words g b) rows theirs) too in
    let c : Cycle = cycle g values row in
    let here : Stands g t n a c = stands_here law g t n held values row a graph one (omega arith) hold parts.0 all.0 in
    let there : Stands g u n b c = stands_here law g u n kept values row b graph two (omega arith) keep others.0 all.1 in
    let p : PairEnd = pair_end g t u n a b in
    let cause = both_cause (end_of g t n a) (end_of g u n b) (outputs_of g a) (outputs_of g b) (rows_wide g a b) in
    agree_step g p (end_of g t n a) (end_of g u n b) (outputs_of g a) (outputs_of g b) c.values c.stop (pair_over g t u (suc n) ours theirs) cause here.0
    there.0 here.1 there.1
    (λ is later.
    let stops : c.stop ≡ None = released_stop (length c.values) c.stop
    (sym there.0 ∙ second_released p (end_of g t n a) (end_of g u n b) (outputs_of g a) (outputs_of g b) cause is) in
    honest_agree law g t u (suc n) rows ours theirs (stored_words g a) (stored_words g b) (stored g c.values) graph one two (here.2 stops) (there.2 stops)
    (omega arith) (unless_here p _ _ is all.2) parts.1 others.1 later)
    apart

pub whole_of : (o : PairOutcome) (r : Run) (e : PairEnd) → o.end ≡ e → (Disagrees e → ⊥) → FrontOfRun o r → o ≡ pair_outcome_for r
whole_of o r pair.Released is agree f =
    ap (λ (x : PairEnd). record { rows = o.rows; end = x }) is ∙ sym (ap pair_outcome_for (f.whole is))
whole_of o r (pair.Stopped k why) is agree f =
    ap (λ (x : PairEnd). record { rows = o.rows; end = x }) is ∙ sym (ap pair_outcome_for (f.stopped k why is))
whole_of o r (pair.Parted x y) is agree f = absurd (agree tt)
whole_of o r (pair.Differ i x y) is agree f = absurd (agree tt)
