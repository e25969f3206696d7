-- FirstRows: the rows that a run released in cycles whose answers are right are the first of the graph's run.
use Rattle.std.proofs.Common.{ℕ, suc, ◌+◌, ◌≤◌, ◌≡◌, refl, ap, subst, sym, ◌∙◌, ℤ, List, [], ◌∷◌, ◌++◌, length, arith, Option, Some, None}
use Rattle.vcp_base.specs.Limits.{most_cycles}
use Rattle.vcp_base.specs.declared.kind.StopKind.{StopKind}
use Rattle.coded_unit.specs.declared.call.Answer.{Answer}
use Rattle.coded_unit.specs.Log.{Entry}
use Rattle.op_graph.specs.Lists.{Lists}
use Rattle.op_graph.specs.Rules.{IsGraph}
use Rattle.op_graph.specs.GraphRun.{Cycle, Run, after_cycle, cycle, initial, outputs, run_from, stored}
use Rattle.signature_table.specs.Signatures.{Numbers, IsTable, stamp_before}
use Rattle.coded_machine.specs.declared.cycle_end.CycleEnd.{CycleEnd}
use Rattle.coded_machine.specs.declared.cycle_end.CycleEnd.TheVariants as end
use Rattle.coded_machine.specs.Calls.{Setting, CallsOf, AllRight}
use Rattle.coded_machine.specs.CycleEnds.{end_of, outputs_of, stored_words, initial_words}
use Rattle.coded_machine.specs.Honest.{CellsHold, HonestCells, HonestCycles, StandsFor, end_at}
use Rattle.coded_machine.specs.Runs.{Outcome, calls_over, followed_by, outcome_over, setting_at, unless_ended}
use Rattle.coded_machine.specs.FirstRows.{FirstRowsLaw}
use Rattle.coded_machine.specs.RowRuns.{SomeCycles}

-- ---- the first of a run's cycles

none_front : (first rest : List (List Answer)) → first ++ rest ≡ [] → first ≡ []
none_front [] rest is = refl
none_front (answers ∷ first) rest is = cc

front_step : (e : CycleEnd) (P Q : Type 0) (first rest : List (List Answer)) → (P → Q) → unless_ended e P (first ++ rest ≡ []) → unless_ended e Q (first ≡ [])
front_step end.Released P Q first rest f h = f h
front_step (end.Stopped op why) P Q first rest f h = none_front first rest h
front_step (end.Refused i found wanted) P Q first rest f h = none_front first rest h

-- they are those of a run that was given up behind them
some_front : (g : Lists) (t : Numbers) (n : ℕ) (rows : List (List ℤ)) (first rest : List (List Answer)) → SomeCycles g t n rows (first ++ rest)
    → SomeCycles g t n rows first
some_front g t n rows [] rest some = tt
some_front g t n [] (answers ∷ first) rest some = absurd some
some_front g t n (row ∷ rows) (answers ∷ first) rest some = (
  some.0,
  front_step (end_of g t n answers) (SomeCycles g t (suc n) rows (first ++ rest)) (SomeCycles g t (suc n) rows first) first rest
      (some_front g t (suc n) rows first rest) some.1,
)

-- ---- their rows

parted : (es fs : List Entry) → AllRight (es ++ fs) → AllRight es × AllRight fs
parted [] fs h = (tt, h)
parted (e ∷ es) fs h = let p = parted es fs h.1 in ((h.0, p.0), p.1)

unless_here : (e : CycleEnd) (P Q : Type 0) → e ≡ end.Released → unless_ended e P Q → P
unless_here end.Released P Q is h = h
unless_here (end.Stopped op why) P Q is h = absurd cc
unless_here (end.Refused i found wanted) P Q is h = absurd cc

-- a cycle that follows the graph's, and what comes after it
step : (g : Lists) (t : Numbers) (n : ℕ) (answers : List Answer) (c : Cycle) (s : Option StopKind) (next : List ℤ → Run) (later : Outcome) →
    end_of g t n answers ≡ end_at (length c.values) s → (s ≡ None → outputs_of g answers ≡ outputs g c.values) →
    (s ≡ None → (rows : List (List ℤ)) × ((next (stored g c.values)).rows ≡ later.rows ++ rows)) →
    (rows : List (List ℤ)) × ((after_cycle g c.values next s).rows ≡ (followed_by (end_of g t n answers) (outputs_of g answers) later).rows ++ rows)
step g t n answers c None next later is row rest =
    let p = rest refl in (
      p.0,
      ap (λ rows. outputs g c.values ∷ rows) p.1 ∙ ap (λ (first : List ℤ). first ∷ (later.rows ++ p.0)) (sym (row refl))
          ∙ ap (λ (e : CycleEnd). (followed_by e (outputs_of g answers) later).rows ++ p.0) (sym is),
    )
step g t n answers c (Some why) next later is row rest =
    let none : List (List ℤ) = [] in (none, ap (λ (e : CycleEnd). (followed_by e (outputs_of g answers) later).rows ++ none) (sym is))

first_over : HonestCycles → (g : Lists) (t : Numbers) (n : ℕ) (rows : List (List ℤ)) (first : List (List Answer)) (held values : List ℤ) → IsGraph g
    → IsTable t → CellsHold g t.seed (stamp_before t.step n) held values → n + length rows ≤ most_cycles →
    SomeCycles g t n rows first → AllRight (calls_over g t n held rows first) →
    (later : List (List ℤ)) × ((run_from g values rows).rows ≡ (outcome_over g t n first).rows ++ later)
first_over law g t n rows [] held values graph table hold many some right = ((run_from g values rows).rows, refl)
first_over law g t n [] (answers ∷ first) held values graph table hold many some right = absurd some
first_over law g t n (row ∷ rows) (answers ∷ first) held values graph table hold many some right =
    let s : Setting = setting_at g t n held row in
    let parts = parted (CallsOf s answers) (calls_over g t (suc n) (stored_words g answers) rows first) right in
    let c : Cycle = cycle g values row in
    let stands : StandsFor s values answers = law s values answers graph table (omega arith) hold parts.0 some.0 in
    step g t n answers c c.stop (λ h. run_from g h rows) (outcome_over g t (suc n) first) stands.end_is stands.row_is
    (λ stops.
    let released : end_of g t n answers ≡ end.Released = stands.end_is ∙ ap (end_at (length c.values)) stops in
    let next : CellsHold g t.seed (stamp_before t.step (suc n)) (stored_words g answers) (stored g c.values) =
    subst (λ j. CellsHold g t.seed (stamp_before t.step j) (stored_words g answers) (stored g c.values)) (omega arith) (stands.cells_are stops) in
    first_over law g t (suc n) rows first (stored_words g answers) (stored g c.values) graph table next (omega arith)
    (unless_here (end_of g t n answers) _ _ released some.1) parts.1)

pub first_rows : HonestCycles → HonestCells → FirstRowsLaw
first_rows law cells g t rows cycles graph table few some first rest is right =
    first_over law g t 0 rows first (initial_words g t.seed) (initial g) graph table (cells g t.seed t.step graph) (omega arith)
    (some_front g t 0 rows first rest (subst (SomeCycles g t 0 rows) is some)) right
