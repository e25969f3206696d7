-- RowRuns: what running a graph over the rows that are left leaves, on any unit.
use Rattle.std.specs.Prelude.{ℕ, suc, ◌≡◌, ◌<◌, ◌-◌, ◌^◌, List, [], ◌∷◌, ◌++◌, map, Option, None, Some, ℤ, Result, Ok, Err, OnErr}
use Rattle.std.specs.Io.KnownBytes.{Appends}
use Rattle.vcp_outside.specs.Counts.{Rose}
use Rattle.vcp_outside.specs.Written.{AppendsPart}
use Rattle.input_rows.specs.RowsOf.{RowsLeft}
use Rattle.coded_unit.specs.declared.call.Answer.{Answer}
use Rattle.op_graph.specs.Lists.{Lists}
use Rattle.op_graph.specs.GraphRun.{graph_run}
use Rattle.signature_table.specs.Signatures.{Numbers}
use Rattle.coded_machine.specs.declared.cycle_end.CycleEnd.{CycleEnd}
use Rattle.coded_machine.specs.declared.cycle_end.CycleEnd.TheVariants as end
use Rattle.coded_machine.specs.Calls.{Carried, Whole}
use Rattle.coded_machine.specs.CycleEnds.{end_of, outputs_of, initial_words}
use Rattle.coded_machine.specs.Runs.{Outcome, AllCycles, calls_over, outcome_over, outcome_for, unless_ended}
use Rattle.coded_machine.specs.declared.rows.fault.RunFault.{RunFault}
use Rattle.coded_machine.specs.declared.rows.fault.RunFault.TheVariants as fault
use Rattle.coded_machine.specs.Moments.{Moment}

-- The answers of the cycles from n on are those of a run over these rows that may have been given up between two of its
-- cycles: a whole cycle for each of the first rows, up to the first cycle that is not released, and none after it.
abbrev pub SomeCycles : Lists → Numbers → ℕ → List (List ℤ) → List (List Answer) → Type 0
SomeCycles g t n rows [] = Unit {0}
SomeCycles g t n [] (answers ∷ cycles) = ⊥
SomeCycles g t n (row ∷ rows) (answers ∷ cycles) =
    Whole g.operations answers × unless_ended (end_of g t n answers) (SomeCycles g t (suc n) rows cycles) (cycles ≡ [])

-- what is written for the rows of outputs of the cycles from n on
abbrev pub texts_from : (ℕ → List ℤ → List ℕ) → ℕ → List (List ℤ) → List ℕ
texts_from text n [] = []
texts_from text n (row ∷ rows) = text n row ++ texts_from text (suc n) rows

-- a header and all that is written for the rows of the cycles before the last one were written, and maybe more
abbrev pub EarlierPrinted : Lists → List ℕ → (ℕ → List ℤ → List ℕ) → List (List Answer) → Option (List ℕ) → Option (List ℕ) → Type 0
EarlierPrinted g header text cycles old new =
    (earlier : List (List Answer)) (last : List Answer) → cycles ≡ earlier ++ last ∷ [] →
    (more : List ℕ) × Appends old new ((header ++ texts_from text 0 (map (outputs_of g) earlier)) ++ more)

-- the same without a header
abbrev pub EarlierWritten : Lists → (ℕ → List ℤ → List ℕ) → List (List Answer) → Moment → Moment → Type 0
EarlierWritten g text cycles before after = EarlierPrinted g [] text cycles before.out.written after.out.written

-- a run came to its end on these rows: a cycle that wasn't released, or the last row
pub record CameToEnd (g : Lists) (t : Numbers) (rows : List (List ℤ)) (cycles : List (List Answer)) (e : CycleEnd) : Type 0 where
  pub all : AllCycles g t 0 rows cycles
  pub end_is : (outcome_over g t 0 cycles).end ≡ e

-- How a run over the rows that are left ended, whose cycles had these answers. Where it came to its end, all that is written
-- for its rows was written; where a row is refused that is behind the others, too. Where writing failed, a part of it was.
abbrev pub EndsSo : Lists → Numbers → RowsLeft → (ℕ → List ℤ → List ℕ) → List (List Answer) → Moment → Moment → Result CycleEnd RunFault → Type 0
EndsSo g t left text cycles before after (Ok e) =
    CameToEnd g t left.rows cycles e × (e ≡ end.Released → left.refusal ≡ None) × Appends before.out.written after.out.written
    (texts_from text 0 (outcome_over g t 0 cycles).rows)
EndsSo g t left text cycles before after (Err (fault.Rows f)) =
    CameToEnd g t left.rows cycles end.Released × (left.refusal ≡ Some f) × Appends before.out.written after.out.written (texts_from text 0 (outcome_over g t 0 cycles).rows)
EndsSo g t left text cycles before after (Err fault.Write) =
    Rose before.out.faults after.out.faults × AppendsPart before.out.written after.out.written
    (texts_from text 0 (outcome_over g t 0 cycles).rows) × EarlierWritten g text cycles before after
EndsSo g t left text cycles before after (Err fault.Memory) =
    Appends before.out.written after.out.written (texts_from text 0 (outcome_over g t 0 cycles).rows)

-- an outcome is a front of that of the graph's run on plain integers over these rows
pub record IsFront (g : Lists) (rows : List (List ℤ)) (o : Outcome) : Type 0 where
  pub released : o.end ≡ end.Released
  pub more : List (List ℤ)
  pub rows_are : (graph_run g rows).rows ≡ o.rows ++ more

-- the outcome of a run that came to its end is that of the graph's run on plain integers, and that of another one a front of it
abbrev pub Follows : Lists → List (List ℤ) → Outcome → Result CycleEnd RunFault → Type 0
Follows g rows o (Ok e) = o ≡ outcome_for (graph_run g rows)
Follows g rows o (Err (fault.Rows f)) = o ≡ outcome_for (graph_run g rows)
Follows g rows o (Err fault.Write) = IsFront g rows o
Follows g rows o (Err fault.Memory) = IsFront g rows o

-- What running a graph over the rows that are left leaves, where so much is written for the outputs of each released cycle: the
-- log grew by the calls of the cycles with the unit's answers and by nothing else, and the run ended as is read off these answers.
-- Before a run was given up, each cycle was released. Where no answer was wrong, it is the graph's run on plain integers.
pub record RunsRows (g : Lists) (t : Numbers) (left : RowsLeft) (text : ℕ → List ℤ → List ℕ) (before after : Moment)
    (result : Result CycleEnd RunFault) : Type 0 where
  pub cycles : List (List Answer)
  pub carried : Carried (calls_over g t 0 (initial_words g t.seed) left.rows cycles) before.unit.log after.unit.log before.unit.wrong after.unit.wrong
  pub some : SomeCycles g t 0 left.rows cycles
  pub ends : EndsSo g t left text cycles before after result
  pub given_up : OnErr result ((outcome_over g t 0 cycles).end ≡ end.Released)
  pub follows : after.unit.wrong ≡ before.unit.wrong → before.unit.wrong < 2 ^ 64 - 1 → Follows g left.rows (outcome_over g t 0 cycles) result
