-- Runs: the calls of many cycles, and the outcome that is read off their answers.
use Rattle.std.specs.Prelude.{ℕ, suc, ◌≡◌, List, [], ◌∷◌, ◌++◌, length, map, Option, Some, None, ℤ}
use Rattle.coded_unit.specs.declared.call.Answer.{Answer}
use Rattle.coded_unit.specs.Log.{Entry}
use Rattle.op_graph.specs.Lists.{Lists}
use Rattle.op_graph.specs.GraphRun.{Run, Stop, run_from, graph_run, initial, cells_after}
use Rattle.signature_table.specs.Signatures.{Numbers, stamp_before}
use Rattle.coded_machine.specs.declared.cycle_end.CycleEnd.{CycleEnd}
use Rattle.coded_machine.specs.declared.cycle_end.CycleEnd.TheVariants as end
use Rattle.coded_machine.specs.Calls.{Setting, CallsOf, Whole, Carried}
use Rattle.coded_machine.specs.CycleEnds.{end_of, outputs_of, stored_words, initial_words}
use Rattle.coded_machine.specs.Honest.{CellsHold}
use Rattle.coded_machine.specs.State.{State, given, setting, with_answers, after_end}

-- what cycle n begins with
abbrev pub setting_at : Lists → Numbers → ℕ → List ℤ → List ℤ → Setting
setting_at g t n held row = record { graph = g; table = t; held = held; row = row; cycle = n }

-- the calls of the cycles from n on, one cycle a row, with the answers of each; the cells hold what the cycle before stored
abbrev pub calls_over : Lists → Numbers → ℕ → List ℤ → List (List ℤ) → List (List Answer) → List Entry
calls_over g t n held rows [] = []
calls_over g t n held [] (answers ∷ cycles) = []
calls_over g t n held (row ∷ rows) (answers ∷ cycles) =
    CallsOf (setting_at g t n held row) answers ++ calls_over g t (suc n) (stored_words g answers) rows cycles

-- The outcome of a run: the rows of outputs that were released, and the end that came after them, which is a release
-- where no cycle ended otherwise.
pub record Outcome : Type 0 where
  pub rows : List (List ℤ)
  pub end : CycleEnd

-- a cycle of this end and row of outputs, and then the later ones
abbrev pub followed_by : CycleEnd → List ℤ → Outcome → Outcome
followed_by end.Released row later = record { rows = row ∷ later.rows; end = later.end }
followed_by e row later = record { rows = []; end = e }

-- the outcome that is read off the answers of the cycles from n on
abbrev pub outcome_over : Lists → Numbers → ℕ → List (List Answer) → Outcome
outcome_over g t n [] = record { rows = []; end = end.Released }
outcome_over g t n (answers ∷ cycles) = followed_by (end_of g t n answers) (outputs_of g answers) (outcome_over g t (suc n) cycles)

-- the first fact after a release, the second after any other end
abbrev pub unless_ended : CycleEnd → Type 0 → Type 0 → Type 0
unless_ended end.Released goes_on ended = goes_on
unless_ended e goes_on ended = ended

-- The answers of the cycles from n on are those of a run over these rows: a whole cycle for each row, up to the first
-- cycle that is not released, and none after it.
abbrev pub AllCycles : Lists → Numbers → ℕ → List (List ℤ) → List (List Answer) → Type 0
AllCycles g t n [] [] = Unit {0}
AllCycles g t n [] (answers ∷ cycles) = ⊥
AllCycles g t n (row ∷ rows) [] = ⊥
AllCycles g t n (row ∷ rows) (answers ∷ cycles) =
    Whole g.operations answers × unless_ended (end_of g t n answers) (AllCycles g t (suc n) rows cycles) (cycles ≡ [])

-- each of the cycles from n on is whole and released
abbrev pub AllReleased : Lists → Numbers → ℕ → List (List Answer) → Type 0
AllReleased g t n [] = Unit {0}
AllReleased g t n (answers ∷ cycles) =
    Whole g.operations answers × (end_of g t n answers ≡ end.Released) × AllReleased g t (suc n) cycles

-- what the cells hold after these cycles
abbrev pub held_after : Lists → List ℤ → List (List Answer) → List ℤ
held_after g held [] = held
held_after g held (answers ∷ cycles) = held_after g (stored_words g answers) cycles

-- A run between two of its cycles: a fresh machine carried a cycle for each of these rows, and each was released; the
-- log grew by the calls of these cycles and by nothing else.
pub record RunSoFar (g : Lists) (t : Numbers) (rows : List (List ℤ)) (cycles : List (List Answer)) (m : State) (told_before told_now : Option (List Entry))
    (wrong_before wrong_now : ℕ) : Type 0 where
  pub carried : Carried (calls_over g t 0 (initial_words g t.seed) rows cycles) told_before told_now wrong_before wrong_now
  pub released : AllReleased g t 0 cycles
  pub many_rows : length rows ≡ length cycles
  pub many_cycles : m.cycles ≡ length cycles
  pub graph : m.graph ≡ g
  pub table : m.table ≡ t
  pub held : m.held ≡ held_after g (initial_words g t.seed) cycles
  pub going : m.ended ≡ None

-- A machine in the midst of a cycle that a caller carries by `next_call` and `put`: it began the cycle as `old`, with no end
-- before, and has nothing new but its answers; the calls so far are these, with their answers.
pub record UnderWay (old m : State) (row : List ℤ) (calls : List Entry) : Type 0 where
  pub going : old.ended ≡ None
  pub same : m ≡ record old { answers = m.answers; under_way = m.under_way }
  pub calls_are : calls ≡ CallsOf (setting old row) (given m)

-- A cycle of a machine with no end before, from one state to another: it is whole, these are its calls with their answers, its
-- end is the one that is read off its answers, and the machine is as that end leaves it.
pub record Ended (old new : State) (row : List ℤ) (calls : List Entry) (e : CycleEnd) : Type 0 where
  pub going : old.ended ≡ None
  pub whole : Whole old.graph.operations new.answers
  pub calls_are : calls ≡ CallsOf (setting old row) new.answers
  pub end_is : e ≡ end_of old.graph old.table old.cycles new.answers
  pub machine : new ≡ after_end (with_answers old new.answers) e

-- what carrying the calls of a machine's cycle, from one state to another, left of a unit
abbrev pub CarriedCycle : State → State → List ℤ → Option (List Entry) → Option (List Entry) → ℕ → ℕ → Type 0
CarriedCycle old new row told_before told_now wrong_before wrong_now =
    Carried (CallsOf (setting old row) new.answers) told_before told_now wrong_before wrong_now

-- A cycle of a machine with no end before, from one state to another, as `Machine::cycle` promises it: it is whole, the log grew
-- by its calls, its end is the one that is read off its answers, and the machine is as that end leaves it.
pub record Turn (old new : State) (row : List ℤ) (e : CycleEnd) (told_before told_now : Option (List Entry)) (wrong_before wrong_now : ℕ) : Type 0 where
  pub going : old.ended ≡ None
  pub whole : Whole old.graph.operations new.answers
  pub carried : CarriedCycle old new row told_before told_now wrong_before wrong_now
  pub end_is : e ≡ end_of old.graph old.table old.cycles new.answers
  pub machine : new ≡ after_end (with_answers old new.answers) e

-- the row of a cycle that was released, and none of another
abbrev pub row_if : CycleEnd → List ℤ → List (List ℤ)
row_if end.Released row = row ∷ []
row_if e row = []

-- A run over rows, to its end or between two of its cycles: the log grew by the calls of its cycles with their answers and
-- by nothing else, and the released rows and the end are those that are read off these answers.
pub record RunOver (g : Lists) (t : Numbers) (rows : List (List ℤ)) (cycles : List (List Answer)) (outputs : List (List ℤ)) (e : CycleEnd)
    (told_before told_now : Option (List Entry)) (wrong_before wrong_now : ℕ) : Type 0 where
  pub carried : Carried (calls_over g t 0 (initial_words g t.seed) rows cycles) told_before told_now wrong_before wrong_now
  pub all : AllCycles g t 0 rows cycles
  pub outcome : outcome_over g t 0 cycles ≡ record { rows = outputs; end = e }

-- the end of a run on plain integers
abbrev pub end_of_run : Option Stop → CycleEnd
end_of_run None = end.Released
end_of_run (Some s) = end.Stopped s.op s.kind

-- the outcome that stands for a run on plain integers
abbrev pub outcome_for : Run → Outcome
outcome_for r = record { rows = r.rows; end = end_of_run r.end }

-- A run between two of its cycles follows the graph: the cells hold honest words of some values, and the graph's run over
-- these rows and any others after them gives the outputs so far and then goes on from these values.
pub record FollowsSoFar (g : Lists) (rows : List (List ℤ)) (cycles : List (List Answer)) (m : State) : Type 0 where
  pub values : List ℤ
  pub values_are : values ≡ cells_after g (initial g) rows
  pub hold : CellsHold m.graph m.table.seed (stamp_before m.table.step m.cycles) m.held values
  pub run : (more : List (List ℤ)) →
      graph_run g (rows ++ more) ≡ record { rows = map (outputs_of g) cycles ++ (run_from g values more).rows; end = (run_from g values more).end }
