-- References: the run without faults, of which the answered words are kept.
use Rattle.std.specs.Prelude.{ℕ, zero, suc, ◌≡◌, ◌≤◌, ◌*◌, List, [], ◌∷◌, ◌++◌, length, map, take, drop, All, Option, Some, None, ℤ}
use Rattle.vcp_base.specs.Limits.{most_cycles}
use Rattle.vcp_base.specs.declared.kind.StopKind.{StopKind}
use Rattle.coded_unit.specs.declared.call.Answer.{Answer}
use Rattle.coded_unit.specs.declared.call.Answer.TheVariants as answer
use Rattle.coded_unit.specs.Log.{Entry}
use Rattle.op_graph.specs.Lists.{Lists}
use Rattle.op_graph.specs.Rules.{IsGraph}
use Rattle.signature_table.specs.Signatures.{Numbers, IsTable, IsTableOf}
use Rattle.coded_machine.specs.declared.cycle_end.CycleEnd.{CycleEnd}
use Rattle.coded_machine.specs.Calls.{Carried}
use Rattle.coded_machine.specs.CycleEnds.{initial_words}
use Rattle.coded_machine.specs.Honest.{stop_answer}
use Rattle.coded_machine.specs.Runs.{AllCycles, calls_over, outcome_over}

-- A run over rows without faults: the graph, the numbers of its code, the rows, the answers of each cycle through the last that was begun, and the
-- end behind them, which is a release where the rows ended.
pub record KeptRun : Type 0 where
  pub graph : Lists
  pub table : Numbers
  pub rows : List (List ℤ)
  pub answers : List (List Answer)
  pub end : CycleEnd

-- the answers that these words are
abbrev pub words_answered : List ℤ → List Answer
words_answered words = map (λ w. answer.Word w) words

-- The answers of a run, of which these words are kept: so many cycles of n words each, and where an operation stopped, one cycle more, of the words
-- that are left and that stop.
abbrev pub kept_cycles : ℕ → ℕ → List ℤ → Option StopKind → List (List Answer)
kept_cycles n zero words None = []
kept_cycles n zero words (Some why) = (words_answered words ++ stop_answer (Some why)) ∷ []
kept_cycles n (suc whole) words stop = words_answered (take n words) ∷ kept_cycles n whole (drop n words) stop

-- The calls of a run over rows, whose cycles have these answers and this end, were carried through a unit, from its first call through its last.
pub record RanOver (g : Lists) (t : Numbers) (rows : List (List ℤ)) (answers : List (List Answer)) (e : CycleEnd)
    (told_before told_now : Option (List Entry)) (wrong_before wrong_now : ℕ) : Type 0 where
  pub all : AllCycles g t 0 rows answers
  pub ended : (outcome_over g t 0 answers).end ≡ e
  pub carried : Carried (calls_over g t 0 (initial_words g t.seed) rows answers) told_before told_now wrong_before wrong_now

-- What holds of every run that is kept: the table is the graph's, each row has a value for each input, and the answers are those of a run over the
-- rows; so many words are there for the whole cycles.
pub record IsKept (r : KeptRun) (whole words : ℕ) : Type 0 where
  pub graph : IsGraph r.graph
  pub table : IsTable r.table
  pub table_of : IsTableOf r.table r.graph
  pub width : All (λ row. length row ≡ length r.graph.inputs) r.rows
  pub few : length r.rows ≤ most_cycles
  pub all : AllCycles r.graph r.table 0 r.rows r.answers
  pub ended : (outcome_over r.graph r.table 0 r.answers).end ≡ r.end
  pub there : whole * length r.graph.operations ≤ words

-- what a run that is kept tells of itself
abbrev pub Sound : KeptRun → Type 0
Sound r =
    IsGraph r.graph × IsTable r.table × IsTableOf r.table r.graph × (length r.rows ≤ most_cycles)
    × All (λ row. length row ≡ length r.graph.inputs) r.rows × AllCycles r.graph r.table 0 r.rows r.answers
