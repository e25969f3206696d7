-- PairRuns: a pair's run over rows, read off the answers of both channels.
use Rattle.std.specs.Prelude.{ℕ, suc, ◌≡◌, List, [], ◌∷◌, ◌++◌, length, map, Option, Some, None, ℤ}
use Rattle.vcp_base.specs.declared.kind.StopKind.{StopKind}
use Rattle.coded_unit.specs.declared.call.Answer.{Answer}
use Rattle.op_graph.specs.Lists.{Lists}
use Rattle.op_graph.specs.GraphRun.{Run, Stop}
use Rattle.signature_table.specs.Signatures.{Numbers}
use Rattle.coded_machine.specs.Calls.{Whole, Carried}
use Rattle.coded_machine.specs.CycleEnds.{end_of, outputs_of, initial_words}
use Rattle.coded_machine.specs.Runs.{RunSoFar, calls_over}
use Rattle.pair_channel.specs.declared.pair_end.PairEnd.{PairEnd}
use Rattle.pair_channel.specs.declared.pair_end.PairEnd.TheVariants as pair
use Rattle.pair_channel.specs.PairEnds.{both}
use Rattle.pair_channel.specs.PairStates.{PairState}
use Rattle.coded_unit.specs.Seen.{UnitSeen}

-- the end of cycle n, by the answers of the two channels, whose tables are these
abbrev pub pair_end : Lists → Numbers → Numbers → ℕ → List Answer → List Answer → PairEnd
pair_end g t u n ours theirs = both (end_of g t n ours) (end_of g u n theirs) (outputs_of g ours) (outputs_of g theirs)

-- The outcome of a run: the rows that were released, and the end that came after them, which is a release where no cycle ended otherwise.
pub record PairOutcome : Type 0 where
  pub rows : List (List ℤ)
  pub end : PairEnd

-- a cycle of this end and row of outputs, and then the later ones
abbrev pub pair_then : PairEnd → List ℤ → PairOutcome → PairOutcome
pair_then pair.Released row later = record { rows = row ∷ later.rows; end = later.end }
pair_then e row later = record { rows = []; end = e }

-- the outcome that is read off the answers of the cycles from n on
abbrev pub pair_over : Lists → Numbers → Numbers → ℕ → List (List Answer) → List (List Answer) → PairOutcome
pair_over g t u n [] theirs = record { rows = []; end = pair.Released }
pair_over g t u n (a ∷ ours) [] = record { rows = []; end = pair.Released }
pair_over g t u n (a ∷ ours) (b ∷ theirs) = pair_then (pair_end g t u n a b) (outputs_of g a) (pair_over g t u (suc n) ours theirs)

-- the first fact after a release, the second after any other end
abbrev pub unless_over : PairEnd → Type 0 → Type 0 → Type 0
unless_over pair.Released goes_on over = goes_on
unless_over e goes_on over = over

-- The answers of the cycles from n on are those of a pair's run over these rows: a whole cycle of both channels for each row, up to the
-- first cycle that isn't released, and none after it.
abbrev pub AllPairs : Lists → Numbers → Numbers → ℕ → List (List ℤ) → List (List Answer) → List (List Answer) → Type 0
AllPairs g t u n [] [] [] = Unit {0}
AllPairs g t u n (row ∷ rows) (a ∷ ours) (b ∷ theirs) =
    Whole g.operations a × Whole g.operations b × unless_over (pair_end g t u n a b) (AllPairs g t u (suc n) rows ours theirs) ((ours ≡ []) × (theirs ≡ []))
AllPairs g t u n rows ours theirs = ⊥

-- the row of a cycle that was released, and none of another
abbrev pub pair_row_if : PairEnd → List ℤ → List (List ℤ)
pair_row_if pair.Released row = row ∷ []
pair_row_if e row = []

-- A run of a pair between two of its cycles: each channel's machine carried a cycle for each of these rows, and all were released,
-- with the same rows of outputs.
pub record PairSoFar (g : Lists) (t u : Numbers) (rows : List (List ℤ)) (ours theirs : List (List Answer)) (p : PairState)
    (first_before first_now second_before second_now : UnitSeen) : Type 0 where
  pub first : RunSoFar g t rows ours p.first first_before.log first_now.log first_before.wrong first_now.wrong
  pub second : RunSoFar g u rows theirs p.second second_before.log second_now.log second_before.wrong second_now.wrong
  pub alike : map (outputs_of g) ours ≡ map (outputs_of g) theirs
  pub cycles : p.cycles ≡ length ours
  pub going : p.ended ≡ None

-- A run of a pair over rows, to its end or between two of its cycles: the log of each unit grew by the calls of its channel's cycles with
-- their answers and by nothing else, and the released rows and the end are those that are read off these answers.
pub record PairOver (g : Lists) (t u : Numbers) (rows : List (List ℤ)) (ours theirs : List (List Answer)) (outputs : List (List ℤ)) (e : PairEnd)
    (first_before first_now second_before second_now : UnitSeen) : Type 0 where
  pub first :
      Carried (calls_over g t 0 (initial_words g t.seed) rows ours) first_before.log first_now.log first_before.wrong first_now.wrong
  pub second :
      Carried (calls_over g u 0 (initial_words g u.seed) rows theirs) second_before.log second_now.log second_before.wrong second_now.wrong
  pub all : AllPairs g t u 0 rows ours theirs
  pub outcome : pair_over g t u 0 ours theirs ≡ record { rows = outputs; end = e }

-- The outcome of a pair's run beside the graph's run on plain integers: its rows are the first of that run's, all of them where it came
-- to the end of its rows; and a stop is that run's stop, after the same rows.
pub record FrontOfRun (o : PairOutcome) (r : Run) : Type 0 where
  pub later : List (List ℤ)
  pub front : r.rows ≡ o.rows ++ later
  pub whole : o.end ≡ pair.Released → r ≡ record { rows = o.rows; end = None }
  pub stopped : (k : ℕ) (why : StopKind) → o.end ≡ pair.Stopped k why → r ≡ record { rows = o.rows; end = Some (record { op = k; kind = why }) }

-- the end of a run on plain integers
abbrev pub pair_end_of_run : Option Stop → PairEnd
pair_end_of_run None = pair.Released
pair_end_of_run (Some s) = pair.Stopped s.op s.kind

-- the outcome that stands for a run on plain integers
abbrev pub pair_outcome_for : Run → PairOutcome
pair_outcome_for r = record { rows = r.rows; end = pair_end_of_run r.end }

-- the channels parted, or their rows differ
abbrev pub Disagrees : PairEnd → Type 0
Disagrees (pair.Parted first second) = Unit {0}
Disagrees (pair.Differ output first second) = Unit {0}
Disagrees e = ⊥
