-- PairLaws: what holds of a pair's cycles that a caller carries, and of its runs over rows.
use Rattle.std.specs.Prelude.{◌≡◌, ◌≤◌, ◌⊎◌, ℤ, List, [], ◌∷◌, ◌++◌, length, map}
use Rattle.vcp_base.specs.Limits.{most_cycles}
use Rattle.vcp_outside.specs.Counts.{Rose}
use Rattle.coded_unit.specs.declared.call.Answer.{Answer}
use Rattle.coded_unit.specs.Log.{Entry}
use Rattle.op_graph.specs.Lists.{Lists}
use Rattle.op_graph.specs.Rules.{IsGraph}
use Rattle.op_graph.specs.GraphRun.{graph_run, initial}
use Rattle.signature_table.specs.Signatures.{Numbers, IsTable}
use Rattle.coded_machine.specs.Calls.{AllRight, Carried}
use Rattle.coded_machine.specs.CycleEnds.{outputs_of, initial_words}
use Rattle.coded_machine.specs.Runs.{UnderWay, calls_over}
use Rattle.coded_machine.specs.State.{Finished}
use Rattle.pair_channel.specs.declared.pair_end.PairEnd.{PairEnd}
use Rattle.pair_channel.specs.declared.pair_end.PairEnd.TheVariants as pair
use Rattle.pair_channel.specs.Beside.{AllBeside, beside}
use Rattle.pair_channel.specs.PairRuns.{PairSoFar, PairOver, AllPairs, pair_over, pair_row_if, pair_outcome_for, FrontOfRun, Disagrees}
use Rattle.pair_channel.specs.PairStates.{PairState, fresh_pair}
use Rattle.coded_unit.specs.Seen.{UnitSeen, StaysHonest}
use Rattle.pair_channel.specs.PairTurns.{PairTurn, PairConcluded}

-- A cycle of a pair whose calls of the first channel a caller made by `next_call` and `put`, and a unit answered, is such a cycle as
-- `Pair::cycle` promises.
abbrev pub PairsByHand : Type 0
PairsByHand =
    (old p new : PairState) (row : List ℤ) (calls : List Entry) (e : PairEnd) (out_before out_now : List ℤ) (x y z w : UnitSeen) →
    UnderWay old.first p.first row calls → p ≡ record old { first = p.first } → Finished p.first → Carried calls x.log y.log x.wrong y.wrong →
    PairConcluded p new row e out_before out_now z w → PairTurn old new row e out_before out_now x y z w

-- a pair's run over rows, cycle by cycle, for every two units
pub record PairRunLaws : Type 0 where
  -- it begins with no row, and goes on by a row whose cycle was released
  pub starts : (g : Lists) (t u : Numbers) (x z : UnitSeen) → PairSoFar g t u [] [] [] (fresh_pair g t u) x x z z
  pub goes_on : (g : Lists) (t u : Numbers) (rows : List (List ℤ)) (ours theirs : List (List Answer)) (p q : PairState) (row out_before out_now : List ℤ)
      (x y z w y2 w2 : UnitSeen) → PairSoFar g t u rows ours theirs p x y z w → PairTurn p q row pair.Released out_before out_now y y2 w w2 →
      PairSoFar g t u (rows ++ row ∷ []) (ours ++ q.first.answers ∷ []) (theirs ++ q.second.answers ∷ []) q x y2 z w2
  -- between two cycles it has the outputs of each row so far, and after a cycle of any end those of the released ones and that end; rows
  -- that come after an end other than a release are left
  pub stands : (g : Lists) (t u : Numbers) (rows : List (List ℤ)) (ours theirs : List (List Answer)) (p : PairState) (x y z w : UnitSeen) →
      PairSoFar g t u rows ours theirs p x y z w → PairOver g t u rows ours theirs (map (outputs_of g) ours) pair.Released x y z w
  pub ends : (g : Lists) (t u : Numbers) (rows more : List (List ℤ)) (ours theirs : List (List Answer)) (p q : PairState) (row : List ℤ) (e : PairEnd)
      (out_before out_now : List ℤ) (x y z w y2 w2 : UnitSeen) → PairSoFar g t u rows ours theirs p x y z w →
      PairTurn p q row e out_before out_now y y2 w w2 → (e ≡ pair.Released → more ≡ []) →
      PairOver g t u (rows ++ row ∷ more) (ours ++ q.first.answers ∷ []) (theirs ++ q.second.answers ∷ [])
      (map (outputs_of g) ours ++ pair_row_if e (outputs_of g q.first.answers)) e x y2 z w2

-- a pair's run over rows in which all answers of a channel are right
pub record OneChannelHonest : Type 0 where
  -- whichever channel it is, the released rows are the first of the graph's run, and a stop is its stop
  pub first : (g : Lists) (t u : Numbers) (rows : List (List ℤ)) (ours theirs : List (List Answer)) → IsGraph g → IsTable t → length rows ≤ most_cycles →
      AllPairs g t u 0 rows ours theirs → AllRight (calls_over g t 0 (initial_words g t.seed) rows ours) →
      FrontOfRun (pair_over g t u 0 ours theirs) (graph_run g rows)
  pub second : (g : Lists) (t u : Numbers) (rows : List (List ℤ)) (ours theirs : List (List Answer)) → IsGraph g → IsTable u → length rows ≤ most_cycles →
      AllPairs g t u 0 rows ours theirs → AllRight (calls_over g u 0 (initial_words g u.seed) rows theirs) →
      FrontOfRun (pair_over g t u 0 ours theirs) (graph_run g rows)
  -- where it is the second, the graph's run may stand for it
  pub beside_graph : (g : Lists) (t u : Numbers) (rows : List (List ℤ)) (ours theirs : List (List Answer)) → IsGraph g → IsTable u →
      length rows ≤ most_cycles → AllPairs g t u 0 rows ours theirs → AllRight (calls_over g u 0 (initial_words g u.seed) rows theirs) →
      pair_over g t u 0 ours theirs ≡ beside g t 0 (initial g) rows ours
  pub all_beside : (g : Lists) (t u : Numbers) (rows : List (List ℤ)) (ours theirs : List (List Answer)) → IsGraph g → IsTable u →
      length rows ≤ most_cycles → AllPairs g t u 0 rows ours theirs → AllRight (calls_over g u 0 (initial_words g u.seed) rows theirs) →
      AllBeside g t 0 (initial g) rows ours
  -- where both are, the outcome is the graph's run
  pub both_honest : (g : Lists) (t u : Numbers) (rows : List (List ℤ)) (ours theirs : List (List Answer)) → IsGraph g → IsTable t → IsTable u →
      length rows ≤ most_cycles → AllPairs g t u 0 rows ours theirs → AllRight (calls_over g t 0 (initial_words g t.seed) rows ours) →
      AllRight (calls_over g u 0 (initial_words g u.seed) rows theirs) → pair_over g t u 0 ours theirs ≡ pair_outcome_for (graph_run g rows)

-- a pair's run over rows, by the counts of its two units
pub record PairCounts : Type 0 where
  -- where one of the counts stood still, the released rows are the first of the graph's run, and a stop is its stop
  pub front : (g : Lists) (t u : Numbers) (rows : List (List ℤ)) (ours theirs : List (List Answer)) (outputs : List (List ℤ)) (e : PairEnd)
      (x y z w : UnitSeen) → IsGraph g → IsTable t → IsTable u → length rows ≤ most_cycles → PairOver g t u rows ours theirs outputs e x y z w →
      StaysHonest x y ⊎ StaysHonest z w → FrontOfRun (record { rows = outputs; end = e }) (graph_run g rows)
  -- the channels disagree only where one of the counts rose
  pub rose : (g : Lists) (t u : Numbers) (rows : List (List ℤ)) (ours theirs : List (List Answer)) (outputs : List (List ℤ)) (e : PairEnd)
      (x y z w : UnitSeen) → IsGraph g → IsTable t → IsTable u → length rows ≤ most_cycles → PairOver g t u rows ours theirs outputs e x y z w →
      Disagrees e → Rose x.wrong y.wrong ⊎ Rose z.wrong w.wrong
