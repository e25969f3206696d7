-- Laws: what holds of cycles that a caller carries, and of runs over rows.
use Rattle.std.specs.Prelude.{◌≡◌, ℕ, ◌-◌, ◌^◌, ◌<◌, ◌≤◌, ℤ, List, Option, [], ◌∷◌, ◌++◌, length, map, None, false}
use Rattle.vcp_base.specs.Limits.{most_cycles}
use Rattle.coded_unit.specs.declared.call.Call.{Call}
use Rattle.coded_unit.specs.declared.call.Answer.{Answer}
use Rattle.coded_unit.specs.Log.{Entry, GrowsBy, Counts}
use Rattle.coded_unit.specs.Right.{Right}
use Rattle.op_graph.specs.Lists.{Lists}
use Rattle.op_graph.specs.Rules.{IsGraph}
use Rattle.op_graph.specs.GraphRun.{graph_run}
use Rattle.signature_table.specs.Signatures.{Numbers, IsTable}
use Rattle.coded_machine.specs.declared.cycle_end.CycleEnd.{CycleEnd}
use Rattle.coded_machine.specs.declared.cycle_end.CycleEnd.TheVariants as end
use Rattle.coded_machine.specs.Calls.{AllRight, Next, Carried}
use Rattle.coded_machine.specs.CycleEnds.{initial_words, outputs_of, end_or, end_of}
use Rattle.coded_machine.specs.Runs.{calls_over, outcome_over, outcome_for, AllCycles, RunSoFar, RunOver, FollowsSoFar, UnderWay, Ended, Turn, row_if}
use Rattle.coded_machine.specs.State.{State, fresh, given, setting, Finished, with_answer, with_answers, after_end, row_after}

-- a cycle that a caller carries by `next_call`, `put` and `end` of a machine
pub record ByHandLaws : Type 0 where
  -- it is under way before its first call, and after each next one
  pub begins : (m : State) (row : List ℤ) → m.ended ≡ None → m.under_way ≡ false → UnderWay m m row []
  pub goes_on : (old m n : State) (row : List ℤ) (calls : List Entry) (call : Call) (a : Answer) → UnderWay old m row calls →
      Next (setting m row) (given m) call → n ≡ with_answer m a → UnderWay old n row (calls ++ (call, a) ∷ [])
  -- where no call is to be made, its end is the one of a whole cycle, and so is the row of outputs
  pub ends : (old m n : State) (row : List ℤ) (calls : List Entry) (e : CycleEnd) → UnderWay old m row calls → Finished m →
      e ≡ end_or m.ended (end_of m.graph m.table m.cycles (given m)) → n ≡ after_end m e → n.answers ≡ given m → Ended old n row calls e
  pub outputs : (old m : State) (row : List ℤ) (calls : List Entry) (e : CycleEnd) (out : List ℤ) → UnderWay old m row calls →
      row_after m e out ≡ row_after (with_answers old (given m)) e out
  -- where a unit carried its calls one by one, it is such a cycle as `Machine::cycle` promises
  pub nothing_carried : (x : Option (List Entry)) (i : ℕ) → Carried [] x x i i
  pub one_carried : (calls : List Entry) (call : Call) (a : Answer) (x y z : Option (List Entry)) (i j k : ℕ) → Carried calls x y i j →
      GrowsBy y z ((call, a) ∷ []) → Counts a (Right call) j k → Carried (calls ++ (call, a) ∷ []) x z i k
  pub turn : (old new : State) (row : List ℤ) (calls : List Entry) (e : CycleEnd) (x y : Option (List Entry)) (i j : ℕ) →
      Ended old new row calls e → Carried calls x y i j → Turn old new row e x y i j

-- a run over rows, cycle by cycle, for every unit
pub record RunLaws : Type 0 where
  -- it begins with no row, and goes on by a row whose cycle was released
  pub starts : (g : Lists) (t : Numbers) (told : Option (List Entry)) (wrong : ℕ) → RunSoFar g t [] [] (fresh g t) told told wrong wrong
  pub goes_on : (g : Lists) (t : Numbers) (rows : List (List ℤ)) (cycles : List (List Answer)) (m n : State) (row : List ℤ)
      (x y z : Option (List Entry)) (i j k : ℕ) → RunSoFar g t rows cycles m x y i j → Turn m n row end.Released y z j k →
      RunSoFar g t (rows ++ row ∷ []) (cycles ++ n.answers ∷ []) n x z i k
  -- between two cycles it has the outputs of each row so far, and after a cycle of any end those of the released ones and that end
  pub stands : (g : Lists) (t : Numbers) (rows : List (List ℤ)) (cycles : List (List Answer)) (m : State) (x y : Option (List Entry)) (i j : ℕ) →
      RunSoFar g t rows cycles m x y i j → RunOver g t rows cycles (map (outputs_of g) cycles) end.Released x y i j
  pub ends : (g : Lists) (t : Numbers) (rows : List (List ℤ)) (cycles : List (List Answer)) (m n : State) (row : List ℤ) (e : CycleEnd)
      (x y z : Option (List Entry)) (i j k : ℕ) → RunSoFar g t rows cycles m x y i j → Turn m n row e y z j k →
      RunOver g t (rows ++ row ∷ []) (cycles ++ n.answers ∷ []) (map (outputs_of g) cycles ++ row_if e (outputs_of g n.answers)) e x z i k

-- a run over rows in which all answers are right
pub record HonestLaws : Type 0 where
  -- between two cycles it follows the graph
  pub so_far : (g : Lists) (t : Numbers) (rows : List (List ℤ)) (cycles : List (List Answer)) (m : State) (x y : Option (List Entry)) (i j : ℕ) →
      IsGraph g → IsTable t → length rows ≤ most_cycles → RunSoFar g t rows cycles m x y i j → j ≡ i → i < 2 ^ 64 - 1 → FollowsSoFar g rows cycles m
  -- its outcome stands for the graph's run on plain integers
  pub whole : (g : Lists) (t : Numbers) (rows : List (List ℤ)) (cycles : List (List Answer)) → IsGraph g → IsTable t → length rows ≤ most_cycles →
      AllCycles g t 0 rows cycles → AllRight (calls_over g t 0 (initial_words g t.seed) rows cycles) → outcome_over g t 0 cycles ≡ outcome_for
      (graph_run g rows)
