-- Honest: what an honest unit gives, by the run of the graph on plain integers.
use Rattle.std.specs.Prelude.{ℕ, suc, ◌≡◌, ◌≢◌, ◌+◌, ◌<◌, List, [], ◌∷◌, ◌++◌, length, slice_get, Option, Some, None, ℤ}
use Rattle.vcp_base.specs.declared.code.Profile.{Profile}
use Rattle.vcp_base.specs.declared.kind.StopKind.{StopKind}
use Rattle.vcp_base.specs.declared.kind.StopKind.TheVariants as stop
use Rattle.vcp_base.specs.Values.{at}
use Rattle.vcp_base.specs.Limits.{most_cycles}
use Rattle.coded_unit.specs.declared.call.Answer.{Answer}
use Rattle.coded_unit.specs.declared.call.Answer.TheVariants as answer
use Rattle.coded_unit.specs.Words.{coded}
use Rattle.op_graph.specs.Lists.{Lists}
use Rattle.op_graph.specs.GraphRun.{Cycle, CellsFit, cycle, initial, outputs, stored}
use Rattle.op_graph.specs.Rules.{IsGraph}
use Rattle.signature_table.specs.Signatures.{IsTable, signature, expected, stamp_before}
use Rattle.coded_machine.specs.declared.cycle_end.CycleEnd.{CycleEnd}
use Rattle.coded_machine.specs.declared.cycle_end.CycleEnd.TheVariants as end
use Rattle.coded_machine.specs.Calls.{Setting, CallsOf, Whole, AllRight}
use Rattle.coded_machine.specs.CycleEnds.{end_of, outputs_of, stored_words, initial_words}
use Rattle.coded_machine.specs.State.{State}

-- The cells hold honest words of these values, each in its cell's type: the word of a cell whose STORE is operation n is
-- A*m + B + D, with the constant A of the code, its value m, the signature B of operation n and the stamp D.
pub record CellsHold (g : Lists) (seed d : ℕ) (held values : List ℤ) : Type 0 where
  pub words : (k n : ℕ) → slice_get g.stores k ≡ Some n → at held k ≡ coded g.profile (at values k) (signature g.profile seed n + d)
  pub typed : CellsFit g values

-- the words of values in cycle n, from operation k on: each is A*v and its expected residue
abbrev pub words_from : Profile → ℕ → ℕ → ℕ → ℕ → List ℤ → List Answer
words_from p seed step n k [] = []
words_from p seed step n k (v ∷ values) = answer.Word (coded p v (expected p seed step k n)) ∷ words_from p seed step n (suc k) values

-- the answer that tells a stop, where there is one
abbrev pub stop_answer : Option StopKind → List Answer
stop_answer None = []
stop_answer (Some stop.Range) = answer.Range ∷ []
stop_answer (Some stop.DivZero) = answer.DivZero ∷ []
stop_answer (Some stop.Operand) = answer.Operand ∷ []

-- the answers that stand for a cycle on plain integers: the words of its values, and then its stop
abbrev pub answers_for : Profile → ℕ → ℕ → ℕ → Cycle → List Answer
answers_for p seed step n c = words_from p seed step n 0 c.values ++ stop_answer c.stop

-- the end of a cycle that stopped so after so many operations
abbrev pub end_at : ℕ → Option StopKind → CycleEnd
end_at k None = end.Released
end_at k (Some why) = end.Stopped k why

-- the end that stands for a cycle on plain integers: its stop, at the operation after its values
abbrev pub end_for : Cycle → CycleEnd
end_for c = end_at (length c.values) c.stop

-- The answers of a cycle stand for the graph's cycle on plain integers, where the cells hold these values: the answers are
-- the words of its values and its stop, the end is its stop or a release, and where it has no stop, the row is its row of
-- outputs, and the cells next hold honest words of the values that it stores. It never stops at an operand.
pub record StandsFor (s : Setting) (values : List ℤ) (answers : List Answer) : Type 0 where
  pub answers_are : answers ≡ answers_for s.graph.profile s.table.seed s.table.step s.cycle (cycle s.graph values s.row)
  pub end_is : end_of s.graph s.table s.cycle answers ≡ end_for (cycle s.graph values s.row)
  pub row_is : (cycle s.graph values s.row).stop ≡ None → outputs_of s.graph answers ≡ outputs s.graph (cycle s.graph values s.row).values
  pub cells_are : (cycle s.graph values s.row).stop ≡ None →
      CellsHold s.graph s.table.seed (stamp_before s.table.step (s.cycle + 1)) (stored_words s.graph answers)
      (stored s.graph (cycle s.graph values s.row).values)
  pub no_operand : (cycle s.graph values s.row).stop ≢ Some stop.Operand

-- where all answers to the calls of a cycle are right and the cells hold honest words, the answers stand for the graph's cycle
abbrev pub HonestCycles : Type 0
HonestCycles =
    (s : Setting) (values : List ℤ) (answers : List Answer) → IsGraph s.graph → IsTable s.table → s.cycle < most_cycles →
    CellsHold s.graph s.table.seed (stamp_before s.table.step s.cycle) s.held values → AllRight (CallsOf s answers) → Whole s.graph.operations answers →
    StandsFor s values answers

-- before the first cycle the cells hold honest words of their initial values
abbrev pub HonestCells : Type 0
HonestCells = (g : Lists) (seed step : ℕ) → IsGraph g → CellsHold g seed (stamp_before step 0) (initial_words g seed) (initial g)

-- What a cycle of a machine did, where its cells held honest words of these values: the answers, the end and the row of
-- outputs are those of the graph's cycle on plain integers, after a release the cells hold honest words of what that cycle
-- stores, and the end is neither a refusal nor a stop at an operand.
pub record FollowsGraph (old new : State) (values inputs : List ℤ) (e : CycleEnd) (out : List ℤ) : Type 0 where
  pub answers_are : new.answers ≡ answers_for old.graph.profile old.table.seed old.table.step old.cycles (cycle old.graph values inputs)
  pub end_is : e ≡ end_for (cycle old.graph values inputs)
  pub row_is : e ≡ end.Released → out ≡ outputs old.graph (cycle old.graph values inputs).values
  pub cells_are : e ≡ end.Released →
      CellsHold new.graph new.table.seed (stamp_before new.table.step new.cycles) new.held (stored old.graph (cycle old.graph values inputs).values)
  pub no_operand : (k : ℕ) → e ≢ end.Stopped k stop.Operand
  pub no_refusal : (number found wanted : ℕ) → e ≢ end.Refused number found wanted

-- what a cycle of a machine did, whatever values its cells held honest words of
abbrev pub FollowsFromCells : State → State → List ℤ → CycleEnd → List ℤ → Type 0
FollowsFromCells old new inputs e out =
    (values : List ℤ) → CellsHold old.graph old.table.seed (stamp_before old.table.step old.cycles) old.held values → FollowsGraph old new values inputs e out
