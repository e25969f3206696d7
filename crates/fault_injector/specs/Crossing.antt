-- Crossing: what a rerun works on, from cycle to cycle.
use Rattle.std.specs.Prelude.{ℕ, ◌≡◌, ◌≤◌, List, [], length, Option, ℤ, true, vec_capacity}
use Rattle.coded_unit.specs.declared.call.Answer.{Answer}
use Rattle.coded_unit.specs.Log.{Entry}
use Rattle.op_graph.specs.Lists.{Lists}
use Rattle.coded_machine.specs.CycleEnds.{initial_words, stored_words}
use Rattle.fault_script.specs.declared.act.Fault.{Fault}
use Rattle.fault_script.specs.Changes.{acts_of}
use Rattle.fault_injector.specs.RunLaw.{Words}
use Rattle.fault_injector.specs.declared.verdicts.Verdict.{Verdict}
use Rattle.fault_injector.specs.declared.campaign.reruns.rerun.Work.{Work}
use Rattle.fault_injector.specs.Begun.{RanAgain}
use Rattle.fault_injector.specs.References.{KeptRun}
use Rattle.fault_injector.specs.Reruns.{cycle_again, read_cycle}
use Rattle.fault_injector.specs.Touched.{StaysMarked, cycle_marks, held_marks}

-- There is room for the answers and the marks of a cycle, and for the words and marks of the cells; and the marks of operations that are said to be steady
-- are so.
pub record Room (g : Lists) (w : Work) : Type 0 where
  pub own : length g.operations ≤ vec_capacity w.own
  pub past : length g.operations ≤ vec_capacity w.past
  pub touched : length g.operations ≤ vec_capacity w.touched
  pub past_held : length g.stores ≤ vec_capacity w.past_held
  pub cell_marks : length g.stores ≤ vec_capacity w.cell_marks
  pub marked_by : length g.stores ≤ vec_capacity w.marked_by
  pub steady : w.steady ≡ true → StaysMarked g w.marked_by.items w.touched.items
  pub held : length w.held.items ≡ length g.stores
  pub inputs : length w.inputs ≡ length g.inputs

-- What a rerun of a graph's code with this seed begins with: the first words of the cells, and nothing of a cycle before.
pub record BeginsRerun (g : Lists) (seed : ℕ) (w : Work) : Type 0 where
  pub room : Room g w
  pub held : w.held.items ≡ initial_words g seed
  pub past : w.past.items ≡ []
  pub past_held : w.past_held.items ≡ []
  pub cell_marks : w.cell_marks.items ≡ []

-- what the cycle before left
abbrev pub past_of : Work → Words
past_of w = record { held = w.past_held.items; answers = w.past.items }

-- Cycle n was rerun: its answers are those of the rerun, by what the work before had of the cycle before and of the cells; the work now has what this
-- cycle leaves; and this is its verdict.
pub record CycleRan (r : KeptRun) (faults : List Fault) (n : ℕ) (row : List ℤ) (other : List Answer) (before now : Work) (v : Option Verdict)
    (x y : Option (List Entry)) (i j : ℕ) : Type 0 where
  pub ran : RanAgain (cycle_again r.table r.graph (acts_of faults) n (past_of before) before.held.items before.cell_marks.items row other)
      now.past.items x y i j
  pub past_held : now.past_held.items ≡ before.held.items
  pub held : now.held.items ≡ stored_words r.graph now.past.items
  pub cell_marks : now.cell_marks.items ≡ held_marks r.graph (cycle_marks r.graph other (acts_of faults n) before.cell_marks.items).given
  pub verdict : v ≡ read_cycle r.graph r.table n now.past.items other
