-- PassedOver: what a rerun goes on with where it passed over cycles in which nothing is touched.
use Rattle.std.specs.Prelude.{ℕ, ◌≡◌, ◌-◌, ◌≤◌, ◌+◌, List, [], length, ℤ, None, slice_index_or}
use Rattle.coded_unit.specs.declared.call.Answer.{Answer}
use Rattle.coded_machine.specs.CycleEnds.{end_of, stored_words}
use Rattle.fault_injector.specs.RunLaw.{Words}
use Rattle.fault_injector.specs.declared.campaign.reruns.rerun.Work.{Work}
use Rattle.fault_injector.specs.Crossing.{past_of}
use Rattle.fault_injector.specs.References.{KeptRun}
use Rattle.fault_injector.specs.Reruns.{refusal_in}
use Rattle.fault_injector.specs.Touched.{held_marks}

-- the answers of the run without the faults in the cycle before cycle n
abbrev pub last_answers : KeptRun → ℕ → List Answer
last_answers r n = slice_index_or r.answers (n - 1) []

-- what cycle n, from the third on, begins with in that run: the words of the cells, and what the cycle before left

abbrev pub held_at : KeptRun → ℕ → List ℤ
held_at r n = stored_words r.graph (last_answers r n)

abbrev pub past_at : KeptRun → ℕ → Words
past_at r n = record { held = held_at r (n - 1); answers = last_answers r n }

-- the work is that, with no cell touched
pub record IsUndisturbed (r : KeptRun) (n : ℕ) (w : Work) : Type 0 where
  pub past : past_of w ≡ past_at r n
  pub held : w.held.items ≡ held_at r n
  pub cell_marks : w.cell_marks.items ≡ held_marks r.graph []

-- From cycle n a rerun comes to cycle m: it stays, or passes over two cycles or more.
pub data Advanced (r : KeptRun) (n to : ℕ) (old new : Work) (m : ℕ) : Type 0 where
  stays : m ≡ n → new ≡ old → Advanced r n to old new m
  passes : n + 2 ≤ to → m ≡ to → IsUndisturbed r to new → Advanced r n to old new m

-- the last cycle of the run without the faults isn't refused
abbrev pub LastStands : KeptRun → Type 0
LastStands r = refusal_in (end_of r.graph r.table (length r.answers - 1) (slice_index_or r.answers (length r.answers - 1) [])) ≡ None
