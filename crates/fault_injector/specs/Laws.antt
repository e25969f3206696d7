-- Laws: what holds of touched operations and of reruns.
use Rattle.std.specs.Prelude.{◌≡◌, ◌<◌, ◌≤◌, ℕ, suc, Bool, true, false, cond, ◌&&◌, not, ℤ, List, [], ◌∷◌, ◌++◌, length, map, slice_get, slice_index_or, Option, Some, None}
use Rattle.vcp_base.specs.Limits.{most_cycles}
use Rattle.vcp_base.specs.Types.{fits}
use Rattle.coded_unit.specs.declared.call.Answer.{Answer}
use Rattle.coded_unit.specs.Seen.{UnitSeen}
use Rattle.coded_unit.specs.Words.{modulo, value_part}
use Rattle.op_graph.specs.declared.op.Op.{Op}
use Rattle.op_graph.specs.declared.op.Outlet.{Outlet}
use Rattle.op_graph.specs.GraphRun.{Cycle, initial}
use Rattle.op_graph.specs.Lists.{Lists}
use Rattle.op_graph.specs.Rules.{IsGraph}
use Rattle.signature_table.specs.Signatures.{Numbers, IsTable, expected}
use Rattle.coded_machine.specs.declared.cycle_end.CycleEnd.{CycleEnd}
use Rattle.coded_machine.specs.declared.cycle_end.CycleEnd.TheVariants as end
use Rattle.coded_machine.specs.Calls.{AllRight, AllWords, Whole, word_at}
use Rattle.coded_machine.specs.CycleEnds.{end_of, initial_words}
use Rattle.coded_machine.specs.Honest.{answers_for}
use Rattle.fault_script.specs.declared.act.Act.{Act}
use Rattle.fault_script.specs.declared.act.Fault.{Fault}
use Rattle.fault_script.specs.Changes.{Acts, acts_of}
use Rattle.fault_script.specs.Groups.{GroupFits}
use Rattle.fault_injector.specs.RunLaw.{RightRun, Words, no_words}
use Rattle.fault_injector.specs.Scripts.{skips_by}
use Rattle.fault_injector.specs.declared.verdicts.Verdict.{Verdict}
use Rattle.fault_injector.specs.declared.verdicts.Verdict.TheVariants as verdict
use Rattle.fault_injector.specs.Verdicts.{plain_cycles, verdict_of}
use Rattle.fault_injector.specs.Groups.{GroupsJudged}
use Rattle.fault_injector.specs.References.{RanOver}
use Rattle.fault_injector.specs.Reruns.{Again, CycleAgain, IsReference, Reran, again, cycle_again, done, refusal_in, rerun, runs_again}
use Rattle.fault_injector.specs.Touched.{cycle_marks, held_marks, mark, marks_at, touched, touched_at}

-- what is touched in cycles that the run without the faults came to
pub record TouchedLaws : Type 0 where
  -- an operation: by the marks of its whole cycle
  pub operation : (g : Lists) (acts : Acts) (others : List (List Answer)) (n k : ℕ) (op : Op) → IsGraph g →
      Whole g.operations (slice_index_or others n []) → slice_get g.operations k ≡ Some op →
      touched g acts others n k ≡ touched_at (slice_index_or others n []) (acts n) (marks_at g acts others n) k op
  -- a cell: where its STORE was touched in the cycle before
  pub cell : (g : Lists) (acts : Acts) (others : List (List Answer)) (n i m : ℕ) → slice_get g.stores i ≡ Some m →
      mark (marks_at g acts others (suc n)).held i ≡ touched g acts others n m
  pub first_cells : (g : Lists) (acts : Acts) (others : List (List Answer)) (i : ℕ) → mark (marks_at g acts others 0).held i ≡ false

-- the answers that stand for the cycles of a run on plain integers, the first of which is cycle n
abbrev pub answers_of : Numbers → Lists → ℕ → List Cycle → List (List Answer)
answers_of t g n [] = []
answers_of t g n (c ∷ cycles) = answers_for g.profile t.seed t.step n c ∷ answers_of t g (suc n) cycles

-- each of the cycles from n on is whole, and none is refused
abbrev pub NoneRefused : Lists → Numbers → ℕ → List (List Answer) → Type 0
NoneRefused g t n [] = Unit {0}
NoneRefused g t n (answers ∷ cycles) = Whole g.operations answers × (refusal_in (end_of g t n answers) ≡ None) × NoneRefused g t (suc n) cycles

-- the right answers of the run without faults are those that stand for the graph's run, and none of its cycles is refused
abbrev pub ReferencesStand : Type 0
ReferencesStand =
    (t : Numbers) (g : Lists) (rows : List (List ℤ)) (others : List (List Answer)) → IsGraph g → IsTable t → length rows ≤ most_cycles →
    IsReference t g rows others → (others ≡ answers_of t g 0 (plain_cycles g (initial g) rows)) × NoneRefused g t 0 others

-- ---- where nothing is touched

-- nothing is touched in a cycle that begins with these marks of cells: no cell, and no fault stands in it
pub record NothingTouched (acts : ℕ → Option Act) (cell_marks : List Bool) : Type 0 where
  pub cells : (i : ℕ) → mark cell_marks i ≡ false
  pub no_fault : (k : ℕ) → acts k ≡ None

-- a rerun makes no call from here on, and nothing differs
pub record AsksNoMore (a : Again) (left : List Answer) : Type 0 where
  pub none : a.calls ≡ []
  pub same_is : a.verdict ≡ verdict.Same
  pub left_is : a.left ≡ left
  pub enough : a.too_few ≡ false

pub record PassedOverLaws : Type 0 where
  -- in a cycle in which nothing is touched no call is made, and its answers are those of the run without the faults; and no cell is touched after it
  pub cycle : (t : Numbers) (g : Lists) (acts : Acts) (n : ℕ) (past : Words) (held : List ℤ) (cell_marks : List Bool) (row : List ℤ)
      (other left : List Answer) → Whole g.operations other → NothingTouched (acts n) cell_marks →
      again (cycle_again t g acts n past held cell_marks row other) [] g.operations left ≡ done other left
  pub cells : (g : Lists) (other : List Answer) (acts : ℕ → Option Act) (cell_marks : List Bool) → NothingTouched acts cell_marks →
      (i : ℕ) → mark (held_marks g (cycle_marks g other acts cell_marks).given) i ≡ false
  -- so from a cycle on in which no cell is touched and behind which no fault comes
  pub run : (t : Numbers) (g : Lists) (acts : Acts) (rows : List (List ℤ)) (others : List (List Answer)) (n : ℕ) (past : Words) (held : List ℤ)
      (cell_marks : List Bool) (left : List Answer) → ((i : ℕ) → mark cell_marks i ≡ false) → ((m k : ℕ) → n ≤ m → acts m k ≡ None) → NoneRefused g t n others →
      AsksNoMore (runs_again t g acts n past held cell_marks rows others left) left

-- ---- outputs whose OUTs aren't touched

-- an output has in cycle n a value of its type and the expected residue, and the value that it has in the run without the faults
pub record SameOutput (g : Lists) (t : Numbers) (n : ℕ) (own other : List Answer) (o : Outlet) : Type 0 where
  pub inside : fits o.ty (value_part g.profile (word_at own o.op)) ≡ true
  pub expected_is : modulo g.profile (word_at own o.op) ≡ expected g.profile t.seed t.step o.op n
  pub value : value_part g.profile (word_at own o.op) ≡ value_part g.profile (word_at other o.op)

pub record OutputLaws : Type 0 where
  -- whatever the unit answers, where both runs have words alone in a cycle, an operation that isn't touched has one word in both
  pub words : (c : CycleAgain) (left : List Answer) → Whole c.setting.graph.operations c.other → AllWords c.other →
      (again c [] c.setting.graph.operations left).too_few ≡ false → AllWords (again c [] c.setting.graph.operations left).own →
      (k : ℕ) → mark c.touched k ≡ false → word_at (again c [] c.setting.graph.operations left).own k ≡ word_at c.other k
  -- so where the run without the faults released the cycle, an output whose OUT isn't touched differs in nothing
  pub outputs : (g : Lists) (t : Numbers) (n : ℕ) (own other : List Answer) (touched : List Bool) → end_of g t n other ≡ end.Released →
      ((k : ℕ) → mark touched k ≡ false → word_at own k ≡ word_at other k) → (i : ℕ) (o : Outlet) → slice_get g.outputs i ≡ Some o →
      mark touched o.op ≡ false → SameOutput g t n own other o

-- ---- where all answers are right

-- The answers that a rerun has are those of a whole run under the acts of the group: where those of the run without the faults are right, and those to
-- the rerun's calls, of which there were enough.
abbrev pub RerunsAreRight : Type 0
RerunsAreRight =
    (t : Numbers) (g : Lists) (faults : List Fault) (rows : List (List ℤ)) (others : List (List Answer)) (given : List Answer) → IsGraph g →
    IsReference t g rows others → (rerun t g faults rows others given).too_few ≡ false → AllRight (rerun t g faults rows others given).calls →
    RightRun t g (acts_of faults) 0 no_words (initial_words g t.seed) rows (rerun t g faults rows others given).answers

-- and the verdict that is read is the group's
abbrev pub VerdictsAreRead : Type 0
VerdictsAreRead =
    (t : Numbers) (g : Lists) (faults : List Fault) (rows : List (List ℤ)) (others : List (List Answer)) (given : List Answer) → IsGraph g → IsTable t →
    t.profile ≡ g.profile → GroupFits g faults → length rows ≤ most_cycles → IsReference t g rows others →
    (rerun t g faults rows others given).too_few ≡ false → AllRight (rerun t g faults rows others given).calls →
    (rerun t g faults rows others given).verdict ≡ verdict_of t g faults rows

-- ---- where the unit is asked

-- of the operations of cycle n that these answers are of, from operation k on, those for which a test holds: each by its cycle and its number
abbrev pub places_where : (ℕ → Bool) → ℕ → ℕ → List Answer → List (ℕ × ℕ)
places_where test n k [] = []
places_where test n k (a ∷ answers) = cond (test k) ((n, k) ∷ []) [] ++ places_where test n (suc k) answers

-- a rerun that comes to operation k of cycle n asks there: it is touched, and no skip
abbrev pub asks_at : Lists → Acts → List (List Answer) → ℕ → ℕ → Bool
asks_at g acts others n k = touched g acts others n k && not (skips_by (acts n k))

-- where a rerun with these answers asks, from cycle n on
abbrev pub asked_over : Lists → Acts → List (List Answer) → ℕ → List (List Answer) → List (ℕ × ℕ)
asked_over g acts others n [] = []
asked_over g acts others n (own ∷ owns) = places_where (asks_at g acts others n) n 0 own ++ asked_over g acts others (suc n) owns

-- A rerun asks at the touched operations that it comes to, in order, at no skip and nowhere else, and every other operation has the answer of the run
-- without the faults: for every list of answers, also one of too few or of wrong ones.
pub record AsksAtTouched : Type 0 where
  pub calls : (t : Numbers) (g : Lists) (faults : List Fault) (rows : List (List ℤ)) (others : List (List Answer)) (given : List Answer) →
      map (λ e. (e.0.cycle, e.0.op)) (rerun t g faults rows others given).calls
      ≡ asked_over g (acts_of faults) others 0 (rerun t g faults rows others given).answers
  pub kept : (t : Numbers) (g : Lists) (faults : List Fault) (rows : List (List ℤ)) (others : List (List Answer)) (given : List Answer) (n k : ℕ) →
      touched g (acts_of faults) others n k ≡ false → k < length (slice_index_or (rerun t g faults rows others given).answers n []) →
      slice_get (slice_index_or (rerun t g faults rows others given).answers n []) k ≡ slice_get (slice_index_or others n []) k

-- ---- groups one after another

pub record GroupLaws : Type 0 where
  -- behind the run without faults no group has a verdict
  pub starts : (t : Numbers) (g : Lists) (rows : List (List ℤ)) (others : List (List Answer)) (groups : List (List Fault)) (e : CycleEnd)
      (before now : UnitSeen) → RanOver g t rows others e before.log now.log before.wrong now.wrong → GroupsJudged t g rows others groups [] before now
  -- and the next one has the verdict of its rerun
  pub goes_on : (t : Numbers) (g : Lists) (rows : List (List ℤ)) (others : List (List Answer)) (groups : List (List Fault)) (verdicts : List Verdict)
      (faults : List Fault) (v : Verdict) (before mid now : UnitSeen) → GroupsJudged t g rows others groups verdicts before mid →
      slice_get groups (length verdicts) ≡ Some faults → Reran t g faults rows others mid now v →
      GroupsJudged t g rows others groups (verdicts ++ v ∷ []) before now
