-- RunLaw: the words of a run under acts, beside its values and its differences.
use Rattle.std.specs.Prelude.{◌≡◌, ℕ, suc, ◌<◌, List, [], ◌∷◌, ◌++◌, length, slice_get, All, Option, Some, None, ℤ, pos, ◌+ℤ◌, ◌-ℤ◌}
use Rattle.vcp_base.specs.Values.{at}
use Rattle.coded_unit.specs.declared.call.Answer.{Answer}
use Rattle.coded_unit.specs.declared.call.Answer.TheVariants as answer
use Rattle.op_graph.specs.declared.op.Op.{Op}
use Rattle.op_graph.specs.GraphRun.{Cycle, initial, stored}
use Rattle.op_graph.specs.Lists.{Lists}
use Rattle.op_graph.specs.Reads.{named}
use Rattle.op_graph.specs.Rules.{IsGraph}
use Rattle.signature_table.specs.Signatures.{Numbers, IsTable, signature, stamp}
use Rattle.coded_machine.specs.Calls.{Setting, AllWords, Whole, call_of, read_word, word_at}
use Rattle.coded_machine.specs.CycleEnds.{initial_words, stored_words}
use Rattle.coded_machine.specs.Honest.{stop_answer}
use Rattle.coded_machine.specs.Runs.{setting_at}
use Rattle.fault_script.specs.declared.act.Act.{Act}
use Rattle.fault_script.specs.declared.act.Act.TheVariants as act
use Rattle.fault_script.specs.declared.act.Fault.{Fault}
use Rattle.fault_script.specs.Changes.{Acts, acts_of}
use Rattle.fault_script.specs.Differences.{Frame, no_frame, difference}
use Rattle.fault_script.specs.Fits.{Fits}
use Rattle.fault_injector.specs.Scripts.{right_by}
use Rattle.fault_injector.specs.Stepping.{Near, MayStand, word_of, stamp_past}
use Rattle.fault_injector.specs.FaultRun.{Begun, begun, cycle_under}

-- ---- words

-- what a cycle left: the words that its cells had when it began, and its answers
pub record Words : Type 0 where
  pub held : List ℤ
  pub answers : List Answer

-- the integer whose residue the word of operation k has: its signature, a stamp and its difference
abbrev pub integer : Numbers → ℕ → ℤ → ℤ → ℤ
integer t k d x = pos (signature t.profile t.seed k) +ℤ d +ℤ x

-- the word of each cell has its value, and as residue the signature of its STORE, the stamp and the STORE's difference
abbrev pub CellsStand : Numbers → Lists → ℤ → List ℤ → List ℤ → List ℤ → Type 0
CellsStand t g d held values differences =
    (i m : ℕ) → slice_get g.stores i ≡ Some m → at held i ≡ word_of t (at values i) (integer t m d (at differences i))

-- the word that each of so many operations answered has its value, and as residue its signature, the stamp and its difference
abbrev pub AnswersStand : Numbers → ℤ → ℕ → List Answer → List ℤ → List ℤ → Type 0
AnswersStand t d count answers values differences =
    (k : ℕ) → k < count → word_at answers k ≡ word_of t (at values k) (integer t k d (at differences k))

-- What stands when a cycle begins: of its cells, and after the first cycle also of the cycle before, whose stamp is less by the step.
pub record Stands (b : Begun) (past : Words) (held : List ℤ) : Type 0 where
  pub cells : CellsStand b.table b.graph (stamp_past b.table b.cycle) held b.held b.differences.held
  pub past_cells : 0 < b.cycle → CellsStand b.table b.graph (stamp_past b.table b.cycle -ℤ pos b.table.step) past.held b.past.held b.past_differences.held
  pub past_answers : 0 < b.cycle → AnswersStand b.table (stamp_past b.table b.cycle)
      (length b.graph.operations) past.answers b.past.given b.past_differences.given
  pub near_cells : (i : ℕ) → Near (at b.held i)
  pub near_past : (i : ℕ) → Near (at b.past.given i)

-- ---- what an honest unit answers to the calls with the changes

-- the word that an act takes: an earlier answer of the cycle, or what the operation read or answered in the cycle before
abbrev pub taken : Words → List Answer → Op → Option Act → ℤ
taken past before op (Some (act.OperandFrom j r)) = word_at before r
taken past before op (Some (act.OperandStale j)) = read_word past.held past.answers op.kind op.imm (named op j)
taken past before op (Some act.Skip) = word_at past.answers (length before)
taken past before op (Some (act.OperandAdd j e)) = pos 0
taken past before op (Some (act.ResultAdd e)) = pos 0
taken past before op (Some (act.Operator other)) = pos 0
taken past before op None = pos 0

-- each answer is the right one to its call, but for the change of an act
abbrev pub RightsUnder : Setting → (ℕ → Option Act) → Words → List Answer → List Op → List Answer → Type 0
RightsUnder s acts past before ops [] = Unit {0}
RightsUnder s acts past before [] (a ∷ answers) = Unit {0}
RightsUnder s acts past before (op ∷ ops) (a ∷ answers) =
    (a ≡ right_by (acts (length before)) (taken past before op (acts (length before))) (call_of s op before))
    × RightsUnder s acts past (before ++ a ∷ []) ops answers

-- what the calls of a cycle begin with, where the cells have these words
abbrev pub setting_of : Begun → List ℤ → Setting
setting_of b held = setting_at b.graph b.table b.cycle held b.row

-- ---- what they stand for

-- the words of values from operation k on, with the differences of the cycle
abbrev pub words_under : Begun → ℕ → List ℤ → List Answer
words_under b k [] = []
words_under b k (v ∷ values) =
    answer.Word (word_of b.table v (integer b.table k (pos (stamp b.table.step b.cycle)) (at b.differences.given k))) ∷ words_under b (suc k) values

-- the answers that stand for a cycle: the words of its values, and then its operation's stop
abbrev pub answers_under : Begun → Cycle → List Answer
answers_under b c = words_under b 0 c.values ++ stop_answer c.stop

-- the acts of cycle n may stand at the operations, which are counted from k
abbrev pub AllStand : ℕ → (ℕ → Option Act) → ℕ → List Op → Type 0
AllStand n acts k [] = Unit {0}
AllStand n acts k (op ∷ ops) = MayStand op.kind k n (acts k) × AllStand n acts (suc k) ops

-- the differences of the cycle are those that its operations have
abbrev pub Solved : Begun → ℕ → List Op → Type 0
Solved b k [] = Unit {0}
Solved b k (op ∷ ops) =
    (at b.differences.given k ≡ difference b.table b.graph b.past_differences b.differences k op (b.acts k)) × Solved b (suc k) ops

-- The run law of a cycle: over an honest unit the answers to the calls with the changes have, up to the first stop, the values of the fault run
-- and the residues of signature, stamp and difference.
abbrev pub CycleRuns : Type 0
CycleRuns =
    (b : Begun) (past : Words) (held : List ℤ) (answers : List Answer) → IsGraph b.graph → b.table.profile ≡ b.graph.profile →
    AllStand b.cycle b.acts 0 b.graph.operations → Solved b 0 b.graph.operations → Stands b past held →
    Whole b.graph.operations answers → RightsUnder (setting_of b held) b.acts past [] b.graph.operations answers →
    answers ≡ answers_under b (cycle_under b)

-- ---- whole runs

-- The answers of the cycles from n on are the right ones to the calls with the changes, where the cells begin each cycle with the words that
-- their STOREs answered in the one before. A run goes on after a cycle of words.
abbrev pub RightRun : Numbers → Lists → Acts → ℕ → Words → List ℤ → List (List ℤ) → List (List Answer) → Type 0
RightRun t g acts n past held rows [] = Unit {0}
RightRun t g acts n past held [] (answers ∷ cycles) = Unit {0}
RightRun t g acts n past held (row ∷ rows) (answers ∷ cycles) =
    Whole g.operations answers
    × RightsUnder (setting_at g t n held row) (acts n) past [] g.operations answers
    × (AllWords answers → RightRun t g acts (suc n) (record { held = held; answers = answers }) (stored_words g answers) rows cycles)

-- A cycle keeps the run law: the word of each cell has at its start its value, and as residue the signature of its STORE, the stamp of the cycle
-- before and the STORE's difference there; and the answers are the words of the values of the fault run, up to its stop.
pub record CycleKept (b : Begun) (held : List ℤ) (answers : List Answer) : Type 0 where
  pub cells : CellsStand b.table b.graph (stamp_past b.table b.cycle) held b.held b.differences.held
  pub answers_are : answers ≡ answers_under b (cycle_under b)

-- the cycles from n on keep the run law, up to the first in which an operation stops
abbrev pub RunKept : Numbers → Lists → Acts → ℕ → Frame → List ℤ → List ℤ → List (List ℤ) → List (List Answer) → Type 0
RunKept t g acts n past values held rows [] = Unit {0}
RunKept t g acts n past values held [] (answers ∷ cycles) = Unit {0}
RunKept t g acts n past values held (row ∷ rows) (answers ∷ cycles) =
    CycleKept (begun t g acts n past values row) held answers
    × ((cycle_under (begun t g acts n past values row)).stop ≡ None →
    RunKept t g acts (suc n) (record { held = values; given = (cycle_under (begun t g acts n past values row)).values })
    (stored g (cycle_under (begun t g acts n past values row)).values) (stored_words g answers) rows cycles)

-- before the first cycle there are no words
abbrev pub no_words : Words
no_words = record { held = []; answers = [] }

-- the run law: over an honest unit every run under acts that fit the graph keeps it
abbrev pub RunsKept : Type 0
RunsKept =
    (t : Numbers) (g : Lists) (acts : Acts) (rows : List (List ℤ)) (cycles : List (List Answer)) → IsGraph g → IsTable t → t.profile ≡ g.profile →
    ((n : ℕ) → AllStand n (acts n) 0 g.operations) → RightRun t g acts 0 no_words (initial_words g t.seed) rows cycles →
    RunKept t g acts 0 no_frame (initial g) (initial_words g t.seed) rows cycles

-- faults that fit the graph stand where they may
abbrev pub GroupStands : Type 0
GroupStands = (g : Lists) (faults : List Fault) (n : ℕ) → All (Fits g) faults → AllStand n (acts_of faults n) 0 g.operations
