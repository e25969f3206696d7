-- Reruns: the calls that are made again for a group of faults, and the verdict that is read off their answers.
-- Definitions: the calls that a rerun makes, one for each touched operation that it reaches, but none at a
-- skip, with the answers that a unit gives to them; the answers of all its operations, where one that isn't
-- touched has the answer of the run without the faults; and the verdict that is read off them.
use Rattle.std.specs.Prelude.{ℕ, suc, ◌≡◌, ◌<◌, Bool, true, false, cond, List, [], ◌∷◌, ◌++◌, length, slice_get, Option, Some, None, ℤ}
use Rattle.vcp_base.specs.Differences.{first_difference}
use Rattle.coded_unit.specs.declared.call.Call.{Call}
use Rattle.coded_unit.specs.declared.call.Answer.{Answer}
use Rattle.coded_unit.specs.declared.call.Answer.TheVariants as answer
use Rattle.coded_unit.specs.Log.{Entry}
use Rattle.coded_unit.specs.Seen.{UnitSeen}
use Rattle.op_graph.specs.declared.op.Op.{Op}
use Rattle.op_graph.specs.GraphRun.{Stop}
use Rattle.op_graph.specs.Lists.{Lists}
use Rattle.signature_table.specs.Signatures.{Numbers}
use Rattle.coded_machine.specs.declared.cycle_end.CycleEnd.{CycleEnd}
use Rattle.coded_machine.specs.declared.cycle_end.CycleEnd.TheVariants as end
use Rattle.coded_machine.specs.Calls.{Setting, AllRight, Carried, call_of, is_word}
use Rattle.coded_machine.specs.CycleEnds.{end_of, initial_words, outputs_of, stored_words}
use Rattle.coded_machine.specs.Runs.{AllCycles, calls_over, setting_at}
use Rattle.fault_script.specs.declared.act.Act.{Act}
use Rattle.fault_script.specs.declared.act.Fault.{Fault}
use Rattle.fault_script.specs.Changes.{Acts, acts_of}
use Rattle.fault_injector.specs.Accepted.{RefusedAt}
use Rattle.fault_injector.specs.RunLaw.{Words, no_words, taken}
use Rattle.fault_injector.specs.Scripts.{passed_by, handed_by, skips_by}
use Rattle.fault_injector.specs.declared.verdicts.Verdict.{Verdict}
use Rattle.fault_injector.specs.declared.verdicts.Verdict.TheVariants as verdict
use Rattle.fault_injector.specs.Verdicts.{judged}
use Rattle.fault_injector.specs.Touched.{cycle_marks, held_marks, mark}

-- ---- the run without the faults

-- These are the answers of the run without faults over these rows, cycle by cycle through the last that was begun, and each is right.
pub record IsReference (t : Numbers) (g : Lists) (rows : List (List ℤ)) (others : List (List Answer)) : Type 0 where
  pub all : AllCycles g t 0 rows others
  pub right : AllRight (calls_over g t 0 (initial_words g t.seed) rows others)

-- ---- one cycle

-- What the rerun of a cycle begins with: what its calls begin with, the acts of the cycle, what the rerun's cycle before left, the answers of the run
-- without the faults in this cycle, and the marks of the operations that are touched.
pub record CycleAgain : Type 0 where
  pub setting : Setting
  pub acts : ℕ → Option Act
  pub past : Words
  pub other : List Answer
  pub touched : List Bool

-- How an operation gets its answer: it has one without a call; or the unit is asked this call, whose answer the act, with the word that it takes,
-- hands back; or the cycle ended before.
pub data Source : Type 0 where
  has : Answer → Source
  asks : Call → Option Act → ℤ → Source
  ended : Source

-- at an operation that is touched: a skip has the word of the cycle before, and else the call is made, with the act's change
abbrev pub source_touched : Option Act → ℤ → Call → Source
source_touched a word call = cond (skips_by a) (has (answer.Word word)) (asks (passed_by a word call) a word)

-- at any other operation: the answer of the run without the faults, where that came so far
abbrev pub source_of : Option Answer → Source
source_of (Some a) = has a
source_of None = ended

-- how the next operation gets its answer, where `before` are the rerun's answers of those before it
abbrev pub source : CycleAgain → List Answer → Op → Source
source c before op =
    cond (mark c.touched (length before))
    (source_touched (c.acts (length before)) (taken c.past before op (c.acts (length before))) (call_of c.setting op before))
    (source_of (slice_get c.other (length before)))

-- What the rerun of a cycle comes to, where the unit gives a list of answers: the answers of all its operations, the calls that were made with their
-- answers, the answers that are left, and whether there were too few.
pub record Part : Type 0 where
  pub own : List Answer
  pub calls : List Entry
  pub left : List Answer
  pub too_few : Bool

-- the cycle ended with these answers
abbrev pub done : List Answer → List Answer → Part
done own left = record { own = own; calls = []; left = left; too_few = false }

-- a call, and then the later ones
abbrev pub with_call : Entry → Part → Part
with_call entry later = record later { calls = entry ∷ later.calls }

-- the cycle goes on after a word, and ends after a stop
abbrev pub after_answer : Bool → List Answer → (List Answer → Part) → List Answer → Part
after_answer true own next left = next left
after_answer false own next left = done own left

-- the cycle after the next operation, which gets its answer so
abbrev pub go_on : List Answer → Source → (Answer → List Answer → Part) → List Answer → Part
go_on before (has a) next left = next a left
go_on before (asks call act word) next [] = record { own = before; calls = []; left = []; too_few = true }
go_on before (asks call act word) next (given ∷ left) = with_call (call, given) (next (handed_by act word given) left)
go_on before ended next left = done before left

-- the rerun of the operations of a cycle, where `before` are its answers so far and the unit gives the answers `left` one after another
abbrev pub again : CycleAgain → List Answer → List Op → List Answer → Part
again c before [] left = done before left
again c before (op ∷ ops) left =
    go_on before (source c before op)
    (λ a left. after_answer (is_word a) (before ++ a ∷ []) (λ left. again c (before ++ a ∷ []) ops left) left) left

-- ---- the verdict of a cycle that is read off its answers

-- the stop that a cycle's end is
abbrev pub stop_in : CycleEnd → Option Stop
stop_in (end.Stopped k why) = Some (record { op = k; kind = why })
stop_in (end.Refused number found wanted) = None
stop_in end.Released = None

-- the refusal that it is
abbrev pub refusal_in : CycleEnd → Option RefusedAt
refusal_in (end.Stopped k why) = None
refusal_in (end.Refused number found wanted) = Some (record { output = number; found = found; expected = wanted })
refusal_in end.Released = None

-- The verdict of cycle n, if it has one, by the rerun's answers and those of the run without the faults. The cases and their order are those of the
-- defined verdict; an output is refused where the residue of its OUT's word is not the expected one, and values are the value parts of words.
abbrev pub read_cycle : Lists → Numbers → ℕ → List Answer → List Answer → Option Verdict
read_cycle g t n own other =
    judged n (stop_in (end_of g t n own)) (refusal_in (end_of g t n own)) (stop_in (end_of g t n other))
    (first_difference (outputs_of g own) (outputs_of g other) 0)

-- ---- whole runs

-- What a rerun comes to, where the unit gives a list of answers: the answers of all operations, cycle by cycle, the calls that were made with their
-- answers, the verdict that is read, the answers that are left, and whether there were too few.
pub record Again : Type 0 where
  pub answers : List (List Answer)
  pub calls : List Entry
  pub verdict : Verdict
  pub left : List Answer
  pub too_few : Bool

-- where the rows end, or the run without the faults
abbrev pub same_then : List Answer → Again
same_then left = record { answers = []; calls = []; verdict = verdict.Same; left = left; too_few = false }

-- a cycle, and then the later ones
abbrev pub with_cycle : Part → Again → Again
with_cycle part later = record later { answers = part.own ∷ later.answers; calls = part.calls ++ later.calls }

-- a cycle of too few answers ends the rerun, and so does one that has a verdict
abbrev pub unless_judged : Bool → Option Verdict → Part → (List Answer → Again) → Again
unless_judged true judgement part next = record { answers = part.own ∷ []; calls = part.calls; verdict = verdict.Same; left = []; too_few = true }
unless_judged false (Some v) part next = record { answers = part.own ∷ []; calls = part.calls; verdict = v; left = part.left; too_few = false }
unless_judged false None part next = with_cycle part (next part.left)

-- a cycle, and the later ones, which begin with its answers, unless it ends the rerun
abbrev pub and_later : (List Answer → Option Verdict) → (List Answer → List Answer → Again) → Part → Again
and_later judgement next part = unless_judged part.too_few (judgement part.own) part (next part.own)

-- what the rerun of cycle n begins with
abbrev pub cycle_again : Numbers → Lists → Acts → ℕ → Words → List ℤ → List Bool → List ℤ → List Answer → CycleAgain
cycle_again t g acts n past held cell_marks row other = record {
  setting = setting_at g t n held row;
  acts = acts n;
  past = past;
  other = other;
  touched = (cycle_marks g other (acts n) cell_marks).given;
}

-- The rerun from cycle n on, over these rows: what its cycle before left, the words of its cells and their marks, the answers of the run without the
-- faults from cycle n on, and the answers that the unit gives one after another.
abbrev pub runs_again : Numbers → Lists → Acts → ℕ → Words → List ℤ → List Bool → List (List ℤ) → List (List Answer) → List Answer → Again
runs_again t g acts n past held cell_marks [] others left = same_then left
runs_again t g acts n past held cell_marks (row ∷ rows) [] left = same_then left
runs_again t g acts n past held cell_marks (row ∷ rows) (other ∷ others) left =
    and_later (λ own. read_cycle g t n own other)
    (λ own left. runs_again t g acts (suc n) (record { held = held; answers = own }) (stored_words g own)
    (held_marks g (cycle_marks g other (acts n) cell_marks).given) rows others left)
    (again (cycle_again t g acts n past held cell_marks row other) [] g.operations left)

-- the rerun of a group of faults over rows of inputs, beside the answers of the run without them
abbrev pub rerun : Numbers → Lists → List Fault → List (List ℤ) → List (List Answer) → List Answer → Again
rerun t g faults rows others left = runs_again t g (acts_of faults) 0 no_words (initial_words g t.seed) [] rows others left

-- the answers were as many as there were calls
pub record IsExact (a : Again) : Type 0 where
  pub none_left : a.left ≡ []
  pub enough : a.too_few ≡ false

-- What the rerun of a group left of a unit, and its verdict: there are answers, one for each of its calls, with which the log grew by these calls and by
-- nothing else, and off which the verdict is read. Where the count of wrong answers stood still they are right.
pub record Reran (t : Numbers) (g : Lists) (faults : List Fault) (rows : List (List ℤ)) (others : List (List Answer)) (old new : UnitSeen)
    (v : Verdict) : Type 0 where
  pub given : List Answer
  pub exact : IsExact (rerun t g faults rows others given)
  pub carried : Carried (rerun t g faults rows others given).calls old.log new.log old.wrong new.wrong
  pub verdict_is : v ≡ (rerun t g faults rows others given).verdict

-- the cycle that a verdict names is below this number of cycles
abbrev pub InCycles : ℕ → Verdict → Type 0
InCycles cycles verdict.Same = Unit {0}
InCycles cycles (verdict.Wrong cycle output got want) = cycle < cycles
InCycles cycles (verdict.RanOn cycle) = cycle < cycles
InCycles cycles (verdict.Refused cycle output found wanted) = cycle < cycles
InCycles cycles (verdict.Stopped cycle op kind) = cycle < cycles
