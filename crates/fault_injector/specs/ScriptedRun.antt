-- ScriptedRun: the answers of a unit with a group of faults around an honest one, over the calls of a run.
use Rattle.std.specs.Prelude.{◌≡◌, ℕ, suc, List, [], ◌∷◌, ◌++◌, All, Option, ℤ}
use Rattle.coded_unit.specs.declared.call.Answer.{Answer}
use Rattle.op_graph.specs.declared.op.Op.{Op}
use Rattle.op_graph.specs.Lists.{Lists}
use Rattle.op_graph.specs.Rules.{IsGraph}
use Rattle.signature_table.specs.Signatures.{Numbers}
use Rattle.coded_machine.specs.Calls.{Setting, AllWords, Whole, call_of}
use Rattle.coded_machine.specs.CycleEnds.{initial_words, stored_words}
use Rattle.coded_machine.specs.Runs.{setting_at}
use Rattle.fault_script.specs.declared.act.Fault.{Fault}
use Rattle.fault_script.specs.Changes.{acts_of, kept_after, none_kept}
use Rattle.fault_script.specs.Fits.{Fits}
use Rattle.fault_injector.specs.Scripts.{right_under}
use Rattle.fault_injector.specs.RunLaw.{RightRun, no_words}

-- each answer is the right one under the faults, with the words that were kept so far
abbrev pub ScriptedCycle : List Fault → Setting → List (Option ℤ) → List Answer → List Op → List Answer → Type 0
ScriptedCycle faults s keeps before ops [] = Unit {0}
ScriptedCycle faults s keeps before [] (a ∷ answers) = Unit {0}
ScriptedCycle faults s keeps before (op ∷ ops) (a ∷ answers) =
    (a ≡ right_under faults keeps (call_of s op before))
    × ScriptedCycle faults s (kept_after faults keeps (call_of s op before) a) (before ++ a ∷ []) ops answers

-- the words that are kept after these calls
abbrev pub kept_through : List Fault → Setting → List (Option ℤ) → List Answer → List Op → List Answer → List (Option ℤ)
kept_through faults s keeps before ops [] = keeps
kept_through faults s keeps before [] (a ∷ answers) = keeps
kept_through faults s keeps before (op ∷ ops) (a ∷ answers) =
    kept_through faults s (kept_after faults keeps (call_of s op before) a) (before ++ a ∷ []) ops answers

-- The answers of the cycles from n on are those of a scripted unit around an honest one, which has kept these words; a run goes on after a cycle of
-- words.
abbrev pub ScriptedRun : Numbers → Lists → List Fault → ℕ → List (Option ℤ) → List ℤ → List (List ℤ) → List (List Answer) → Type 0
ScriptedRun t g faults n keeps held rows [] = Unit {0}
ScriptedRun t g faults n keeps held [] (answers ∷ cycles) = Unit {0}
ScriptedRun t g faults n keeps held (row ∷ rows) (answers ∷ cycles) =
    Whole g.operations answers
    × ScriptedCycle faults (setting_at g t n held row) keeps [] g.operations answers
    × (AllWords answers →
    ScriptedRun t g faults (suc n) (kept_through faults (setting_at g t n held row) keeps [] g.operations answers) (stored_words g answers) rows cycles)

-- the answers of a scripted unit around an honest one are those that the run law speaks of
abbrev pub ScriptedRunsAreRight : Type 0
ScriptedRunsAreRight =
    (t : Numbers) (g : Lists) (faults : List Fault) (rows : List (List ℤ)) (cycles : List (List Answer)) → IsGraph g → All (Fits g) faults →
    ScriptedRun t g faults 0 (none_kept faults) (initial_words g t.seed) rows cycles →
    RightRun t g (acts_of faults) 0 no_words (initial_words g t.seed) rows cycles
