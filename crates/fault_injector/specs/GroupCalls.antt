-- GroupCalls: what a unit is asked in a run with a group of faults, and what the group makes of its answers.
use Rattle.std.specs.Prelude.{ℕ, suc, ◌≡◌, Bool, true, false, List, [], ◌∷◌, ◌++◌, Option, ℤ}
use Rattle.std.specs.List.{flat_map}
use Rattle.coded_unit.specs.declared.call.Call.{Call}
use Rattle.coded_unit.specs.declared.call.Answer.{Answer}
use Rattle.coded_unit.specs.declared.call.Answer.TheVariants as answer
use Rattle.coded_unit.specs.Log.{Entry}
use Rattle.op_graph.specs.declared.op.Op.{Op}
use Rattle.op_graph.specs.Lists.{Lists}
use Rattle.signature_table.specs.Signatures.{Numbers}
use Rattle.coded_machine.specs.Calls.{Setting, call_of}
use Rattle.coded_machine.specs.CycleEnds.{stored_words}
use Rattle.coded_machine.specs.Runs.{setting_at}
use Rattle.fault_script.specs.declared.act.Fault.{Fault}
use Rattle.fault_script.specs.Changes.{kept_after}
use Rattle.fault_injector.specs.Scripts.{handed, passed, skips, word_at_call}
use Rattle.fault_injector.specs.ScriptedRun.{kept_through}

-- One operation of a run with a group that has kept these words, where its answer is `a`. At a skip the unit is asked nothing, and `a` is the kept
-- word; else the first of the entries is the call with the group's change, and `a` is what the group makes of its answer. `Later` holds of the
-- entries behind it.
abbrev pub AskedOne : List Fault → List (Option ℤ) → Call → Answer → Bool → List Entry → (List Entry → Type 0) → Type 0
AskedOne faults keeps call a true entries Later = (a ≡ answer.Word (word_at_call faults keeps call)) × Later entries
AskedOne faults keeps call a false [] Later = ⊥
AskedOne faults keeps call a false (e ∷ entries) Later = (e.0 ≡ passed faults keeps call) × (a ≡ handed faults keeps call e.1) × Later entries

-- The operations of a cycle behind those that were answered by `before`, where theirs are these answers: the entries are what the unit was asked for
-- them, one after another, and what it answered.
abbrev pub AskedFrom : List Fault → Setting → List (Option ℤ) → List Answer → List Op → List Answer → List Entry → Type 0
AskedFrom faults s keeps before ops [] entries = entries ≡ []
AskedFrom faults s keeps before [] (a ∷ answers) entries = ⊥
AskedFrom faults s keeps before (op ∷ ops) (a ∷ answers) entries =
    AskedOne faults keeps (call_of s op before) a (skips faults keeps (call_of s op before)) entries
    (λ later. AskedFrom faults s (kept_after faults keeps (call_of s op before) a) (before ++ a ∷ []) ops answers later)

-- The cycles of a run from cycle n on over these rows, with the answers of each: so the unit was asked for each of them. The cells begin a cycle
-- with the words that their STOREs were answered in the one before.
abbrev pub AskedOver : Numbers → Lists → List Fault → ℕ → List (Option ℤ) → List ℤ → List (List ℤ) → List (List Answer) → List (List Entry) → Type 0
AskedOver t g faults n keeps held rows [] calls = calls ≡ []
AskedOver t g faults n keeps held rows (answers ∷ cycles) [] = ⊥
AskedOver t g faults n keeps held [] (answers ∷ cycles) (entries ∷ calls) = ⊥
AskedOver t g faults n keeps held (row ∷ rows) (answers ∷ cycles) (entries ∷ calls) =
    AskedFrom faults (setting_at g t n held row) keeps [] g.operations answers entries
    × AskedOver t g faults (suc n) (kept_through faults (setting_at g t n held row) keeps [] g.operations answers) (stored_words g answers) rows cycles calls

-- the entries of all cycles, one after another
abbrev pub joined : List (List Entry) → List Entry
joined calls = flat_map (λ entries. entries) calls
