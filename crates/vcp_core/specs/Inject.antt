-- Inject: all rows of runs under faults, as they are read before the script. On one channel they are few; on two the seed of the second is said.
use Rattle.std.specs.Prelude.{ℕ, ℤ, ◌≡◌, ◌≤◌, ◌<◌, ◌*◌, List, length, Option, Some, None, Result}
use Rattle.signature_table.specs.Signatures.{Numbers}
use Rattle.coded_unit.specs.Seen.{UnitSeen}
use Rattle.fault_script.specs.declared.act.Fault.{Fault as ScriptedFault}
use Rattle.fault_injector.specs.Campaign.{Told}
use Rattle.fault_injector.specs.PairCampaigns.{PairsTold}
use Rattle.fault_injector.specs.declared.campaign.fault.CampaignFault.{CampaignFault}
use Rattle.input_rows.specs.RowsOf.{RowsLeft}
use Rattle.op_graph.specs.Lists.{Lists}
use Rattle.vcp_inputs.specs.declared.refusal.NoInput.{NoInput}
use Rattle.vcp_inputs.specs.declared.refusal.NoInput.TheVariants as input
use Rattle.vcp_inputs.specs.declared.refusal.Refusal.{Refusal}
use Rattle.vcp_inputs.specs.declared.refusal.Refusal.TheVariants as refusal
use Rattle.vcp_inputs.specs.RowsOutcome.{RowsOutcome, opened}
use Rattle.vcp_inputs.specs.RowsRead.{AllRead, NoneRead, RowsBroken}
use Rattle.vcp_core.specs.Tasks.{most_trace}

-- these are all rows, and few enough
pub record AllRows (o : RowsOutcome) (g : Lists) (rows : List (List ℤ)) : Type 0 where
  pub read : AllRead o rows
  pub few : length rows * length g.operations ≤ most_trace

-- why rows are refused: at their header or at a row, or since they are too many
pub data RowsRefused (o : RowsOutcome) (g : Lists) : Refusal → Type 0 where
  broken : (r : Refusal) → RowsBroken o r → RowsRefused o g r
  too_many : (left : RowsLeft) → o ≡ opened left → left.refusal ≡ None → most_trace < length left.rows * length g.operations
      → RowsRefused o g refusal.Trace

-- why there are none: they are refused, or memory was wanted
abbrev pub NoRows : RowsOutcome → Lists → NoInput → Type 0
NoRows o g (input.Refused r) = RowsRefused o g r
NoRows o g input.Memory = Unit {0}
NoRows o g input.Unread = ⊥

-- all rows, by the seed of a second channel, and why there are none
abbrev pub RowsFor : Option ℕ → RowsOutcome → Lists → List (List ℤ) → Type 0
RowsFor None o g rows = AllRows o g rows
RowsFor (Some seed) o g rows = AllRead o rows

abbrev pub NoRowsFor : Option ℕ → RowsOutcome → Lists → NoInput → Type 0
NoRowsFor None o g e = NoRows o g e
NoRowsFor (Some seed) o g e = NoneRead o e

-- what is told of the groups of a script, by the seed of a second channel
abbrev pub JudgedFor : Option ℕ → Numbers → Lists → List (List ScriptedFault) → List (List ℤ) → UnitSeen → UnitSeen → Option (List ℕ) → Option (List ℕ)
    → Result (Unit {0}) CampaignFault → Type 0
JudgedFor None t g groups rows before after out out' result = Told t g groups rows before after out out' result
JudgedFor (Some seed) t g groups rows before after out out' result = PairsTold t g groups rows before after out out' result
