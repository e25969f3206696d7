-- Campaign: the verdicts of the groups of a script, line by line, and their totals.
use Rattle.std.specs.Prelude.{◌≡◌, ◌≤◌, ◌⊎◌, ℕ, ℤ, List, [], length, map, take, All, Option, Result, Ok, Err}
use Rattle.op_graph.specs.Lists.{Lists}
use Rattle.signature_table.specs.Signatures.{Numbers}
use Rattle.fault_script.specs.declared.act.Fault.{Fault}
use Rattle.fault_injector.specs.declared.verdicts.Verdict.{Verdict}
use Rattle.fault_injector.specs.Names.{Names}
use Rattle.coded_unit.specs.declared.call.Answer.{Answer}
use Rattle.coded_unit.specs.Seen.{StaysHonest, UnitSeen}
use Rattle.fault_injector.specs.Verdicts.{verdict_of}
use Rattle.fault_injector.specs.Groups.{GroupsJudged}
use Rattle.fault_injector.specs.References.{KeptRun}
use Rattle.fault_injector.specs.Reruns.{IsReference}
pub use Rattle.fault_injector.specs.FaultLines.{verdict_lines, campaign_text}
use Rattle.fault_injector.specs.declared.campaign.fault.CampaignFault.{CampaignFault}
use Rattle.fault_injector.specs.declared.campaign.fault.CampaignFault.TheVariants as fault
use Rattle.fault_injector.specs.Written.{VerdictsWritten}

-- ---- what a campaign finds

-- the verdict of each group over these rows of inputs
abbrev pub verdicts_of : Numbers → Lists → List (List Fault) → List (List ℤ) → List Verdict
verdicts_of t g groups rows = map (λ faults. verdict_of t g faults rows) groups

-- ---- which calls are made

-- the run without faults was carried, and then the reruns of the first groups, off which these verdicts are read; and no other call was made
abbrev pub JudgedOnce : Numbers → Lists → List (List Fault) → List (List ℤ) → List Verdict → UnitSeen → UnitSeen → Type 0
JudgedOnce t g groups rows vs before now = (others : List (List Answer)) × GroupsJudged t g rows others groups vs before now

-- so it is wherever a campaign ends, but where memory was wanted for the run without faults: then no call was made
abbrev pub Asks : Numbers → Lists → List (List Fault) → List (List ℤ) → List Verdict → UnitSeen → UnitSeen → Result (Unit {0}) CampaignFault → Type 0
Asks t g groups rows vs before now (Ok _) = JudgedOnce t g groups rows vs before now
Asks t g groups rows vs before now (Err fault.Write) = JudgedOnce t g groups rows vs before now
Asks t g groups rows vs before now (Err fault.Memory) = JudgedOnce t g groups rows vs before now ⊎ ((vs ≡ []) × (now ≡ before))

-- ---- a whole campaign

-- What a campaign tells: of the first groups of the script some verdicts, each of which names what the graph has, and their text; and which calls it
-- makes, off whose answers they are read. Where no answer of the unit was wrong, they are the defined verdicts of these groups.
pub record Told (t : Numbers) (g : Lists) (groups : List (List Fault)) (rows : List (List ℤ)) (before now : UnitSeen) (old new : Option (List ℕ))
    (result : Result (Unit {0}) CampaignFault) : Type 0 where
  pub verdicts : List Verdict
  pub names : All (Names (length g.outputs) (length g.operations)) verdicts
  pub few : length verdicts ≤ length groups
  pub asked : Asks t g groups rows verdicts before now result
  pub right : StaysHonest before now → verdicts ≡ take (length verdicts) (verdicts_of t g groups rows)
  pub written : VerdictsWritten (verdict_lines g groups) (campaign_text g groups) (length groups) verdicts old new result

-- so a campaign tells that goes on behind a run without faults that was carried before, whose answers are right where none was wrong
abbrev pub ToldBehind : KeptRun → List (List Fault) → UnitSeen → UnitSeen → Option (List ℕ) → Option (List ℕ) → Result (Unit {0}) CampaignFault → Type 0
ToldBehind r groups mid now old new result =
    (before : UnitSeen) → GroupsJudged r.table r.graph r.rows r.answers groups [] before mid →
    (StaysHonest before mid → IsReference r.table r.graph r.rows r.answers) → Told r.table r.graph groups r.rows before now old new result
