-- PairCampaigns: the verdicts on the groups of a script by a pair of channels, line by line, and their totals.
use Rattle.std.specs.Prelude.{◌≡◌, ◌≤◌, ℕ, ℤ, List, [], ◌∷◌, ◌++◌, length, take, Option, Result}
use Rattle.coded_unit.specs.Seen.{UnitSeen, StaysHonest}
use Rattle.op_graph.specs.Lists.{Lists}
use Rattle.signature_table.specs.Signatures.{Numbers}
use Rattle.fault_script.specs.declared.act.Fault.{Fault}
use Rattle.fault_injector.specs.FaultLines.{lines_by}
use Rattle.fault_injector.specs.declared.campaign.fault.CampaignFault.{CampaignFault}
use Rattle.fault_injector.specs.declared.campaign.pairs.verdict.PairVerdict.{PairVerdict}
use Rattle.fault_injector.specs.GroupLines.{group_text, pair_totals_text, totals_of}
use Rattle.fault_injector.specs.GroupRuns.{GroupRan}
use Rattle.fault_injector.specs.PairVerdicts.{told_verdicts}
use Rattle.fault_injector.specs.Written.{VerdictsWritten}

-- ---- what is written

-- the lines of these verdicts
abbrev pub group_lines : List (List Fault) → List PairVerdict → List ℕ
group_lines groups vs = lines_by group_text groups vs

-- all of it: a line for each verdict, and then their totals
abbrev pub pairs_text : List (List Fault) → List PairVerdict → List ℕ
pairs_text groups vs = group_lines groups vs ++ pair_totals_text (totals_of vs)

-- ---- what is run

-- the runs of the first groups, one after another, off which these verdicts are read
abbrev pub GroupsRan : Numbers → Lists → List (List ℤ) → List (List Fault) → List PairVerdict → UnitSeen → UnitSeen → Type 0
GroupsRan t g rows groups [] before after = after ≡ before
GroupsRan t g rows [] (v ∷ vs) before after = ⊥
GroupsRan t g rows (faults ∷ groups) (v ∷ vs) before after =
    (mid : UnitSeen) × GroupRan t g faults rows before mid v × GroupsRan t g rows groups vs mid after

-- What a campaign on a pair tells: the runs of the first groups of the script, their verdicts and their text. Where no answer of the unit was wrong,
-- the verdicts are the defined ones.
pub record PairsTold (t : Numbers) (g : Lists) (groups : List (List Fault)) (rows : List (List ℤ)) (before after : UnitSeen) (old new : Option (List ℕ))
    (result : Result (Unit {0}) CampaignFault) : Type 0 where
  pub verdicts : List PairVerdict
  pub few : length verdicts ≤ length groups
  pub ran : GroupsRan t g rows groups verdicts before after
  pub right : StaysHonest before after → verdicts ≡ take (length verdicts) (told_verdicts t g groups rows)
  pub written : VerdictsWritten (group_lines groups) (pairs_text groups) (length groups) verdicts old new result
