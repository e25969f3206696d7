-- CampaignKind: groups of faults that are judged, by runs of one channel or of two: what holds after all of them, and what holds where they
-- were cut off.
-- With an honest unit the verdicts are the defined ones, group by group, and their lines and the totals come
-- whole and nothing else, with status 0, unless the status is 5, 6 or 7, and where nothing failed unless it
-- is 7.
-- Whatever the unit answers and whatever the verdicts are, the status is 0, unless it is 5, 6 or 7.
-- What `pairs` writes is read off the answers that the unit gave, group by group: a group is held in the
-- first cycle in which the channels disagree by the answers that the group makes of them, beside the graph's
-- cycles on plain integers. A kept log grew by exactly the calls of the groups' runs, one after another, with
-- the group's changes.
-- Where no answer was wrong, each verdict of `pairs` is the defined one of its group, as a pair tells it; of
-- groups that were cut off, a part of what is printed of these is there.
use Rattle.std.specs.Prelude.{◌≡◌, ◌≤◌, ◌+◌, ℕ, List, ◌++◌, length, All}
use Rattle.fault_injector.specs.declared.verdicts.Verdict.{Verdict}
use Rattle.fault_injector.specs.Names.{Names}
use Rattle.fault_injector.specs.declared.campaign.pairs.verdict.PairVerdict.{PairVerdict}
use Rattle.fault_injector.specs.Campaign.{campaign_text, verdicts_of, JudgedOnce}
use Rattle.fault_injector.specs.PairCampaigns.{GroupsRan, pairs_text}
use Rattle.fault_injector.specs.PairVerdicts.{told_verdicts}
use Rattle.fault_injector.specs.Written.{EarlierWritten}
use Rattle.vcp_inputs.specs.Answer.{Answer, Campaign, printed}
use Rattle.coded_unit.specs.Seen.{UnitSeen, StaysHonest}
use Rattle.coded_machine.specs.Moments.{Moment}
use Rattle.vcp_inputs.specs.Seen.{Appending}

-- ---- verdicts of either kind

-- All groups were judged: a verdict for each, in order, and what is answered are their lines. The unit was asked what `Asked` says of these verdicts.
-- Where no answer was wrong, they are the ones that are meant.
pub record GroupsDone {V : Type 0} (c : Campaign) (Asked : List V → UnitSeen → UnitSeen → Type 0) (answer : List V → Answer) (meant : List V)
    (before after : UnitSeen) (x : Answer) : Type 0 where
  pub verdicts : List V
  pub each : length verdicts ≡ length c.groups
  pub asked : Asked verdicts before after
  pub read : x ≡ answer verdicts
  pub honest : StaysHonest before after → verdicts ≡ meant

-- Some of the groups were judged, where `Writes` says how much was written: so much of the lines of these verdicts and any later ones, with all lines
-- before that of the last verdict. The unit was asked nothing more than for these verdicts. Where no answer was wrong, it is so much of the lines that
-- are meant.
pub record GroupsLeft {V : Type 0} (c : Campaign) (Asked : List V → UnitSeen → UnitSeen → Type 0) (answer : List V → Answer) (meant : List V)
    (lines : List V → List ℕ) (Writes : Appending) (before after : Moment) : Type 0 where
  pub verdicts : List V
  pub few : length verdicts ≤ length c.groups
  pub asked : Asked verdicts before.unit after.unit
  pub text : (later : List V) → length verdicts + length later ≡ length c.groups
      → Writes before.out.written after.out.written (answer (verdicts ++ later)).out
  pub earlier : EarlierWritten lines verdicts before.out.written after.out.written
  pub honest : StaysHonest before.unit after.unit → Writes before.out.written after.out.written (answer meant).out

-- ---- by one channel

-- the answer where groups have these verdicts: a line for each, and the totals
abbrev pub verdicts_answer : Campaign → List Verdict → Answer
verdicts_answer c verdicts = printed (campaign_text c.graph c.groups verdicts)

-- the verdicts that are meant: those of the definitions, group by group
abbrev pub verdicts_meant : Campaign → List Verdict
verdicts_meant c = verdicts_of c.table c.graph c.groups c.rows

-- Each verdict names outputs and operations of the graph alone. The calls are those of the run without faults and then, group by group, those of the
-- rerun off which the verdict is read.
pub record RerunsAsked (c : Campaign) (verdicts : List Verdict) (before after : UnitSeen) : Type 0 where
  pub names : All (Names (length c.graph.outputs) (length c.graph.operations)) verdicts
  pub asked : JudgedOnce c.table c.graph c.groups c.rows verdicts before after

-- ---- by two

-- the same of the verdicts of a pair
abbrev pub pairs_answer : Campaign → List PairVerdict → Answer
pairs_answer c verdicts = printed (pairs_text c.groups verdicts)

-- those of the definitions, as a pair tells them
abbrev pub pairs_meant : Campaign → List PairVerdict
pairs_meant c = told_verdicts c.table c.graph c.groups c.rows

-- the calls are those of the groups' runs on the pair, off which the verdicts are read
abbrev pub PairRunsAsked : Campaign → List PairVerdict → UnitSeen → UnitSeen → Type 0
PairRunsAsked c verdicts before after = GroupsRan c.table c.graph c.rows c.groups verdicts before after
