-- Groups: the groups of a script are rerun one after another, behind the run without faults.
use Rattle.std.specs.Prelude.{◌≡◌, ◌⊎◌, ℤ, List, [], ◌∷◌, ◌++◌, length, map, All}
use Rattle.coded_unit.specs.declared.call.Answer.{Answer}
use Rattle.coded_unit.specs.Log.{Entry}
use Rattle.coded_unit.specs.Seen.{UnitSeen}
use Rattle.op_graph.specs.Lists.{Lists}
use Rattle.signature_table.specs.Signatures.{Numbers}
use Rattle.coded_machine.specs.Calls.{Carried}
use Rattle.coded_machine.specs.CycleEnds.{initial_words}
use Rattle.coded_machine.specs.Runs.{AllCycles, calls_over}
use Rattle.fault_script.specs.declared.act.Fault.{Fault}
use Rattle.fault_injector.specs.declared.verdicts.Verdict.{Verdict}
use Rattle.fault_injector.specs.Reruns.{Again, IsExact, rerun}

-- what the reruns of the first groups come to, one for each of these lists of answers that the unit gives
abbrev pub reruns : Numbers → Lists → List (List ℤ) → List (List Answer) → List (List Fault) → List (List Answer) → List Again
reruns t g rows others [] givens = []
reruns t g rows others (faults ∷ groups) [] = []
reruns t g rows others (faults ∷ groups) (given ∷ givens) = rerun t g faults rows others given ∷ reruns t g rows others groups givens

-- their calls, with their answers
abbrev pub calls_again : List Again → List Entry
calls_again [] = []
calls_again (a ∷ later) = a.calls ++ calls_again later

-- and the verdicts that are read off these
abbrev pub verdicts_again : List Again → List Verdict
verdicts_again again = map (λ a. a.verdict) again

-- What judging the first groups left of a unit, and their verdicts: the log grew by the calls of the run without faults, which gave these answers, and
-- then, group by group, by those of its rerun, with as many answers as calls, and by nothing else; and the verdicts are read off these. Where the count
-- of wrong answers stood still, all are right.
pub record GroupsJudged (t : Numbers) (g : Lists) (rows : List (List ℤ)) (others : List (List Answer)) (groups : List (List Fault))
    (verdicts : List Verdict) (before now : UnitSeen) : Type 0 where
  pub all : AllCycles g t 0 rows others
  pub givens : List (List Answer)
  pub each : length givens ≡ length verdicts
  pub exact : All IsExact (reruns t g rows others groups givens)
  pub verdicts_are : verdicts ≡ verdicts_again (reruns t g rows others groups givens)
  pub carried :
      Carried (calls_over g t 0 (initial_words g t.seed) rows others ++ calls_again (reruns t g rows others groups givens))
      before.log now.log before.wrong now.wrong

-- so a group is judged alone: by the calls of the run without faults, and then by those of its rerun
abbrev pub JudgedAlone : Numbers → Lists → List (List ℤ) → List Fault → Verdict → UnitSeen → UnitSeen → Type 0
JudgedAlone t g rows faults v before now = (others : List (List Answer)) × GroupsJudged t g rows others (faults ∷ []) (v ∷ []) before now

-- and where memory was wanted it isn't: no call was made, or those of the run without faults and no call of its rerun
abbrev pub JudgedNot : Numbers → Lists → List (List ℤ) → List Fault → UnitSeen → UnitSeen → Type 0
JudgedNot t g rows faults before now = (now ≡ before) ⊎ ((others : List (List Answer)) × GroupsJudged t g rows others (faults ∷ []) [] before now)
