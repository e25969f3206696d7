-- WorstVerdict: which look is that of the worst verdict of the groups that have a fault at an operation.
use Rattle.std.specs.Prelude.{◌≡◌, ◌<◌, ℕ, ◌+◌, ◌==◌, cond, List, [], ◌∷◌, length}
use Rattle.fault_script.specs.declared.act.Fault.{Fault}
use Rattle.fault_injector.specs.declared.verdicts.Verdict.{Verdict}
use Rattle.fault_injector.specs.declared.verdicts.Verdict.TheVariants as verdict
use Rattle.verdict_tables.specs.declared.tables.Table.TheVariants as table
use Rattle.verdict_tables.specs.Tables.{picked}
use Rattle.pictures.specs.declared.looks.Look.{Look}
use Rattle.pictures.specs.declared.looks.Look.TheVariants as look
use Rattle.pictures.specs.declared.looks.Worst.{Worst}
use Rattle.pictures.specs.declared.looks.Worst.TheVariants as worst

-- what a verdict says that came of its group's faults
abbrev pub sort_of : Verdict → Worst
sort_of verdict.Same = worst.Same
sort_of (verdict.Wrong cycle output got want) = worst.Wrong
sort_of (verdict.RanOn cycle) = worst.RanOn
sort_of (verdict.Refused cycle output found wanted) = worst.Refused
sort_of (verdict.Stopped cycle op kind) = worst.Stopped

-- how bad that is
abbrev pub badness : Worst → ℕ
badness worst.Refused = 0
badness worst.Stopped = 1
badness worst.Same = 2
badness worst.RanOn = 3
badness worst.Wrong = 4

-- how many of these verdicts say this
abbrev pub times : Worst → List Verdict → ℕ
times w [] = 0
times w (v ∷ vs) = cond (badness (sort_of v) == badness w) 1 0 + times w vs

-- a look of these verdicts: some say this, so many of all do, and none says worse; or there is no verdict
abbrev pub IsWorst : List Verdict → Look → Type 0
IsWorst vs (look.Shown c) = ⊥
IsWorst vs look.Untried = vs ≡ []
IsWorst vs (look.Tried w some all) =
    (0 < some) × (some ≡ times w vs) × (all ≡ length vs) × ((u : Worst) → badness w < badness u → times u vs ≡ 0)

-- the look of operation n: of the verdicts of the groups that have a fault there
abbrev pub IsWorstLook : List (List Fault) → List Verdict → ℕ → Look → Type 0
IsWorstLook groups vs n l = IsWorst (picked table.Operations n groups vs) l
