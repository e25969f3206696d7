-- Looks: how operations look by the verdicts of a script's groups.
use Rattle.std.specs.Prelude.{ℕ, cond, nat_lt, List}
use Rattle.fault_script.specs.declared.act.Fault.{Fault}
use Rattle.fault_injector.specs.declared.verdicts.Verdict.{Verdict}
use Rattle.fault_injector.specs.declared.lines.Totals.{Totals}
use Rattle.fault_injector.specs.FaultLines.{faults as faults_in}
use Rattle.verdict_tables.specs.declared.tables.Table.TheVariants as table
use Rattle.verdict_tables.specs.Tables.{totals_in}
use Rattle.pictures.specs.declared.looks.Look.{Look}
use Rattle.pictures.specs.declared.looks.Look.TheVariants as look
use Rattle.pictures.specs.declared.looks.Worst.{Worst}
use Rattle.pictures.specs.declared.looks.Worst.TheVariants as worst

-- the look where this is the worst, and came of so many of all
abbrev pub tried : Worst → ℕ → Totals → Look
tried w some t = look.Tried w some (faults_in t)

-- the look by the totals of an operation's row
abbrev pub worst_of : Totals → Look
worst_of t =
    cond (nat_lt 0 t.wrong) (tried worst.Wrong t.wrong t)
    (cond (nat_lt 0 t.ran_on) (tried worst.RanOn t.ran_on t)
    (cond (nat_lt 0 t.same) (tried worst.Same t.same t)
    (cond (nat_lt 0 t.stopped) (tried worst.Stopped t.stopped t)
    (cond (nat_lt 0 t.refused) (tried worst.Refused t.refused t) look.Untried))))

-- the look of operation n
abbrev pub verdict_looks : List (List Fault) → List Verdict → ℕ → Look
verdict_looks groups vs n = worst_of (totals_in table.Operations n groups vs)
