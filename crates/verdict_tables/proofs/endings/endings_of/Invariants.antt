use Rattle.std.proofs.Common.{◌≡◌, ◌++◌, drop}
use Rattle.verdict_tables.specs.SameEndings.{endings_for}
use Rattle.verdict_tables.proofs.endings.endings_of.Given as goal

abbrev pub invariant-groups : goal.invariant-groups
invariant-groups l =
    endings_for l.table l.graph l.rows l.script l.verdicts
    ≡ l.endings ++ endings_for l.table l.graph l.rows (drop l.i l.script) (drop l.i l.verdicts)
