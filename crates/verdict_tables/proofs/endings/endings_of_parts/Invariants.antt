use Rattle.std.proofs.Common.{◌≡◌, ◌++◌, drop}
use Rattle.verdict_tables.specs.SameEndings.{endings_over}
use Rattle.verdict_tables.proofs.endings.endings_of_parts.Given as goal

abbrev pub invariant-parts : goal.invariant-parts
invariant-parts l = endings_over l.table l.graph l.rows l.parts ≡ l.endings ++ endings_over l.table l.graph l.rows (drop l.k l.parts)
