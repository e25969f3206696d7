use Rattle.std.proofs.Common.{◌≡◌, ◌≤◌, ◌+◌, drop}
use Rattle.verdict_tables.specs.SameEndings.{ended_count}
use Rattle.verdict_tables.proofs.ended.and_ended.Given as goal

abbrev pub invariant-endings : goal.invariant-endings
invariant-endings l = record {
  left : l.before + ended_count l.n l.endings ≡ l.count + ended_count l.n (drop l.i l.endings);
  few : l.count ≤ l.before + l.i;
}
