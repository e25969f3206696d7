use Rattle.std.proofs.Common.{◌≡◌, ◌≤◌, ◌+◌, ◌*◌, drop}
use Rattle.fault_script.specs.ScriptOf.{most_faults}
use Rattle.verdict_tables.specs.SameEndings.{all_endings, ended_count}
use Rattle.verdict_tables.proofs.ended.count_ended.Given as goal

abbrev pub invariant-parts : goal.invariant-parts
invariant-parts l = record {
  left : ended_count l.n (all_endings l.endings) ≡ l.count + ended_count l.n (all_endings (drop l.k l.endings));
  few : l.count ≤ l.k * most_faults;
}
