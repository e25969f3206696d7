use Rattle.std.proofs.Common.{◌≡◌, length}
use Rattle.verdict_tables.specs.Moments.{Room, past_of}
use Rattle.verdict_tables.proofs.Running.{SoFar}
use Rattle.verdict_tables.proofs.endless.run.run.Given as goal

abbrev pub invariant-cycles : goal.invariant-cycles
invariant-cycles l = record {
  room : Room l.graph l.work;
  count : l.count ≡ length l.rows;
  so_far : SoFar l.table l.graph l.group l.rows l.i (past_of l.work) l.work.held.items l.work.reached;
}
