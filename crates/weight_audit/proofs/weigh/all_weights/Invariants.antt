use Rattle.std.proofs.Common.{◌≡◌, length}
use Rattle.weight_audit.proofs.Auditing.{AreAll}
use Rattle.weight_audit.proofs.weigh.all_weights.Given as goal

abbrev pub invariant-outputs : goal.invariant-outputs
invariant-outputs l = record {
  many : length l.outputs.items ≡ l.i;
  all : AreAll l.graph l.horizon l.outputs.items;
}
