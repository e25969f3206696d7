use Rattle.std.proofs.Common.{◌≡◌, ◌<◌, IfOk}
use Rattle.fault_sites.specs.NamedOperations.{named_below, the_one}
use Rattle.fault_sites.proofs.named.operations.operation_named.Given as goal

abbrev pub invariant-operations : goal.invariant-operations
invariant-operations l = record {
  so_far : the_one (named_below l.graph l.kind l.name l.i) ≡ l.found;
  there : IfOk l.found (λ k. k < l.i);
}
