use Rattle.std.proofs.Common.{◌≡◌, ◌≤◌, ◌<◌, ℕ, Some, slice_get}
use Rattle.op_graph.specs.Chain.{up}
use Rattle.op_graph.proofs.turns_round.fill.Given as goal

abbrev pub invariant-nodes : goal.invariant-nodes
invariant-nodes l = record {
  filled : (k : ℕ) → k < l.i → slice_get l.stretch k ≡ Some (up l.nodes l.n k);
  some : (k : ℕ) → k < l.i → 1 ≤ up l.nodes l.n k;
  here : l.node ≡ up l.nodes l.n l.i;
}
