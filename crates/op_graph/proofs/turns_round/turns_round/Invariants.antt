use Rattle.std.proofs.Common.{◌≡◌, ◌≤◌, ◌<◌, ◌+◌, ◌*◌, ℕ, Some, length, slice_get}
use Rattle.op_graph.specs.Chain.{up}
use Rattle.op_graph.proofs.turns_round.turns_round.Given as goal

abbrev pub invariant-stretches : goal.invariant-stretches
invariant-stretches l = record {
  marks : (i : ℕ) → i < l.stretches → slice_get l.marks i ≡ Some (up l.nodes l.n (256 * i));
  here : l.node ≡ up l.nodes l.n (256 * l.stretches);
  some_here : 1 ≤ l.stretches → 1 ≤ l.node;
  filled : (i : ℕ) → i < l.left → slice_get l.stretch i ≡ Some (up l.nodes l.node i);
  some : (i : ℕ) → i < l.left → 1 ≤ up l.nodes l.node i;
  few : l.left ≤ 256;
  next : l.next ≡ up l.nodes l.node l.left;
  whole : l.left < 256 → l.next ≡ 0;
  room : length l.marks ≡ 256;
  low : l.node + 256 * l.stretches ≤ l.n;
}

-- each stretch begins at a lower node
abbrev pub decreases-stretches : goal.decreases-stretches
decreases-stretches l = l.node
