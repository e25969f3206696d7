use Rattle.std.proofs.Common.{◌≡◌, ℕ, ◌<◌, ◌++◌, length, drop}
use Rattle.op_graph.specs.Lists.{cells}
use Rattle.fault_sites.specs.Readings.{readings_across, word}
use Rattle.fault_sites.proofs.words_read.read_across.Given as goal

abbrev pub invariant-cells : goal.invariant-cells
invariant-cells l = record {
  many : length l.by_word ≡ length l.fn.by_word;
  added : (k : ℕ) → k < length l.fn.by_word → word l.by_word k ++ readings_across k (drop l.i (cells l.graph))
      ≡ word l.fn.by_word k ++ readings_across k (cells l.graph);
}
