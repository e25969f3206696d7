use Rattle.std.proofs.Common.{◌≡◌, ℕ, ◌<◌, ◌++◌, length, drop}
use Rattle.fault_sites.specs.Readings.{readings_from, word}
use Rattle.fault_sites.proofs.words_read.read_in_cycle.Given as goal

abbrev pub invariant-operations : goal.invariant-operations
invariant-operations l = record {
  many : length l.by_word ≡ length l.fn.by_word;
  added : (k : ℕ) → k < length l.fn.by_word → word l.by_word k ++ readings_from k l.q (drop l.q l.graph.operations)
      ≡ word l.fn.by_word k ++ readings_from k 0 l.graph.operations;
}
