use Rattle.std.proofs.Common.{◌≡◌, ℕ, [], length}
use Rattle.fault_sites.specs.Readings.{word}
use Rattle.fault_sites.proofs.words_read.no_readings.Given as goal

abbrev pub invariant-words : goal.invariant-words
invariant-words l = record {
  many : length l.by_word.items ≡ l._n;
  none : (k : ℕ) → word l.by_word.items k ≡ [];
}
