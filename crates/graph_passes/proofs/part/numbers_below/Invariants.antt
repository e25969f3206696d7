use Rattle.std.proofs.Common.{◌≡◌, ◌<◌, ℕ, length}
use Rattle.graph_passes.specs.Part.{below}
use Rattle.graph_passes.specs.Tables.{marked, number_at}
use Rattle.graph_passes.proofs.part.numbers_below.Given as goal

abbrev pub invariant-marks : goal.invariant-marks
invariant-marks l = record {
  many : length l.numbers.items ≡ l.i;
  count : l.count ≡ below (marked l.marks) l.i;
  each : (k : ℕ) → k < l.i → number_at l.numbers.items k ≡ below (marked l.marks) k;
}
