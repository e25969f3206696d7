use Rattle.std.proofs.Common.{◌≤◌, ◌-◌, length}
use Rattle.range_audit.proofs.thresholds.count_below.Given as goal

abbrev pub invariant-halves : goal.invariant-halves
invariant-halves l = (l.low ≤ l.high) × (l.high ≤ length l.numbers)

abbrev pub decreases-halves : goal.decreases-halves
decreases-halves l = l.high - l.low
