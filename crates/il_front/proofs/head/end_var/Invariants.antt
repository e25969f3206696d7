use Rattle.std.proofs.Common.{◌≡◌, ◌≤◌, length, drop}
use Rattle.il_front.specs.Lines.{through_end_var}
use Rattle.il_front.proofs.head.end_var.Given as goal

abbrev pub invariant-loop-at : goal.invariant-loop-at
invariant-loop-at l = record {
  within : l.at ≤ length l.tokens.tokens;
  none : through_end_var (drop l.at l.tokens.tokens) ≡ 0;
}

abbrev pub decreases-loop-at : goal.decreases-loop-at
decreases-loop-at l = l.at
