use Rattle.std.proofs.Common.{◌≡◌, ◌+◌, ◌-◌, ◌<◌, ◌≤◌, length, drop}
use Rattle.il_front.proofs.LineLaws.{line_length}
use Rattle.il_front.proofs.line.line_end.Given as goal

abbrev pub invariant-line : goal.invariant-line
invariant-line l = record {
  from : l.at ≤ l.last;
  within : l.last < length l.tokens.tokens;
  same : l.at + line_length (drop l.at l.tokens.tokens) ≡ l.last + line_length (drop l.last l.tokens.tokens);
}

abbrev pub decreases-line : goal.decreases-line
decreases-line l = length l.tokens.tokens - l.last
