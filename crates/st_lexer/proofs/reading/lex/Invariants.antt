use Rattle.std.proofs.Common.{◌≡◌, ◌+◌, ◌-◌, ◌≤◌, length}
use Rattle.st_lexer.specs.Spots.{spot_at}
use Rattle.st_lexer.proofs.Covers.{Upto}
use Rattle.st_lexer.proofs.reading.lex.Given as goal

abbrev pub invariant-loop-at : goal.invariant-loop-at
invariant-loop-at l = record {
  within : l.at ≤ length l.text;
  line : l.spot.line ≤ 1 + l.at;
  col : l.spot.col ≤ 1 + l.at;
  spot : l.spot ≡ spot_at l.text l.at;
  upto : Upto l.text l.tokens.tokens l.at;
}

abbrev pub decreases-loop-at : goal.decreases-loop-at
decreases-loop-at l = length l.text - l.at
