use Rattle.std.proofs.Common.{◌≡◌, ℕ, ◌+◌, ◌≤◌, List, ◌++◌, take}
use Rattle.st_lexer.specs.Spots.{spot_after}
use Rattle.st_lexer.proofs.spot.spot_behind.Given as goal

abbrev pub invariant-loop-byte : goal.invariant-loop-byte
invariant-loop-byte l = record {
  line : l.current.line ≤ l.fn.spot.line + l.byte-index;
  col : l.current.col ≤ l.fn.spot.col + l.byte-index;
  spot : (before : List ℕ) → l.fn.spot ≡ spot_after before → l.current ≡ spot_after (before ++ take l.byte-index l.bytes);
}
