use Rattle.std.proofs.Common.{ℕ, ◌≤◌, ◌<◌, ◌-◌, length}
use Rattle.st_lexer.specs.Reading.{Closes}
use Rattle.st_lexer.proofs.piece.comment_end.Given as goal

abbrev pub invariant-loop-k : goal.invariant-loop-k
invariant-loop-k l = record { from_two : 2 ≤ l.k; none : (j : ℕ) → 2 ≤ j → j < l.k → Closes l.last l.rest j → ⊥ }

abbrev pub decreases-loop-k : goal.decreases-loop-k
decreases-loop-k l = length l.rest - l.k
