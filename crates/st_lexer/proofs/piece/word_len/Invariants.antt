use Rattle.std.proofs.Common.{◌≡◌, ◌≤◌, ◌+◌, ◌-◌, drop, length}
use Rattle.std.specs.List.{prefix_len}
use Rattle.vcp_base.specs.Names.{is_letter_or_digit}
use Rattle.st_lexer.proofs.piece.word_len.Given as goal

abbrev pub invariant-loop-n : goal.invariant-loop-n
invariant-loop-n l = record {
  within : l.n ≤ length l.rest;
  so_far : l.n + prefix_len is_letter_or_digit (drop l.n l.rest) ≡ prefix_len is_letter_or_digit l.rest;
}

abbrev pub decreases-loop-n : goal.decreases-loop-n
decreases-loop-n l = length l.rest - l.n
