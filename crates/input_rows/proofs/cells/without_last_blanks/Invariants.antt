use Rattle.std.proofs.Common.{◌≡◌, length, reverse}
use Rattle.vcp_base.specs.Blanks.{unindented}
use Rattle.input_rows.proofs.cells.without_last_blanks.Given as goal

abbrev pub invariant-blanks : goal.invariant-blanks
invariant-blanks l = reverse (unindented (reverse l.rest)) ≡ reverse (unindented (reverse l.fn.text))

abbrev pub decreases-blanks : goal.decreases-blanks
decreases-blanks l = length l.rest
