use Rattle.std.proofs.Common.{◌≡◌, length}
use Rattle.vcp_base.specs.Blanks.{unindented}
use Rattle.vcp_base.proofs.blanks.without_first_blanks.Given as goal

abbrev pub invariant-blanks : goal.invariant-blanks
invariant-blanks l = unindented l.rest ≡ unindented l.fn.text

abbrev pub decreases-blanks : goal.decreases-blanks
decreases-blanks l = length l.rest
