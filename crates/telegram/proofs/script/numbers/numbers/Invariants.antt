use Rattle.std.proofs.Common.{◌≡◌, length}
use Rattle.telegram.specs.Forms.{integers_of}
use Rattle.telegram.specs.Reads.{before}
use Rattle.telegram.proofs.script.numbers.numbers.Given as goal

abbrev pub invariant-words : goal.invariant-words
invariant-words l = integers_of l.fn.words ≡ before l.row (integers_of l.words)

abbrev pub decreases-words : goal.decreases-words
decreases-words l = length l.words
