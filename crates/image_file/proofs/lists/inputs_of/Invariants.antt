use Rattle.std.proofs.Common.{◌-◌, []}
use Rattle.image_file.specs.Pieces.{many}
use Rattle.image_file.specs.Entries.{input_piece}
use Rattle.image_file.specs.Readings.{GoesOn}
use Rattle.image_file.proofs.Loop.{with_front}
use Rattle.image_file.proofs.lists.inputs_of.Given as goal

abbrev pub invariant-entries : goal.invariant-entries
invariant-entries l =
    GoesOn l.initial.bytes.fault l.bytes.fault (many l.counts.inputs (λ b. (input_piece l.counts.profile l.counts.names b).read) [] l.initial.bytes.left.now)
    (with_front l.found.items (many (l.counts.inputs - l.counter) (λ b. (input_piece l.counts.profile l.counts.names b).read) l.found.items l.bytes.left.now))
