use Rattle.std.proofs.Common.{◌-◌, []}
use Rattle.image_file.specs.Pieces.{many}
use Rattle.image_file.specs.Entries.{output_piece}
use Rattle.image_file.specs.Readings.{GoesOn}
use Rattle.image_file.proofs.Loop.{with_front}
use Rattle.image_file.proofs.lists.outputs_of.Given as goal

abbrev pub invariant-entries : goal.invariant-entries
invariant-entries l =
    GoesOn l.initial.bytes.fault l.bytes.fault
    (many l.counts.outputs (λ b. (output_piece l.counts.profile l.counts.names l.counts.operations b).read) [] l.initial.bytes.left.now)
    (with_front l.found.items
    (many (l.counts.outputs - l.counter) (λ b. (output_piece l.counts.profile l.counts.names l.counts.operations b).read) l.found.items l.bytes.left.now))
