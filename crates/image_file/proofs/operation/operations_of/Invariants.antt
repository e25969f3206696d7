use Rattle.std.proofs.Common.{◌≡◌, ◌-◌, [], length, None}
use Rattle.image_file.specs.Pieces.{many}
use Rattle.image_file.specs.Image.{op_piece}
use Rattle.image_file.specs.Readings.{GoesOn}
use Rattle.image_file.specs.Views.{said_of, scope_of, IsAt}
use Rattle.image_file.proofs.Loop.{with_front}
use Rattle.image_file.proofs.operation.operations_of.Given as goal

abbrev pub invariant-entries : goal.invariant-entries
invariant-entries l =
    GoesOn l.initial.bytes.fault l.bytes.fault (many l.count (λ b. (op_piece (said_of l.s) b).read) [] l.initial.bytes.left.now)
    (with_front l.found.items (many (l.count - l.i) (λ b. (op_piece (said_of l.s) b).read) l.found.items l.bytes.left.now))
    × (l.bytes.fault ≡ None → length l.found.items ≡ l.i) × IsAt (scope_of l.s) l.i l.walk
