use Rattle.std.proofs.Common.{ℕ, List, Result, drop}
use Rattle.image_file.specs.declared.fields.fault.FieldFault.{FieldFault}
use Rattle.image_file.specs.Fields.{behind}
use Rattle.image_file.specs.Image.{Head}
use Rattle.image_file.specs.Readings.{GoesOn}
use Rattle.image_file.proofs.head.magic_here.Given as goal

abbrev pub invariant-wanted : goal.invariant-wanted
invariant-wanted l =
    (next : List ℕ → Result (Head × List ℕ) FieldFault)
    → GoesOn l.initial.bytes.fault l.bytes.fault (behind l.wanted next l.initial.bytes.left.now) (behind (drop l.i l.wanted) next l.bytes.left.now)
