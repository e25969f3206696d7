use Rattle.std.proofs.Common.{◌≡◌, length}
use Rattle.csv.specs.Records.{fields_of}
use Rattle.input_rows.proofs.Placing.{expected}
use Rattle.input_rows.proofs.layout.Layout.set_values.Given as goal

abbrev pub invariant-cells : goal.invariant-cells
invariant-cells l =
    (length l.row ≡ length l.fn.row)
    × (expected l.self.types l.self.places (fields_of l.cells) l.number 0 l.fn.row ≡ expected l.self.types l.self.places (fields_of l.cells) l.number l.j l.row)
