use Rattle.std.proofs.Common.{◌≡◌, ◌++◌, drop}
use Rattle.csv.specs.Records.{fields_of}
use Rattle.pictures.proofs.waves.header.names.Given as goal

abbrev pub invariant-cells : goal.invariant-cells
invariant-cells l = drop 1 (fields_of l.cells) ≡ l.names ++ drop l.j (fields_of l.cells)
