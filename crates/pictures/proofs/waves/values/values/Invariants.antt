use Rattle.std.proofs.Common.{◌≡◌, ◌+◌, drop, length}
use Rattle.csv.specs.Records.{fields_of}
use Rattle.pictures.specs.Values.{values_of, behind}
use Rattle.pictures.proofs.waves.values.values.Given as goal

abbrev pub invariant-cells : goal.invariant-cells
invariant-cells l = record {
  values : values_of 2 (drop 1 (fields_of l.cells)) ≡ behind l.row (values_of (l.j + 1) (drop l.j (fields_of l.cells)));
  many : length l.row + 1 ≡ l.j;
}
