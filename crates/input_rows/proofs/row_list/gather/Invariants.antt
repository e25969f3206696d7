use Rattle.std.proofs.Common.{◌≡◌, length}
use Rattle.input_rows.proofs.Flat.{Gathered}
use Rattle.input_rows.proofs.row_list.gather.Given as goal

abbrev pub invariant-rows : goal.invariant-rows
invariant-rows l = record {
  gathered : Gathered l.initial.rows l.rows l.count l.width l.values.items;
  row : length l.row ≡ l.width;
  width : l.width ≡ length l.initial.rows.types;
}

abbrev pub decreases-rows : goal.decreases-rows
decreases-rows l = length l.rows.rows
