-- What holds of the rows of any bytes.
use Rattle.std.proofs.Common.{◌≡◌, ◌≤◌, ℕ, false, List, [], ◌∷◌, length, All, Option, Some, None, IfSome, Ok, arith}
use Rattle.vcp_base.specs.Limits.{most_cycles}
use Rattle.vcp_base.specs.Types.{AreIn}
use Rattle.vcp_base.specs.declared.columns.Column.{Column}
use Rattle.input_rows.specs.Header.{order_of}
use Rattle.input_rows.specs.RowsOf.{RowsLeft, IsOfRecord, types_of, rows_from, rows_in_order, rows_of_records}
use Rattle.input_rows.proofs.Lefts.{types-from, fresh-from, few-from, kind-from}
use Rattle.input_rows.proofs.Typed.{rows-in}

pub record Sound (columns : List Column) (left : RowsLeft) : Type 0 where
  pub types : left.types ≡ types_of columns
  pub typed : All (AreIn left.types) left.rows
  pub few : length left.rows ≤ most_cycles
  pub behind : IfSome left.refusal IsOfRecord
  pub fresh : left.ended ≡ false

sound-from : (columns : List Column) (order : List ℕ) (rs : List (List (List ℕ))) → Sound columns (rows_from (types_of columns) order 0 rs)
sound-from columns order rs = record {
  types = types-from (types_of columns) order 0 rs;
  typed = rw (types-from (types_of columns) order 0 rs) (rows-in (types_of columns) order 0 rs);
  few = omega (arith, few-from (types_of columns) order 0 rs);
  behind = kind-from (types_of columns) order 0 rs;
  fresh = fresh-from (types_of columns) order 0 rs;
}

in_order : (columns : List Column) (o : Option (List ℕ)) (rs : List (List (List ℕ))) (left : RowsLeft) → rows_in_order columns o rs ≡ Ok left
    → Sound columns left
in_order columns None rs left e = absurd cc
in_order columns (Some order) rs left e = let k : rows_from (types_of columns) order 0 rs ≡ left = cc in rw (← k) (sound-from columns order rs)

pub of_records : (columns : List Column) (rs : List (List (List ℕ))) (left : RowsLeft) → rows_of_records columns rs ≡ Ok left → Sound columns left
of_records columns [] left e = absurd cc
of_records columns (header ∷ rs) left e = in_order columns (order_of columns header) rs left e
