-- RowsRead: all rows of a run, read before it begins; and the columns of a graph's rows.
use Rattle.std.specs.Prelude.{ℤ, ◌≡◌, List, map, Some, None}
use Rattle.vcp_base.specs.declared.columns.Column.{Column}
use Rattle.input_rows.specs.declared.fault.RowFault.{RowFault}
use Rattle.input_rows.specs.RowsOf.{RowsLeft}
use Rattle.op_graph.specs.Lists.{Lists, column}
use Rattle.vcp_inputs.specs.declared.refusal.NoInput.{NoInput}
use Rattle.vcp_inputs.specs.declared.refusal.NoInput.TheVariants as input
use Rattle.vcp_inputs.specs.declared.refusal.Refusal.{Refusal}
use Rattle.vcp_inputs.specs.declared.refusal.Refusal.TheVariants as refusal
use Rattle.vcp_inputs.specs.RowsOutcome.{RowsOutcome, refused, opened}

-- the columns of a graph's inputs
abbrev pub graph_columns : Lists → List Column
graph_columns g = map (column g.names) g.inputs

-- these are all rows
pub record AllRead (o : RowsOutcome) (rows : List (List ℤ)) : Type 0 where
  pub left : RowsLeft
  pub comes : o ≡ opened left
  pub rows_are : left.rows ≡ rows
  pub whole : left.refusal ≡ None

-- why rows are refused: at their header, or at a row
pub data RowsBroken (o : RowsOutcome) : Refusal → Type 0 where
  at_header : (r : Refusal) → o ≡ refused r → RowsBroken o r
  at_row : (left : RowsLeft) (why : RowFault) → o ≡ opened left → left.refusal ≡ Some why → RowsBroken o (refusal.Rows why)

-- why there are none: they are refused, or memory was wanted
abbrev pub NoneRead : RowsOutcome → NoInput → Type 0
NoneRead o (input.Refused r) = RowsBroken o r
NoneRead o input.Memory = Unit {0}
NoneRead o input.Unread = ⊥
