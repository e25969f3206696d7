-- RowsRead: why rows are not all read, from what opening them and reading them give.
use Rattle.std.proofs.Common.{◌≡◌, ◌≢◌, ap, Result, Some, Err}
use Rattle.input_rows.specs.declared.fault.RowFault.{RowFault}
use Rattle.input_rows.specs.declared.fault.RowFault.TheVariants as row
use Rattle.input_rows.specs.RowsOf.{RowsLeft}
use Rattle.vcp_inputs.specs.declared.refusal.Refusal.TheVariants as refusal
use Rattle.vcp_inputs.specs.Refusals.{no_rows}
use Rattle.vcp_inputs.specs.RowsOutcome.{RowsOutcome, opened, rows_or_refusal}
use Rattle.vcp_inputs.specs.RowsRead.{NoneRead, at_header, at_row}

-- a row that is refused
pub row_refused : (o : RowsOutcome) (left : RowsLeft) (f : RowFault) → o ≡ opened left → (f ≢ row.Memory → left.refusal ≡ Some f) → NoneRead o (no_rows f)
row_refused o left row.Header comes behind = at_row left row.Header comes (behind (λ e. cc))
row_refused o left (row.Width n) comes behind = at_row left (row.Width n) comes (behind (λ e. cc))
row_refused o left (row.Cell n column) comes behind = at_row left (row.Cell n column) comes (behind (λ e. cc))
row_refused o left row.Form comes behind = at_row left row.Form comes (behind (λ e. cc))
row_refused o left row.Cycles comes behind = at_row left row.Cycles comes (behind (λ e. cc))
row_refused o left row.Cycle comes behind = at_row left row.Cycle comes (behind (λ e. cc))
row_refused o left row.Memory comes behind = tt

-- rows that are refused before the first of them
pub header_refused : (r : Result RowsLeft RowFault) (f : RowFault) → (f ≢ row.Memory → r ≡ Err f) → NoneRead (rows_or_refusal r) (no_rows f)
header_refused r row.Header is = at_header (refusal.Rows row.Header) (ap rows_or_refusal (is (λ e. cc)))
header_refused r (row.Width n) is = at_header (refusal.Rows (row.Width n)) (ap rows_or_refusal (is (λ e. cc)))
header_refused r (row.Cell n column) is = at_header (refusal.Rows (row.Cell n column)) (ap rows_or_refusal (is (λ e. cc)))
header_refused r row.Form is = at_header (refusal.Rows row.Form) (ap rows_or_refusal (is (λ e. cc)))
header_refused r row.Cycles is = at_header (refusal.Rows row.Cycles) (ap rows_or_refusal (is (λ e. cc)))
header_refused r row.Cycle is = at_header (refusal.Rows row.Cycle) (ap rows_or_refusal (is (λ e. cc)))
header_refused r row.Memory is = tt
