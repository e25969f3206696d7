-- RowsOutcome: what the words ROWS give, where the files hold this.
use Rattle.std.specs.Prelude.{ℕ, ◌≡◌, ◌⊎◌, Bool, true, false, cond, nat_lt, List, [], ◌∷◌, length, Option, Some, None, Result, Ok, Err}
use Rattle.vcp_base.specs.Limits.{most_rows_bytes}
use Rattle.vcp_base.specs.declared.columns.Column.{Column}
use Rattle.vcp_outside.specs.Counts.{Rose}
use Rattle.vcp_outside.specs.Held.{Held}
use Rattle.vcp_inputs.specs.Forms.{Rows, file, cycles}
use Rattle.input_rows.specs.declared.fault.RowFault.{RowFault}
use Rattle.input_rows.specs.declared.fault.RowFault.TheVariants as row
use Rattle.input_rows.specs.RowsOf.{RowsLeft, rows_of, rows_of_cycles}
use Rattle.vcp_inputs.specs.Files.{LeavesLong}
use Rattle.vcp_inputs.specs.declared.refusal.NoInput.{NoInput}
use Rattle.vcp_inputs.specs.declared.refusal.NoInput.TheVariants as input
use Rattle.vcp_inputs.specs.declared.refusal.Refusal.{Refusal}
use Rattle.vcp_inputs.specs.declared.refusal.Refusal.TheVariants as refusal
use Rattle.input_rows.specs.declared.source.RowsSource.{RowsSource}
use Rattle.input_rows.specs.Opening.{source_rows}

-- what ROWS come to: the name of their file is lacking, they are refused, or these rows are left
pub data RowsOutcome : Type 0 where
  lacking : RowsOutcome
  refused : Refusal → RowsOutcome
  opened : RowsLeft → RowsOutcome

-- the rows, or the refusal that stands in their place
abbrev pub rows_or_refusal : Result RowsLeft RowFault → RowsOutcome
rows_or_refusal (Ok left) = opened left
rows_or_refusal (Err why) = refused (refusal.Rows why)

-- what a file comes to, of which these are the bytes, if there is one
abbrev pub file_outcome : List Column → Option (List ℕ) → RowsOutcome
file_outcome columns None = lacking
file_outcome columns (Some bytes) = cond (nat_lt most_rows_bytes (length bytes)) (refused refusal.Bytes) (rows_or_refusal (rows_of bytes columns))

-- what ROWS come to for these columns; a file isn't begun where there are none
abbrev pub rows_outcome : Rows → Held → List Column → RowsOutcome
rows_outcome (file name) held [] = refused (refusal.Rows row.Form)
rows_outcome (file name) held (c ∷ columns) = file_outcome (c ∷ columns) (held name)
rows_outcome (cycles n) held columns = rows_or_refusal (rows_of_cycles n columns)

-- ROWS have a file that is begun
abbrev pub begins : Rows → List Column → Bool
begins (file name) [] = false
begins (file name) (c ∷ columns) = true
begins (cycles n) columns = false

-- the file of ROWS has more bytes than a rows file may have, of which one more was taken than it may
abbrev pub HasLongFile : Rows → Option (List ℕ) → Held → Type 0
HasLongFile (file name) rest held = LeavesLong name most_rows_bytes rest held
HasLongFile (cycles n) rest held = ⊥

-- ---- what calls give

-- the rows, or why there are none, where the files that broke were so many before and are now
abbrev pub Opens : RowsOutcome → ℕ → ℕ → Result RowsLeft NoInput → Type 0
Opens outcome before now (Ok left) = outcome ≡ opened left
Opens outcome before now (Err input.Unread) = (outcome ≡ lacking) ⊎ Rose before now
Opens outcome before now (Err (input.Refused r)) = outcome ≡ refused r
Opens outcome before now (Err input.Memory) = Unit {0}

-- what a source comes to that was loaded
abbrev pub source_outcome : RowsSource → List Column → RowsOutcome
source_outcome source columns = rows_or_refusal (source_rows source columns)

-- a source that comes to the same, or why there is none
abbrev pub LoadsRows : RowsOutcome → List Column → ℕ → ℕ → Result RowsSource NoInput → Type 0
LoadsRows outcome columns before now (Ok source) = outcome ≡ source_outcome source columns
LoadsRows outcome columns before now (Err why) = Opens outcome before now (Err why)
