-- Loading: what stands when a command has read its first file, and then ROWS; and how one ends that has not.
use Rattle.std.specs.Prelude.{ℕ, ◌≡◌, ◌≤◌, List, Ok, IfSome}
use Rattle.std.specs.Io.KnownBytes.{IsAtEnd}
use Rattle.vcp_base.specs.declared.columns.Column.{Column}
use Rattle.vcp_outside.specs.Seen.{FilesSeen}
use Rattle.coded_machine.specs.Moments.{Moment}
use Rattle.vcp_inputs.specs.Forms.{Form, Rows}
use Rattle.vcp_inputs.specs.declared.refusal.Refusal.{Refusal}
use Rattle.input_rows.specs.declared.source.RowsSource.{RowsSource}
use Rattle.vcp_inputs.specs.Files.{Loads}
use Rattle.vcp_inputs.specs.RowsOutcome.{rows_outcome, source_outcome}
use Rattle.vcp_inputs.specs.Abouts.{about}
use Rattle.vcp_inputs.specs.Performing.{Performs}
use Rattle.vcp_core.specs.declared.fault.Fault.{Fault}
use Rattle.vcp_core.specs.Reach.{fault_status, fault_text}
use Rattle.vcp_core.specs.Tasks.{TaskOf}

-- the file under a name was read to its end, before which the files were others, and it is v
pub record FirstRead {V : Type 0} (Is : List ℕ → V → Type 0) (Why : List ℕ → Refusal → Type 0) (most : ℕ) (name : List ℕ) (files later : FilesSeen) (v : V)
    : Type 0 where
  pub loads : IfSome files.held (λ h. Loads Is Why h name most files.broken later.broken (Ok v))
  pub ended : IsAtEnd later.rest
  pub faults : later.faults ≡ files.faults
  pub broken : files.broken ≤ later.broken
  pub held : later.held ≡ files.held

-- and ROWS were, if they have a file: they come for these columns to what this source comes to
pub record BothRead {V : Type 0} (Is : List ℕ → V → Type 0) (Why : List ℕ → Refusal → Type 0) (most : ℕ) (name : List ℕ) (rows : Rows)
    (files later : FilesSeen) (v : V) (columns : List Column) (source : RowsSource) : Type 0 where
  pub file : FirstRead Is Why most name files later v
  pub rows_are : IfSome files.held (λ h. rows_outcome rows h columns ≡ source_outcome source columns)

-- each of these commands that ended by this fault did nothing
abbrev pub EndsUnread : (Form → Type 0) → FilesSeen → FilesSeen → Fault → Type 0
EndsUnread Reads files later e =
    (f : Form) (here : Moment) → Reads f → Performs (about f) (TaskOf f) files later here here (fault_text e) (fault_status e)
