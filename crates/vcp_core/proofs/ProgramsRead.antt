-- What the commands come to that read a program and ROWS, where there is nothing of these.
use Rattle.std.proofs.Common.{ℕ, ◌≡◌, ◌≢◌, inl, inr, true, refl, List, [], Err, IfSome}
use Rattle.vcp_base.specs.declared.columns.Column.{Column}
use Rattle.std.specs.Io.KnownBytes.{IsAtEnd}
use Rattle.vcp_outside.specs.Counts.{Rose}
use Rattle.vcp_outside.specs.Held.{Held}
use Rattle.vcp_outside.specs.Seen.{FilesSeen}
use Rattle.vcp_typed.specs.Fitting.{input_columns}
use Rattle.vcp_typed.specs.SourceRun.{Program}
use Rattle.input_rows.specs.RowsOf.{RowsLeft}
use Rattle.il_front.specs.Outcomes.{IsTypedIl}
use Rattle.coded_machine.specs.Moments.{Moment}
use Rattle.vcp_inputs.specs.Forms.{AreFew, Code, Form, IsSound, Rows, il, plain, run, as_code, program_run}
use Rattle.vcp_inputs.specs.declared.words.command.ProgramRun.{ProgramRun}
use Rattle.vcp_inputs.specs.declared.words.command.ProgramRun.TheVariants as how
use Rattle.vcp_inputs.specs.Tables.{rows_name}
use Rattle.vcp_inputs.specs.declared.refusal.Refusal.{Refusal}
use Rattle.vcp_inputs.specs.declared.refusal.Refusal.TheVariants as refusal
use Rattle.vcp_inputs.specs.declared.refusal.NoInput.{NoInput}
use Rattle.vcp_inputs.specs.declared.refusal.NoInput.TheVariants as input
use Rattle.vcp_inputs.specs.Lines.{input_status, input_text}
use Rattle.vcp_inputs.specs.Files.{LeavesLong, NotLoaded}
use Rattle.vcp_inputs.specs.FileTasks.{TakenRows}
use Rattle.vcp_inputs.specs.Listings.{NotListing}
use Rattle.vcp_inputs.specs.Programs.{NotTyped, TypedOf}
use Rattle.vcp_inputs.specs.Refusals.{IsCaused}
use Rattle.vcp_inputs.specs.RowsOutcome.{HasLongFile, Opens, begins, rows_outcome, source_outcome}
use Rattle.vcp_inputs.specs.Abouts.{about, listing_word, source_word}
use Rattle.vcp_inputs.specs.Answer.{source}
use Rattle.vcp_inputs.specs.Kinds.{Task, answers, runs}
use Rattle.vcp_inputs.specs.ListRuns.{HasListColumns}
use Rattle.vcp_inputs.specs.Performing.{Performs}
use Rattle.vcp_core.specs.declared.program_rows.ProgramRows.{ProgramRows}
use Rattle.vcp_core.specs.ProgramsRead.{AreProgramRows, IsCoded, Language, NotTypedIn, ProgramRead, ProgramRowsRead, ReadsProgramRows, answering, language_of, listing, most_in, running}
use Rattle.vcp_core.specs.Tasks.{TaskOf, plain_answer, rows_job}
use Rattle.vcp_core.proofs.ListedRuns.{RunsHeld, il_by}
use Rattle.vcp_core.proofs.Facts.{not_none}
use Rattle.vcp_core.proofs.LoadedRows.{rows_unloaded, rows_unopened}
use Rattle.vcp_core.proofs.Performing.{quiet_lost}
use Rattle.vcp_core.proofs.TwoChannels.{performs_by}

-- each of them reads files
pub some_files : (p : List ℕ) (rows : Rows) (l : Language) (f : Form) → ReadsProgramRows p rows l f → (about f).files ≢ []
some_files p rows _ _ (running code) = λ none. cc
some_files p rows _ _ answering = λ none. cc
some_files p rows _ _ (listing code) = λ none. cc

-- a run of P on ROWS is one of them
pub reads_run : (p : List ℕ) (rows : Rows) (run : ProgramRun) → ReadsProgramRows p rows (language_of run) (program_run p rows run)
reads_run p rows how.Plain = answering
reads_run p rows (how.Run code) = running (as_code code)
reads_run p rows (how.Il code) = listing (as_code code)

-- and where it is sound its rows are few
pub run_few : (p : List ℕ) (rows : Rows) (run : ProgramRun) → IsSound (program_run p rows run) → AreFew rows
run_few p rows how.Plain h = h
run_few p rows (how.Run code) h = h.0
run_few p rows (how.Il code) h = h.0

-- and its code is in its ranges
pub run_coded : (p : List ℕ) (rows : Rows) (run : ProgramRun) → IsSound (program_run p rows run) → IsCoded run
run_coded p rows how.Plain h = tt
run_coded p rows (how.Run code) h = h.1
run_coded p rows (how.Il code) h = h.1

-- what is said of its program's rows
abbrev pub RunsOnRows : Rows → Code → Held → Program → RowsLeft → Task → Type 0
RunsOnRows rows code h t left x = x ≡ runs (rows_job (rows_name rows) code (source t) left)

abbrev pub AnswersOnRows : Rows → Held → Program → RowsLeft → Task → Type 0
AnswersOnRows rows h t left x = x ≡ answers (plain_answer (rows_name rows) t left)

-- there is nothing of P
module _ (law : HasListColumns) (p : List ℕ) (files mid : FilesSeen) (held : mid.held ≡ files.held) (e : NoInput)
    (whole : (r : Refusal) → e ≡ input.Refused r → r ≢ refusal.Bytes → IsAtEnd mid.rest) (rose : e ≡ input.Unread → Rose files.faults mid.faults)
    (stayed : e ≢ input.Unread → mid.faults ≡ files.faults) (caused : IsCaused e) (rows : Rows) (here : Moment) where
  pub program_lost : (l : Language) (f : Form) → ReadsProgramRows p rows l f
      → IfSome files.held (λ h. NotLoaded (NotTypedIn l) h p (most_in l) files.broken mid.broken e)
      → (e ≡ input.Refused refusal.Bytes → IfSome files.held (LeavesLong p (most_in l) mid.rest))
      → Performs (about f) (TaskOf f) files mid here here (input_text p e) (input_status e)
  program_lost _ _ (running code) lost left =
      quiet_lost (about (run p rows code)) TypedOf NotTyped (λ h t. TakenRows (RunsOnRows rows code h t) rows h (input_columns t.slots)) (source_word p) files mid
      here e (inl refl) (λ none. cc) (inr (inl refl)) held lost whole left rose stayed caused
  program_lost _ _ answering lost left =
      quiet_lost (about (plain p rows)) TypedOf NotTyped (λ h t. TakenRows (AnswersOnRows rows h t) rows h (input_columns t.slots)) (source_word p) files mid
      here e (inl refl) (λ none. cc) (inr (inl refl)) held lost whole left rose stayed caused
  program_lost _ _ (listing code) lost left =
      performs_by (about (il p rows code)) _ (TaskOf (il p rows code)) (il_by law p rows code) files mid _ _ _ _
      (quiet_lost (about (il p rows code)) IsTypedIl NotListing (λ h t. TakenRows (RunsHeld p rows code h) rows h (input_columns t.slots)) (listing_word p) files
      mid here e (inl refl) (λ none. cc) (inr (inl refl)) held lost whole left rose stayed caused)

-- P was read, and there is nothing of ROWS
module _ (law : HasListColumns) (p : List ℕ) (rows : Rows) (files mid later : FilesSeen) (t : Program) (columns : List Column)
    (columns_are : columns ≡ input_columns t.slots) (held_later : later.held ≡ mid.held) (here : Moment) (e : NoInput)
    (opens : IfSome mid.held (λ h. Opens (rows_outcome rows h columns) mid.broken later.broken (Err e)))
    (begun : e ≡ input.Unread → begins rows columns ≡ true) (rose : e ≡ input.Unread → Rose mid.faults later.faults)
    (stayed : e ≢ input.Unread → later.faults ≡ mid.faults) (rest : (r : Refusal) → e ≡ input.Refused r → r ≢ refusal.Bytes → later.rest ≡ mid.rest)
    (long : e ≡ input.Refused refusal.Bytes → IfSome mid.held (HasLongFile rows later.rest)) (caused : IsCaused e) where
  pub rows_lost : (l : Language) (f : Form) → ReadsProgramRows p rows l f → ProgramRead l p files mid t
      → Performs (about f) (TaskOf f) files later here here (input_text (rows_name rows) e) (input_status e)
  rows_lost _ _ (running code) read =
      rows_unloaded TypedOf NotTyped (λ v. input_columns v.slots) (about (run p rows code)) (source_word p) rows (λ none. cc) (inr (inl refl))
      (λ w among. inr among) (λ n among. among) (RunsOnRows rows code) files mid t columns columns_are read later held_later here e opens begun rose stayed rest
      long caused
  rows_lost _ _ answering read =
      rows_unloaded TypedOf NotTyped (λ v. input_columns v.slots) (about (plain p rows)) (source_word p) rows (λ none. cc) (inr (inl refl))
      (λ w among. inr among) (λ n among. among) (AnswersOnRows rows) files mid t columns columns_are read later held_later here e opens begun rose stayed rest
      long caused
  rows_lost _ _ (listing code) read =
      performs_by (about (il p rows code)) _ (TaskOf (il p rows code)) (il_by law p rows code) files later _ _ _ _
      (rows_unloaded IsTypedIl NotListing (λ v. input_columns v.slots) (about (il p rows code)) (listing_word p) rows (λ none. cc) (inr (inl refl))
      (λ w among. inr among) (λ n among. among) (λ h v. RunsHeld p rows code h) files mid t columns columns_are read later held_later here e opens begun
      rose stayed rest long caused)

-- ROWS were loaded, and aren't opened
pub program_unopened : HasListColumns → (p : List ℕ) (rows : Rows) (files later : FilesSeen) (r : ProgramRows) → AreProgramRows r → (at : Moment) (e : NoInput)
    → (e ≡ input.Unread → ⊥) → Opens (source_outcome r.rows r.columns) files.broken later.broken (Err e) → IsCaused e
    → (run : ProgramRun) → ProgramRowsRead (language_of run) p rows files later r
    → Performs (about (program_run p rows run)) (TaskOf (program_run p rows run)) files later at at (input_text (rows_name rows) e) (input_status e)
program_unopened law p rows files later r fit at e none opens caused how.Plain read =
    rows_unopened TypedOf NotTyped (λ v. input_columns v.slots) (about (plain p rows)) (source_word p) rows not_none (inr (inl refl))
    (λ w among. inr among) (λ n among. among) (AnswersOnRows rows) files later r.program r.columns r.rows fit.columns read at e none opens caused
program_unopened law p rows files later r fit at e none opens caused (how.Run code) read =
    rows_unopened TypedOf NotTyped (λ v. input_columns v.slots) (about (run p rows (as_code code))) (source_word p) rows not_none (inr (inl refl))
    (λ w among. inr among) (λ n among. among) (RunsOnRows rows (as_code code)) files later r.program r.columns r.rows fit.columns read at e none opens caused
program_unopened law p rows files later r fit at e none opens caused (how.Il code) read =
    performs_by (about (il p rows (as_code code))) _ (TaskOf (il p rows (as_code code))) (il_by law p rows (as_code code)) files later _ _ _ _
    (rows_unopened IsTypedIl NotListing (λ v. input_columns v.slots) (about (il p rows (as_code code))) (listing_word p) rows not_none (inr (inl refl))
    (λ w among. inr among) (λ n among. among) (λ h v. RunsHeld p rows (as_code code) h) files later r.program r.columns r.rows fit.columns read at e none opens
    caused)
