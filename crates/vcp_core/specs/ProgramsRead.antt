-- ProgramsRead: the commands that read a program and then ROWS, and what stands when both were read.
use Rattle.std.specs.Prelude.{ℕ, ◌≡◌, ◌≤◌, List, length}
use Rattle.vcp_base.specs.Limits.{most_names, most_source_bytes}
use Rattle.vcp_outside.specs.Seen.{FilesSeen}
use Rattle.vcp_typed.specs.Fitting.{input_columns}
use Rattle.vcp_typed.specs.SourceRun.{Program}
use Rattle.il_front.specs.Answers.{most_il_bytes}
use Rattle.il_front.specs.Outcomes.{IsTypedIl}
use Rattle.vcp_inputs.specs.Forms.{Code, Form, IsCode, Rows, as_code, il, plain, run}
use Rattle.vcp_inputs.specs.declared.refusal.Refusal.{Refusal}
use Rattle.vcp_inputs.specs.declared.words.command.ProgramRun.{ProgramRun}
use Rattle.vcp_inputs.specs.declared.words.command.ProgramRun.TheVariants as how
use Rattle.vcp_inputs.specs.Listings.{NotListing}
use Rattle.vcp_inputs.specs.Programs.{NotTyped, TypedOf}
use Rattle.input_rows.specs.Opening.{HasFewCycles}
use Rattle.vcp_core.specs.declared.fault.Fault.{Fault}
use Rattle.vcp_core.specs.declared.program_rows.ProgramRows.{ProgramRows}
use Rattle.vcp_core.specs.Loading.{EndsUnread, FirstRead, BothRead}

-- the language of P
pub data Language : Type 0 where
  structured_text : Language
  instruction_list : Language

-- the typed program that a text is in a language, why one is none, and how long it may be
abbrev pub IsTypedIn : Language → List ℕ → Program → Type 0
IsTypedIn structured_text = TypedOf
IsTypedIn instruction_list = IsTypedIl

abbrev pub NotTypedIn : Language → List ℕ → Refusal → Type 0
NotTypedIn structured_text = NotTyped
NotTypedIn instruction_list = NotListing

abbrev pub most_in : Language → ℕ
most_in structured_text = most_source_bytes
most_in instruction_list = most_il_bytes

-- the one that a run wants
abbrev pub language_of : ProgramRun → Language
language_of how.Plain = structured_text
language_of (how.Run code) = structured_text
language_of (how.Il code) = instruction_list

-- the code of a run is in its ranges, where it has one
abbrev pub IsCoded : ProgramRun → Type 0
IsCoded how.Plain = Unit {0}
IsCoded (how.Run code) = IsCode (as_code code)
IsCoded (how.Il code) = IsCode (as_code code)

-- the commands that read P and then ROWS
pub data ReadsProgramRows (p : List ℕ) (rows : Rows) : Language → Form → Type 0 where
  running : (code : Code) → ReadsProgramRows p rows structured_text (run p rows code)
  answering : ReadsProgramRows p rows structured_text (plain p rows)
  listing : (code : Code) → ReadsProgramRows p rows instruction_list (il p rows code)

-- the columns are those of the program's inputs, and there are few cycles
pub record AreProgramRows (r : ProgramRows) : Type 0 where
  pub columns : r.columns ≡ input_columns r.program.slots
  pub few : HasFewCycles r.rows
  pub narrow : length r.columns ≤ most_names

-- P was read, before which the files were others; and then ROWS were
abbrev pub ProgramRead : Language → List ℕ → FilesSeen → FilesSeen → Program → Type 0
ProgramRead l p files later t = FirstRead (IsTypedIn l) (NotTypedIn l) (most_in l) p files later t

abbrev pub ProgramRowsRead : Language → List ℕ → Rows → FilesSeen → FilesSeen → ProgramRows → Type 0
ProgramRowsRead l p rows files later r = BothRead (IsTypedIn l) (NotTypedIn l) (most_in l) p rows files later r.program r.columns r.rows

-- where P was read, ROWS were too
abbrev pub ReadsOn : Program → Rows → FilesSeen → FilesSeen → ProgramRows → Type 0
ReadsOn t rows mid later r = (l : Language) (p : List ℕ) (files : FilesSeen) → ProgramRead l p files mid t → ProgramRowsRead l p rows files later r

-- or each of its commands ended by this fault
abbrev pub EndsOn : Program → Rows → FilesSeen → FilesSeen → Fault → Type 0
EndsOn t rows mid later e =
    (l : Language) (p : List ℕ) (files : FilesSeen) → ProgramRead l p files mid t → EndsUnread (ReadsProgramRows p rows l) files later e
