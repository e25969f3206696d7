-- FileTasks: the tasks of files, each of which is accepted or rejected: one shape for all.
use Rattle.std.specs.Prelude.{ℕ, ◌≡◌, ◌≤◌, List, length, Option, Some, None}
use Rattle.vcp_base.specs.Limits.{most_image_bytes, most_source_bytes}
use Rattle.vcp_base.specs.declared.columns.Column.{Column}
use Rattle.vcp_outside.specs.Held.{Held}
use Rattle.st_tree.specs.ProgramTree.{ProgramTree}
use Rattle.input_rows.specs.RowsOf.{RowsLeft}
use Rattle.vcp_typed.specs.SourceRun.{Program}
use Rattle.op_graph.specs.Lists.{Lists}
use Rattle.fault_script.specs.declared.act.Fault.{Fault}
use Rattle.il_front.specs.Accumulator.{Il}
use Rattle.il_front.specs.Answers.{IsIl, most_il_bytes}
use Rattle.vcp_inputs.specs.Forms.{Rows}
use Rattle.vcp_inputs.specs.Tables.{rows_name}
use Rattle.vcp_inputs.specs.declared.images.Image.{Image}
use Rattle.vcp_inputs.specs.declared.refusal.Refusal.{Refusal}
use Rattle.vcp_inputs.specs.Files.{IsRefused}
use Rattle.vcp_inputs.specs.Images.{ImageOf, NotImage}
use Rattle.vcp_inputs.specs.Listings.{NotListing}
use Rattle.vcp_inputs.specs.Programs.{IsProgram, NoProgram, TypedOf, NotTyped}
use Rattle.vcp_inputs.specs.RowsOutcome.{RowsOutcome, lacking, refused, opened, rows_outcome}
use Rattle.vcp_inputs.specs.Scripts.{ScriptOf, NotScript}
use Rattle.vcp_inputs.specs.Wires.{WireOf, NotWire}
use Rattle.telegram.specs.declared.script.script.WireScript.{WireScript}
use Rattle.vcp_inputs.specs.Kinds.{Task, lacks, refusal_task}

-- What the file under a name comes to, of which these are the bytes, if there are any. It is lacking; or it is refused, since it has more
-- bytes than the limit or for the reason why a text is no such thing; or it is such a thing, and comes to what is said of that.
pub data TakenFile {V : Type 0} (Is : List ℕ → V → Type 0) (Why : List ℕ → Refusal → Type 0) (most : ℕ) (Then : V → Task → Type 0)
    (name : List ℕ) (found : Option (List ℕ)) : Task → Type 0 where
  missing : found ≡ None → TakenFile Is Why most Then name found (lacks name)
  untaken : (bytes : List ℕ) (r : Refusal) → found ≡ Some bytes → IsRefused Why most bytes r → TakenFile Is Why most Then name found (refusal_task name r)
  taken : (bytes : List ℕ) (v : V) (task : Task) → found ≡ Some bytes → length bytes ≤ most → Is bytes v → Then v task
      → TakenFile Is Why most Then name found task

-- the file P, of whose tree this is said
abbrev pub ParsedFile : (ProgramTree → Task → Type 0) → List ℕ → Held → Task → Type 0
ParsedFile Then p held task = TakenFile IsProgram NoProgram most_source_bytes Then p (held p) task

-- the file P, of whose typed program this is said
abbrev pub TypedFile : (Program → Task → Type 0) → List ℕ → Held → Task → Type 0
TypedFile Then p held task = TakenFile TypedOf NotTyped most_source_bytes Then p (held p) task

-- the file P of an instruction list, of which this is said
abbrev pub ListingFile : (Il → Task → Type 0) → List ℕ → Held → Task → Type 0
ListingFile Then p held task = TakenFile IsIl NotListing most_il_bytes Then p (held p) task

-- the file M, of whose image this is said
abbrev pub ImageFile : (Image → Task → Type 0) → List ℕ → Held → Task → Type 0
ImageFile Then m held task = TakenFile ImageOf NotImage most_image_bytes Then m (held m) task

-- the file F, of whose groups of faults over a graph this is said
abbrev pub ScriptFile : Lists → (List (List Fault) → Task → Type 0) → List ℕ → Held → Task → Type 0
ScriptFile g Then f held task = TakenFile (ScriptOf g) (NotScript g) most_source_bytes Then f (held f) task

-- the file F, of whose script of a wire this is said
abbrev pub WireFile : (WireScript → Task → Type 0) → List ℕ → Held → Task → Type 0
WireFile Then f held task = TakenFile WireOf NotWire most_source_bytes Then f (held f) task

-- ---- ROWS

-- what rows come to that are told by this name, of which this is said where they are opened
abbrev pub OnRows : List ℕ → (RowsLeft → Task → Type 0) → RowsOutcome → Task → Type 0
OnRows name Then lacking task = task ≡ lacks name
OnRows name Then (refused r) task = task ≡ refusal_task name r
OnRows name Then (opened left) task = Then left task

-- ROWS, of whose rows for inputs of these columns this is said
abbrev pub TakenRows : (RowsLeft → Task → Type 0) → Rows → Held → List Column → Task → Type 0
TakenRows Then rows held columns task = OnRows (rows_name rows) Then (rows_outcome rows held columns) task
