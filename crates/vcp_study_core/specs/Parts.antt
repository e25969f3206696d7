-- Parts: a script for an image and what was printed on it, as their files have them; and all rows of ROWS, and the table of the inputs' ranges.
use Rattle.std.specs.Prelude.{ℕ, ℤ, ◌≡◌, ◌≢◌, ◌⊎◌, ◌≤◌, Bool, true, false, List, ◌∷◌, ◌++◌, length, All, Result, Ok, Err}
use Rattle.std.specs.List.{AllZip}
use Rattle.vcp_base.specs.Limits.{most_rows_bytes, most_source_bytes}
use Rattle.vcp_base.specs.declared.columns.Column.{Column}
use Rattle.vcp_outside.specs.Counts.{Rose}
use Rattle.vcp_outside.specs.Held.{Held}
use Rattle.op_graph.specs.Lists.{Lists}
use Rattle.fault_script.specs.declared.act.Fault.{Fault as FaultOf}
use Rattle.fault_script.specs.declared.script_fault.ScriptFault.{ScriptFault}
use Rattle.fault_script.specs.declared.script_fault.ScriptFault.TheVariants as script_fault
use Rattle.fault_script.specs.ScriptOf.{script_of}
use Rattle.fault_sites.specs.Digest.{digest_of}
use Rattle.fault_injector.specs.declared.verdicts.Verdict.{Verdict}
use Rattle.fault_injector.specs.Names.{Names}
use Rattle.verdict_tables.specs.declared.fault.VerdictsFault.{VerdictsFault}
use Rattle.verdict_tables.specs.declared.fault.VerdictsFault.TheVariants as verdicts_fault
use Rattle.verdict_tables.specs.declared.parts.Part.{Part}
use Rattle.verdict_tables.specs.Reading.{verdicts_in}
use Rattle.verdict_tables.specs.Remark.{is_for}
use Rattle.range_walk.specs.declared.range.Range.{Range}
use Rattle.range_walk.specs.RangeTable.{ranges_of_table}
use Rattle.vcp_inputs.specs.Forms.{Rows}
use Rattle.vcp_inputs.specs.Tables.{rows_name}
use Rattle.vcp_inputs.specs.declared.images.Image.{Image}
use Rattle.vcp_inputs.specs.declared.refusal.NoInput.{NoInput}
use Rattle.vcp_inputs.specs.declared.refusal.NoInput.TheVariants as input
use Rattle.vcp_inputs.specs.declared.refusal.Refusal.{Refusal}
use Rattle.vcp_inputs.specs.declared.refusal.Refusal.TheVariants as refusal
use Rattle.vcp_inputs.specs.Files.{Loads}
use Rattle.vcp_inputs.specs.RowsOutcome.{RowsOutcome, lacking, rows_outcome}
use Rattle.vcp_inputs.specs.RowsRead.{AllRead, RowsBroken, graph_columns}
use Rattle.vcp_study_core.specs.declared.fault.StudyRefusal.TheVariants as why
use Rattle.vcp_inputs.specs.Answer.{Answer}
use Rattle.vcp_study_core.specs.Forms.{PartNames}
use Rattle.vcp_study_core.specs.FromFiles.{FromFiles, got, ends_by, input_answer, own_answer, memory_answer, OfLoads, OfText}

-- ---- texts

-- the digits of an image's digest
abbrev pub digits : Image → List ℕ
digits i = digest_of i.graph i.table.seed i.table.step

-- the text of a script names this image, or none
abbrev pub is_of : Image → List ℕ → Bool
is_of i text = is_for (digits i) text

-- the script that the text of the file under a name is for an image; or it names another image, or a line is refused; or memory was wanted
pub data ScriptIn (i : Image) (name text : List ℕ) : FromFiles (List (List FaultOf)) → Type 0 where
  script : (groups : List (List FaultOf)) → is_of i text ≡ true → script_of i.graph text ≡ Ok groups → ScriptIn i name text (got groups)
  of_another : is_of i text ≡ false → ScriptIn i name text (ends_by (own_answer name why.Image))
  no_script : (f : ScriptFault) → is_of i text ≡ true → f ≢ script_fault.Memory → script_of i.graph text ≡ Err f
      → ScriptIn i name text (ends_by (input_answer name (input.Refused (refusal.Script f))))
  script_unmade : ScriptIn i name text (ends_by memory_answer)

-- a text has these verdicts of the groups: one of each, and they name outputs and operations that the graph has
pub record AreTold (g : Lists) (groups : List (List FaultOf)) (text : List ℕ) (vs : List Verdict) : Type 0 where
  pub read : verdicts_in g groups text ≡ Ok vs
  pub names : All (Names (length g.outputs) (length g.operations)) vs
  pub many : length vs ≡ length groups

-- the verdicts that the text of the file under a name tells of the groups, or the line that is refused; or memory was wanted
pub data VerdictsIn (g : Lists) (groups : List (List FaultOf)) (name text : List ℕ) : FromFiles (List Verdict) → Type 0 where
  verdicts : (vs : List Verdict) → AreTold g groups text vs → VerdictsIn g groups name text (got vs)
  no_verdicts : (f : VerdictsFault) → f ≢ verdicts_fault.Memory → verdicts_in g groups text ≡ Err f
      → VerdictsIn g groups name text (ends_by (own_answer name (why.Verdicts f)))
  verdicts_unmade : VerdictsIn g groups name text (ends_by memory_answer)

-- ---- parts

abbrev pub ScriptFrom : Image → PartNames → Held → ℕ → ℕ → FromFiles (List (List FaultOf)) → Type 0
ScriptFrom i names held b n r = OfText (ScriptIn i names.script) names.script most_source_bytes held b n r

abbrev pub VerdictsFrom : Lists → List (List FaultOf) → PartNames → Held → ℕ → ℕ → FromFiles (List Verdict) → Type 0
VerdictsFrom g groups names held b n r = OfText (VerdictsIn g groups names.verdicts) names.verdicts most_rows_bytes held b n r

-- the part of a campaign that the files under its names have; the script comes first
pub data PartFrom (i : Image) (names : PartNames) (held : Held) (b n : ℕ) : FromFiles Part → Type 0 where
  part : (p : Part) (k : ℕ) → b ≤ k → ScriptFrom i names held b k (got p.script) → VerdictsFrom i.graph p.script names held k n (got p.verdicts)
      → PartFrom i names held b n (got p)
  without_script : (x : Answer) → ScriptFrom i names held b n (ends_by x) → PartFrom i names held b n (ends_by x)
  without_verdicts : (groups : List (List FaultOf)) (k : ℕ) → b ≤ k → ScriptFrom i names held b k (got groups) → (x : Answer)
      → VerdictsFrom i.graph groups names held k n (ends_by x) → PartFrom i names held b n (ends_by x)

-- there is a part of each of these names, in their order
abbrev pub AreParts : Image → Held → List PartNames → List Part → Type 0
AreParts i held names parts = AllZip (λ name p. (b n : ℕ) × PartFrom i name held b n (got p)) names parts

-- all parts; or those before one are there, and it isn't; or memory was wanted
pub data PartsFrom (i : Image) (names : List PartNames) (held : Held) (b n : ℕ) : FromFiles (List Part) → Type 0 where
  all_parts : (parts : List Part) → AreParts i held names parts → PartsFrom i names held b n (got parts)
  without_part : (front : List PartNames) (one : PartNames) (behind : List PartNames) → names ≡ front ++ one ∷ behind → (parts : List Part)
      → AreParts i held front parts → (k : ℕ) → b ≤ k → (x : Answer) → PartFrom i one held k n (ends_by x) → PartsFrom i names held b n (ends_by x)
  parts_unmade : PartsFrom i names held b n (ends_by memory_answer)

-- ---- rows, and ranges

-- why there are no rows: their file is lacking or couldn't be read, they are refused, or memory was wanted
abbrev pub LacksRows : RowsOutcome → ℕ → ℕ → NoInput → Type 0
LacksRows o b n input.Unread = (o ≡ lacking) ⊎ Rose b n
LacksRows o b n (input.Refused r) = RowsBroken o r
LacksRows o b n input.Memory = Unit {0}

-- what is read of ROWS: all rows, or why there are none
abbrev pub ReadsRows : RowsOutcome → ℕ → ℕ → Result (List (List ℤ)) NoInput → Type 0
ReadsRows o b n (Ok rows) = AllRead o rows
ReadsRows o b n (Err why) = LacksRows o b n why

-- all rows of ROWS for an image's inputs
abbrev pub RowsFrom : Rows → Image → Held → ℕ → ℕ → FromFiles (List (List ℤ)) → Type 0
RowsFrom rows i held b n r = OfLoads (ReadsRows (rows_outcome rows held (graph_columns i.graph)) b n) (rows_name rows) r

-- a text is a table that tells these ranges of these inputs
abbrev pub TellsRanges : List Column → List ℕ → List Range → Type 0
TellsRanges columns text inputs = ranges_of_table columns text ≡ Ok inputs

-- a text is refused as a table of the ranges of these inputs
abbrev pub NotTable : List Column → List ℕ → Refusal → Type 0
NotTable columns text (refusal.Rows f) = ranges_of_table columns text ≡ Err f
NotTable columns text _ = ⊥

-- the ranges of an image's inputs that the table under a name tells
abbrev pub RangesFrom : List ℕ → Image → Held → ℕ → ℕ → FromFiles (List Range) → Type 0
RangesFrom name i held b n r =
    OfLoads (Loads (TellsRanges (graph_columns i.graph)) (NotTable (graph_columns i.graph)) held name most_source_bytes b n) name r
