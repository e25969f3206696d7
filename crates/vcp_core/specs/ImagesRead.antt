-- ImagesRead: the commands that read an image and then ROWS, and what stands when both were read.
use Rattle.std.specs.Prelude.{ℕ, ◌≡◌, ◌<◌, ◌≤◌, List, length, Option, Some, None}
use Rattle.vcp_base.specs.Limits.{most_cycles, most_image_bytes, most_names, seeds}
use Rattle.vcp_outside.specs.Seen.{FilesSeen}
use Rattle.signature_table.specs.Signatures.{table_of}
use Rattle.coded_machine.specs.Moments.{Moment}
use Rattle.vcp_inputs.specs.Forms.{Form, Rows, exec, trace, inject, pair, pairs}
use Rattle.vcp_inputs.specs.declared.words.command.ImageRun.{ImageRun}
use Rattle.vcp_inputs.specs.declared.words.command.ImageRun.TheVariants as how
use Rattle.vcp_inputs.specs.declared.words.command.SingleRun.{SingleRun}
use Rattle.vcp_inputs.specs.declared.words.command.SingleRun.TheVariants as single
use Rattle.vcp_inputs.specs.Images.{ImageOf, NotImage}
use Rattle.input_rows.specs.Opening.{HasFewCycles}
use Rattle.vcp_inputs.specs.RowsRead.{graph_columns}
use Rattle.vcp_inputs.specs.Abouts.{about}
use Rattle.vcp_inputs.specs.Performing.{Performs}
use Rattle.vcp_core.specs.declared.image_rows.ImageRows.{ImageRows}
use Rattle.vcp_core.specs.Loading.{BothRead}
use Rattle.vcp_core.specs.Tasks.{TaskOf}

-- The commands that read M and then ROWS. Those on two channels name the seed of the second.
pub data ReadsImageRows (m : List ℕ) (rows : Rows) : Option ℕ → Form → Type 0 where
  executing : ReadsImageRows m rows None (exec m rows)
  tracing : (n : ℕ) → ReadsImageRows m rows None (trace m rows n)
  injecting : (f : List ℕ) → ReadsImageRows m rows None (inject m rows f)
  comparing : (seed : ℕ) → ReadsImageRows m rows (Some seed) (pair m rows seed)
  pairing : (seed : ℕ) (f : List ℕ) → ReadsImageRows m rows (Some seed) (pairs m rows seed f)

-- the seed of the second channel of a run, where it has one
abbrev pub second_of_single : SingleRun → Option ℕ
second_of_single single.Exec = None
second_of_single (single.Trace n) = None
second_of_single (single.Pair seed) = Some seed

abbrev pub second_of : ImageRun → Option ℕ
second_of (how.Single run) = second_of_single run
second_of (how.Faults second f) = second

-- the cycle of a run, or the seed of its second channel, is in its range
abbrev pub IsInRange : SingleRun → Type 0
IsInRange single.Exec = Unit {0}
IsInRange (single.Trace n) = n < most_cycles
IsInRange (single.Pair seed) = seed < seeds

-- the columns are those of the graph's inputs, the table is the graph's, and there are few cycles
pub record AreImageRows (r : ImageRows) : Type 0 where
  pub columns : r.columns ≡ graph_columns r.image.graph
  pub table : r.image.table ≡ table_of r.image.table.seed r.image.table.step r.image.graph
  pub few : HasFewCycles r.rows
  pub narrow : length r.columns ≤ most_names

-- M and ROWS were read, before which the files were others
abbrev pub ImageRowsRead : List ℕ → Rows → FilesSeen → FilesSeen → ImageRows → Type 0
ImageRowsRead m rows files later r = BothRead ImageOf NotImage most_image_bytes m rows files later r.image r.columns r.rows

-- then a command goes on and is performed, the one of a name of M
abbrev pub PerformsOn : (List ℕ → Form) → Rows → ImageRows → FilesSeen → FilesSeen → Moment → Moment → List ℕ → ℕ → Type 0
PerformsOn command rows r mid later before after line code =
    (m : List ℕ) (files : FilesSeen) → ImageRowsRead m rows files mid r →
    Performs (about (command m)) (TaskOf (command m)) files later before after line code
