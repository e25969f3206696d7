-- Writing: how far a cover is written.
use Rattle.std.specs.Prelude.{◌≡◌, ℕ, ◌++◌, ◌<◌, ◌^◌, Bool, List, Result, Ok, Err, length}
use Rattle.std.specs.Io.KnownBytes.{Appends}
use Rattle.vcp_outside.specs.Counts.{Rose}
use Rattle.vcp_outside.specs.Seen.{SinkSeen}
use Rattle.vcp_outside.specs.Written.{AppendsPart}
use Rattle.op_graph.specs.Lists.{Lists}
use Rattle.range_walk.specs.declared.range.Stops.{Stops}
use Rattle.signature_table.specs.Signatures.{Numbers}
use Rattle.fault_sites.specs.Sites.{each_below}
use Rattle.fault_cover.specs.declared.class.CoverClass.{CoverClass}
use Rattle.fault_cover.specs.declared.class.CoverClasses.{CoverClasses}
use Rattle.fault_cover.specs.declared.counting.ClassCount.{ClassCount}
use Rattle.fault_cover.specs.declared.left.LeftLine.{LeftLine}
use Rattle.fault_cover.specs.declared.tally.Tally.{Tally}
use Rattle.fault_cover.specs.declared.writing.Uncovered.{Uncovered}
use Rattle.fault_cover.specs.declared.writing.Uncovered.TheVariants as uncovered
use Rattle.fault_cover.specs.Counts.{AreCounted}
use Rattle.fault_cover.specs.CoverText.{CoverOf, Covered, class_name, heard_at, heard_of, lines_text, row_text, sum_of, tables_text, tally, totals_line}
use Rattle.fault_cover.specs.Leftovers.{AreCovered, lines_at}
use Rattle.fault_cover.specs.Surveys.{IsSurvey, Surveyed}
use Rattle.fault_cover.specs.Telling.{Subject, subject}

-- The cover is written, and it is found whether something is reported of a fault that is neither `refused` nor `nothing`; or a part of it is written, where
-- the sink failed; or memory was lacking, and nothing is written.
abbrev pub WritesCover : Subject → CoverClasses → List ℕ → SinkSeen → SinkSeen → Result Bool Uncovered → Type 0
WritesCover s classes digest old new (Ok left) = (text : List ℕ) × CoverOf s classes digest text left × Appends old.written new.written text
WritesCover s classes digest old new (Err uncovered.Failed) =
    (text : List ℕ) × (left : Bool) × CoverOf s classes digest text left × AppendsPart old.written new.written text × Rose old.faults new.faults
WritesCover s classes digest old new (Err uncovered.Memory) = new ≡ old

-- what is found of all faults of these classes, by which their cover is written
pub record IsFound (s : Subject) (classes : List CoverClass) (counts : List ClassCount) (all : Tally) (lines : List LeftLine) : Type 0 where
  pub covered : List Covered
  pub are : AreCovered s classes covered
  pub counted_are : AreCounted counts covered
  pub all_is : all ≡ tally (heard_of covered)
  pub lines_are : lines ≡ each_below (λ k. lines_at s.graph s.horizon (heard_at covered k) k) (length s.graph.operations)

-- by a survey, whatever the operations that may stop by which it is one
abbrev pub Finds : Lists → Numbers → Surveyed → List CoverClass → List ClassCount → Tally → List LeftLine → Type 0
Finds g t v classes counts all lines =
    (stops : List Stops) → IsSurvey (subject g t v.horizon stops) v → IsFound (subject g t v.horizon stops) classes counts all lines

-- the cover without its remark and its last LF
abbrev pub body_text : Lists → ℕ → List Covered → List ℕ
body_text g horizon covered = tables_text covered ++ (lines_text g horizon covered ++ totals_line (tally (heard_of covered)))

-- the row of a class by what is counted of it, and that counts are no greater than what a row takes
abbrev pub count_row : ClassCount → List ℕ
count_row n = row_text (class_name n.class) n.counting.tally

abbrev pub IsSmall : ClassCount → Type 0
IsSmall n = sum_of n.counting.tally < 2 ^ 63
