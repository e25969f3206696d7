use Rattle.std.proofs.Common.{◌≡◌, ◌≤◌, ℕ, List, length, Option, Some, None}
use Rattle.vcp_base.specs.Limits.{most_cycles}
use Rattle.pictures.specs.RunOf.{told_from}
use Rattle.pictures.specs.Told.{HasWidth}
use Rattle.pictures.proofs.Reading.{onto}
use Rattle.pictures.proofs.waves.lines.read_lines.Given as goal

abbrev pub invariant-lines : goal.invariant-lines
invariant-lines l = record {
  told : (left : List (List (List ℕ))) → l.initial.records.left ≡ Some left
      → (more : List (List (List ℕ))) × (l.records.left ≡ Some more) × (told_from l.width 0 left ≡ onto l.rows (told_from l.width l.cycle more));
  width : HasWidth l.width l.rows;
  count : length l.rows ≡ l.cycle;
  few : l.cycle ≤ most_cycles;
}

abbrev pub records_left : Option (List (List (List ℕ))) → ℕ
records_left None = 0
records_left (Some records) = length records

abbrev pub decreases-lines : goal.decreases-lines
decreases-lines l = records_left l.records.left
