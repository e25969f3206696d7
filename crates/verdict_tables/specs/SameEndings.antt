-- SameEndings: of the groups with the verdict `same`, how many are never reached, how many died out, and how many are still in a cell at the end, and
-- which these are.
use Rattle.std.specs.Prelude.{ℕ, zero, suc, ◌≡◌, ◌+◌, ◌==◌, Bool, true, false, cond, List, [], ◌∷◌, ◌++◌, length, slice_get, decimal, codes, map, flat_map, Option, Some, None, ℤ}
use Rattle.op_graph.specs.Lists.{Lists}
use Rattle.signature_table.specs.Signatures.{Numbers}
use Rattle.fault_script.specs.declared.act.Fault.{Fault}
use Rattle.fault_script.specs.Groups.{line_of}
use Rattle.fault_injector.specs.declared.verdicts.Verdict.{Verdict}
use Rattle.fault_injector.specs.declared.verdicts.Verdict.TheVariants as verdict
use Rattle.verdict_tables.specs.declared.endless.ending.SameEnding.{SameEnding}
use Rattle.verdict_tables.specs.declared.endless.ending.SameEnding.TheVariants as ends
use Rattle.verdict_tables.specs.declared.parts.Part.{Part}
use Rattle.verdict_tables.specs.Endings.{ending_of}
use Rattle.verdict_tables.specs.Parts.{all_verdicts, mark_of, mark_text}
use Rattle.fault_injector.specs.declared.lines.Totals.{Totals}
use Rattle.fault_injector.specs.FaultLines.{totals_of, totals_text}
use Rattle.verdict_tables.specs.SumText.{fault_text, heading_of, row_text, tables_text, unseen_parts}

-- ---- the endings of groups

-- how the run with a group ends whose verdict is `same`; none of any other
abbrev pub ending_if : Numbers → Lists → List (List ℤ) → List Fault → Verdict → Option SameEnding
ending_if t g rows faults verdict.Same = Some (ending_of t g faults rows)
ending_if t g rows faults (verdict.Wrong cycle output got want) = None
ending_if t g rows faults (verdict.RanOn cycle) = None
ending_if t g rows faults (verdict.Refused cycle output found wanted) = None
ending_if t g rows faults (verdict.Stopped cycle op kind) = None

-- the same of each group of a script
abbrev pub endings_for : Numbers → Lists → List (List ℤ) → List (List Fault) → List Verdict → List (Option SameEnding)
endings_for t g rows [] vs = []
endings_for t g rows (faults ∷ groups) [] = []
endings_for t g rows (faults ∷ groups) (v ∷ vs) = ending_if t g rows faults v ∷ endings_for t g rows groups vs

-- ---- their table

-- the endings in the order of their rows, from 0
abbrev pub ending_number : SameEnding → ℕ
ending_number ends.NeverReached = 0
ending_number ends.DiedOut = 1
ending_number ends.Stands = 2

-- a group is in row n
abbrev pub is_ended : ℕ → Option SameEnding → Bool
is_ended n None = false
is_ended n (Some e) = n == ending_number e

abbrev pub one_if : Bool → ℕ
one_if true = 1
one_if false = 0

-- how many are in row n
abbrev pub ended_count : ℕ → List (Option SameEnding) → ℕ
ended_count n [] = 0
ended_count n (e ∷ endings) = one_if (is_ended n e) + ended_count n endings

-- what row n counts
abbrev pub ending_name : ℕ → List ℕ
ending_name n = cond (n == 0) (codes "never reached") (cond (n == 1) (codes "died out") (codes "stands in a cell"))

-- the totals of so many verdicts `same`
abbrev pub same_only : ℕ → Totals
same_only n = record { same = n; wrong = 0; ran_on = 0; refused = 0; stopped = 0 }

abbrev pub ended_row : ℕ → List (Option SameEnding) → List ℕ
ended_row n endings = row_text (ending_name n) (same_only (ended_count n endings))

-- the table, with a row for each ending that a group has
abbrev pub endings_text : List (Option SameEnding) → List ℕ
endings_text endings = heading_of (codes "by how it ends where it shows nowhere") ++ (ended_row 0 endings ++ (ended_row 1 endings ++ ended_row 2 endings))

-- ---- the groups that stand in a cell

-- a group is one of them
abbrev pub stands : Option SameEnding → Bool
stands e = is_ended (ending_number ends.Stands) e

-- the number of a group's line, behind the mark of its part, and its faults, where it is one of them
abbrev pub standing_text : Lists → Option ℕ → Option (List Fault) → Option (Option SameEnding) → List ℕ
standing_text g mark None e = []
standing_text g mark (Some faults) None = []
standing_text g mark (Some faults) (Some e) =
    cond (stands e) (mark_text mark ++ (decimal (line_of faults) ++ (codes " stands in a cell\n" ++ flat_map (fault_text g) faults))) []

-- the same of the groups below group n
abbrev pub standing_below : Lists → Option ℕ → List (List Fault) → List (Option SameEnding) → ℕ → List ℕ
standing_below g mark groups endings zero = []
standing_below g mark groups endings (suc n) = standing_below g mark groups endings n ++ standing_text g mark (slice_get groups n) (slice_get endings n)

-- of a part, with the endings of its groups
abbrev pub standing_in : Lists → Option ℕ → Option Part → Option (List (Option SameEnding)) → List ℕ
standing_in g mark None endings = []
standing_in g mark (Some p) None = []
standing_in g mark (Some p) (Some endings) = standing_below g mark p.script endings (length endings)

-- and of the parts below part n
abbrev pub standing_parts : Lists → List Part → List (List (Option SameEnding)) → ℕ → List ℕ
standing_parts g parts endings zero = []
standing_parts g parts endings (suc n) =
    standing_parts g parts endings n ++ standing_in g (mark_of (length parts) n) (slice_get parts n) (slice_get endings n)

-- ---- parts

-- the endings of the groups of a part
abbrev pub endings_in : Numbers → Lists → List (List ℤ) → Part → List (Option SameEnding)
endings_in t g rows p = endings_for t g rows p.script p.verdicts

-- those of each part
abbrev pub endings_over : Numbers → Lists → List (List ℤ) → List Part → List (List (Option SameEnding))
endings_over t g rows parts = map (endings_in t g rows) parts

-- those of all groups of all parts
abbrev pub all_endings : List (List (Option SameEnding)) → List (Option SameEnding)
all_endings endings = flat_map (λ (es : List (Option SameEnding)). es) endings

-- there is an ending of each group of each part
abbrev pub AreOf : List (List (Option SameEnding)) → List Part → Type 0
AreOf endings parts = map (λ (es : List (Option SameEnding)). length es) endings ≡ map (λ (p : Part). length p.script) parts

-- ---- the whole text

-- the tables and the one of endings, the verdicts that aren't seen, the groups that stand in a cell, and the totals, of all groups of all parts
abbrev pub sum_apart_text : Lists → List Part → List (List (Option SameEnding)) → List ℕ
sum_apart_text g parts endings =
    tables_text g parts
    ++ (endings_text (all_endings endings)
    ++ (unseen_parts g parts (length parts)
    ++ (standing_parts g parts endings (length parts) ++ totals_text (totals_of (all_verdicts parts)))))
