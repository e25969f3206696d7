-- Endings: what becomes of a group of faults of which no output tells.
use Rattle.std.specs.Prelude.{ℕ, suc, ◌==◌, Bool, true, false, ◌&&◌, ◌||◌, not, nat_lt, List, [], ◌∷◌, length, ℤ}
use Rattle.std.specs.List.{list_any}
use Rattle.std.specs.Ordering.{int_eq}
use Rattle.coded_unit.specs.declared.call.Answer.{Answer}
use Rattle.op_graph.specs.Lists.{Lists}
use Rattle.signature_table.specs.Signatures.{Numbers}
use Rattle.fault_script.specs.declared.act.Fault.{Fault}
use Rattle.fault_script.specs.Changes.{acts_of}
use Rattle.verdict_tables.specs.AnswersOver.{run_answers, held_at_end}
use Rattle.verdict_tables.specs.declared.endless.ending.SameEnding.{SameEnding}
use Rattle.verdict_tables.specs.declared.endless.ending.SameEnding.TheVariants as ends

-- cycle n, of these answers, came to the operation of a fault that stands in it
abbrev pub comes_to : ℕ → List Answer → Fault → Bool
comes_to n own f = f.cycle == n && nat_lt f.op (length own)

-- one of these cycles, the first of which is cycle n, came to one of these faults
abbrev pub is_reached : List Fault → ℕ → List (List Answer) → Bool
is_reached faults n [] = false
is_reached faults n (own ∷ cycles) = list_any (comes_to n own) faults || is_reached faults (suc n) cycles

-- two lists of words differ at a place that both have
abbrev pub words_differ : List ℤ → List ℤ → Bool
words_differ [] others = false
words_differ (w ∷ words) [] = false
words_differ (w ∷ words) (other ∷ others) = not (int_eq w other) || words_differ words others

-- the ending of a group that is reached or not, where the words of the cells at the end of both runs differ or not
abbrev pub ending_by : Bool → Bool → SameEnding
ending_by false differs = ends.NeverReached
ending_by true false = ends.DiedOut
ending_by true true = ends.Stands

-- How the run with a group of faults ends beside the run without: the group is never reached where no cycle of its run comes to one of its faults, it
-- still stands where a cell holds another word at the end, and else its difference has died out.
abbrev pub ending_of : Numbers → Lists → List Fault → List (List ℤ) → SameEnding
ending_of t g faults rows =
    ending_by (is_reached faults 0 (run_answers t g (acts_of faults) rows))
    (words_differ (held_at_end t g (acts_of faults) rows) (held_at_end t g (acts_of []) rows))
