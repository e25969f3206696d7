-- Beside: a pair's run in which the graph's run on plain integers takes the place of the second channel.
use Rattle.std.specs.Prelude.{ℕ, suc, ◌≡◌, List, [], ◌∷◌, ℤ}
use Rattle.coded_unit.specs.declared.call.Answer.{Answer}
use Rattle.op_graph.specs.Lists.{Lists}
use Rattle.op_graph.specs.GraphRun.{Cycle, cycle, outputs, stored}
use Rattle.signature_table.specs.Signatures.{Numbers}
use Rattle.coded_machine.specs.Calls.{Whole}
use Rattle.coded_machine.specs.CycleEnds.{end_of, outputs_of}
use Rattle.coded_machine.specs.Honest.{end_for}
use Rattle.pair_channel.specs.declared.pair_end.PairEnd.{PairEnd}
use Rattle.pair_channel.specs.declared.pair_end.PairEnd.TheVariants as pair
use Rattle.pair_channel.specs.PairEnds.{both}
use Rattle.pair_channel.specs.PairRuns.{PairOutcome, pair_then, unless_over}

-- the end of cycle n, by the first channel's answers and the graph's cycle
abbrev pub beside_end : Lists → Numbers → ℕ → List Answer → Cycle → PairEnd
beside_end g t n answers c = both (end_of g t n answers) (end_for c) (outputs_of g answers) (outputs g c.values)

-- The outcome of the cycles from n on over these rows, by the first channel's answers: the second channel's end and row in each cycle are
-- those of the graph's cycle, whose cells hold these values at first.
abbrev pub beside : Lists → Numbers → ℕ → List ℤ → List (List ℤ) → List (List Answer) → PairOutcome
beside g t n held rows [] = record { rows = []; end = pair.Released }
beside g t n held [] (answers ∷ cycles) = record { rows = []; end = pair.Released }
beside g t n held (row ∷ rows) (answers ∷ cycles) =
    pair_then (beside_end g t n answers (cycle g held row)) (outputs_of g answers) (beside g t (suc n) (stored g (cycle g held row).values) rows cycles)

-- The first channel's answers in the cycles from n on are those of such a run over these rows: a whole cycle for each row, up to the first
-- cycle that isn't released, and none after it.
abbrev pub AllBeside : Lists → Numbers → ℕ → List ℤ → List (List ℤ) → List (List Answer) → Type 0
AllBeside g t n held [] [] = Unit {0}
AllBeside g t n held [] (answers ∷ cycles) = ⊥
AllBeside g t n held (row ∷ rows) [] = ⊥
AllBeside g t n held (row ∷ rows) (answers ∷ cycles) =
    Whole g.operations answers × unless_over (beside_end g t n answers (cycle g held row))
    (AllBeside g t (suc n) (stored g (cycle g held row).values) rows cycles) (cycles ≡ [])
