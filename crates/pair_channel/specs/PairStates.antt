-- PairStates: what a pair is between two calls.
use Rattle.std.specs.Prelude.{ℕ, ◌≡◌, ◌≢◌, ◌+◌, ◌⊎◌, List, Option, Some, None, ℤ}
use Rattle.coded_unit.specs.declared.call.Answer.{Answer}
use Rattle.op_graph.specs.Lists.{Lists}
use Rattle.signature_table.specs.Signatures.{Numbers}
use Rattle.coded_machine.specs.State.{State, fresh, Awaits, Finished, with_answer}
use Rattle.pair_channel.specs.declared.pair_end.PairEnd.{PairEnd}
use Rattle.pair_channel.specs.declared.pair_end.PairEnd.TheVariants as pair

-- A pair: the machine of each channel; the number of cycles that the pair released; and the end that is repeated, where one came that
-- was no release.
pub record PairState : Type 0 where
  pub first : State
  pub second : State
  pub cycles : ℕ
  pub ended : Option PairEnd

-- before the first cycle, for the tables of the two channels
abbrev pub fresh_pair : Lists → Numbers → Numbers → PairState
fresh_pair g t u = record { first = fresh g t; second = fresh g u; cycles = 0; ended = None }

-- a call of the first channel is to be made in this cycle, and no end is repeated
abbrev pub PairAwaits : PairState → Type 0
PairAwaits p = (p.ended ≡ None) × Awaits p.first

-- no call of the first channel is to be made: its cycle has all its answers, or an end is repeated
abbrev pub PairFinished : PairState → Type 0
PairFinished p = (p.ended ≢ None) ⊎ Finished p.first

-- with one more answer in the first channel's cycle
abbrev pub pair_with_answer : PairState → Answer → PairState
pair_with_answer p a = record p { first = with_answer p.first a }

-- how many cycles are released after one of this end
abbrev pub cycles_after : PairEnd → ℕ → ℕ
cycles_after pair.Released n = n + 1
cycles_after e n = n

-- the end that is repeated after a cycle of this end: a release is not
abbrev pub ended_after : PairEnd → Option PairEnd
ended_after pair.Released = None
ended_after e = Some e

-- After a cycle that left the machines so: a release is counted, and any other end is repeated from then on.
abbrev pub after_pair : PairState → State → State → PairEnd → PairState
after_pair p first second e = record { first = first; second = second; cycles = cycles_after e p.cycles; ended = ended_after e }

-- the caller's row of outputs after a cycle: a release sets it, and any other end leaves it
abbrev pub pair_row_after : PairEnd → List ℤ → List ℤ → List ℤ
pair_row_after pair.Released row out = row
pair_row_after e row out = out
