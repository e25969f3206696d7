-- PairVerdicts: what a pair of channels makes of a run with a group of faults in the first channel.
use Rattle.std.specs.Prelude.{ℕ, ℤ, List, length, map}
use Rattle.op_graph.specs.Lists.{Lists}
use Rattle.signature_table.specs.Signatures.{Numbers}
use Rattle.fault_script.specs.declared.act.Fault.{Fault}
use Rattle.fault_injector.specs.declared.verdicts.Verdict.{Verdict}
use Rattle.fault_injector.specs.declared.verdicts.Verdict.TheVariants as verdict
use Rattle.fault_injector.specs.Campaign.{verdicts_of}
use Rattle.pair_channel.specs.declared.pair_end.PairEnd.{PairEnd}
use Rattle.pair_channel.specs.declared.pair_end.PairEnd.TheVariants as pair
use Rattle.pair_channel.specs.PairRuns.{PairOutcome}
use Rattle.fault_injector.specs.declared.campaign.pairs.verdict.PairVerdict.{PairVerdict}
use Rattle.fault_injector.specs.declared.campaign.pairs.verdict.PairVerdict.TheVariants as held

-- the verdict of a run whose last cycle, with this number, the pair ended so
abbrev pub verdict_at : ℕ → PairEnd → PairVerdict
verdict_at n pair.Released = held.Same
verdict_at n (pair.Stopped op why) = held.Same
verdict_at n (pair.Parted first second) = held.Held n
verdict_at n (pair.Differ output first second) = held.Held n

-- the verdict that is read off the outcome of a pair's run: its end comes in the cycle after those that were released
abbrev pub verdict_read : PairOutcome → PairVerdict
verdict_read o = verdict_at (length o.rows) o.end

-- What a verdict on one channel is on a pair: a fault that shows in a cycle, whatever by, is held in that cycle.
abbrev pub told_verdict : Verdict → PairVerdict
told_verdict verdict.Same = held.Same
told_verdict (verdict.Wrong cycle output got want) = held.Held cycle
told_verdict (verdict.RanOn cycle) = held.Held cycle
told_verdict (verdict.Refused cycle output found wanted) = held.Held cycle
told_verdict (verdict.Stopped cycle op kind) = held.Held cycle

-- the defined verdict of each group over these rows of inputs, as a pair tells it
abbrev pub told_verdicts : Numbers → Lists → List (List Fault) → List (List ℤ) → List PairVerdict
told_verdicts t g groups rows = map told_verdict (verdicts_of t g groups rows)
