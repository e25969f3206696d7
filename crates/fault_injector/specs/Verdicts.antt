-- Verdicts: how the run with a group of faults differs from the run without it.
-- The verdict of a group of faults is read off the run with it beside the run without, cycle by cycle.
use Rattle.std.specs.Prelude.{ℕ, suc, ◌==◌, Bool, false, cond, ◌&&◌, List, [], ◌∷◌, Option, Some, None, ℤ}
use Rattle.vcp_base.specs.Differences.{Difference, first_difference}
use Rattle.vcp_base.specs.Kinds.{same_stop}
use Rattle.op_graph.specs.GraphRun.{Cycle, Stop, cycle, initial, outputs, stored}
use Rattle.op_graph.specs.Lists.{Lists}
use Rattle.signature_table.specs.Signatures.{Numbers}
use Rattle.fault_script.specs.declared.act.Fault.{Fault}
use Rattle.fault_script.specs.Changes.{Acts, acts_of}
use Rattle.fault_injector.specs.declared.verdicts.Verdict.{Verdict}
use Rattle.fault_injector.specs.declared.verdicts.Verdict.TheVariants as verdict
use Rattle.fault_injector.specs.FaultRun.{operation_stop, stop_under, followed, fault_run}
use Rattle.fault_injector.specs.Accepted.{RefusedAt, first_unaccepted}

-- ---- the run without the faults, cycle by cycle

-- the cycles over these rows, up to the first that stops, where the cells hold these values
abbrev pub plain_cycles : Lists → List ℤ → List (List ℤ) → List Cycle
plain_cycles g held [] = []
plain_cycles g held (row ∷ rows) = followed operation_stop (λ c. plain_cycles g (stored g c.values) rows) (cycle g held row)

-- ---- one cycle of both runs

-- the run without the faults stops at the same operation with the same kind
abbrev pub stops_alike : Stop → Option Stop → Bool
stops_alike s None = false
stops_alike s (Some other) = s.op == other.op && same_stop s.kind other.kind

-- The verdict of cycle n, if it has one. The first of these cases counts: the run with the faults stops; an output isn't accepted; the other run
-- stops; the output rows differ, the row with the faults being the first of the two.
abbrev pub judged : ℕ → Option Stop → Option RefusedAt → Option Stop → Option Difference → Option Verdict
judged n (Some s) refused other wrong = Some (cond (stops_alike s other) verdict.Same (verdict.Stopped n s.op s.kind))
judged n None (Some r) other wrong = Some (verdict.Refused n r.output r.found r.expected)
judged n None None (Some s) wrong = Some (verdict.RanOn n)
judged n None None None (Some w) = Some (verdict.Wrong n w.place w.first w.second)
judged n None None None None = None

-- the verdict of cycle n of a run under acts, beside the run without
abbrev pub judged_cycle : Numbers → Lists → Acts → ℕ → Cycle → Cycle → Option Verdict
judged_cycle t g acts n c other = judged n (stop_under g c) (first_unaccepted t g acts n 0 g.outputs) (operation_stop other)
    (first_difference (outputs g c.values) (outputs g other.values) 0)

-- ---- whole runs

-- this verdict, or the later one where there is none
abbrev pub verdict_or : Option Verdict → Verdict → Verdict
verdict_or (Some v) later = v
verdict_or None later = later

-- the verdict of the first cycle that has one, from cycle n on; where the cycles end it is Same
abbrev pub compared : Numbers → Lists → Acts → ℕ → List Cycle → List Cycle → Verdict
compared t g acts n [] others = verdict.Same
compared t g acts n (c ∷ cycles) [] = verdict.Same
compared t g acts n (c ∷ cycles) (other ∷ others) = verdict_or (judged_cycle t g acts n c other) (compared t g acts (suc n) cycles others)

-- the verdict of a group of faults over rows of inputs
abbrev pub verdict_of : Numbers → Lists → List Fault → List (List ℤ) → Verdict
verdict_of t g faults rows = compared t g (acts_of faults) 0 (fault_run t g faults rows) (plain_cycles g (initial g) rows)
