-- Accepted: which outputs are released under acts, by an equation over multipliers, signatures, the step and the scripts' numbers; and how a
-- machine ends a cycle of such a run.
use Rattle.std.specs.Prelude.{◌≡◌, ◌<◌, ℕ, suc, ◌==◌, cond, List, [], ◌∷◌, Option, Some, None, ℤ, pos, ◌+ℤ◌}
use Rattle.vcp_base.specs.Limits.{most_cycles}
use Rattle.coded_unit.specs.declared.call.Answer.{Answer}
use Rattle.coded_unit.specs.Words.{modulo}
use Rattle.op_graph.specs.declared.op.Outlet.{Outlet}
use Rattle.op_graph.specs.GraphRun.{Stop, outputs}
use Rattle.op_graph.specs.Lists.{Lists}
use Rattle.op_graph.specs.Rules.{IsGraph}
use Rattle.signature_table.specs.Signatures.{Numbers, IsTable, expected}
use Rattle.coded_machine.specs.declared.cycle_end.CycleEnd.{CycleEnd}
use Rattle.coded_machine.specs.declared.cycle_end.CycleEnd.TheVariants as end
use Rattle.coded_machine.specs.CycleEnds.{end_of, outputs_of}
use Rattle.fault_script.specs.Changes.{Acts}
use Rattle.fault_script.specs.Differences.{Frame, difference_at}
use Rattle.fault_injector.specs.FaultRun.{begun, cycle_under, stop_under}
use Rattle.fault_injector.specs.RunLaw.{answers_under}

-- the output is accepted in cycle n: the difference of its OUT is 0, modulo A
abbrev pub Accepted : Numbers → Lists → Acts → ℕ → Outlet → Type 0
Accepted t g acts n o = modulo t.profile (difference_at t g acts n o.op) ≡ 0

-- an output that is refused: its number, the residue that its word has, and the expected one
pub record RefusedAt : Type 0 where
  pub output : ℕ
  pub found : ℕ
  pub expected : ℕ

-- the residue of the word of operation k in cycle n
abbrev pub residue_under : Numbers → Lists → Acts → ℕ → ℕ → ℕ
residue_under t g acts n k = modulo t.profile (pos (expected t.profile t.seed t.step k n) +ℤ difference_at t g acts n k)

-- the first of these outputs, which are counted from `number`, that is not accepted in cycle n
abbrev pub first_unaccepted : Numbers → Lists → Acts → ℕ → ℕ → List Outlet → Option RefusedAt
first_unaccepted t g acts n number [] = None
first_unaccepted t g acts n number (o ∷ outputs) =
    cond (modulo t.profile (difference_at t g acts n o.op) == 0)
    (first_unaccepted t g acts n (suc number) outputs)
    (Some (record { output = number; found = residue_under t g acts n o.op; expected = expected t.profile t.seed t.step o.op n }))

-- ---- how a machine ends a cycle

-- the end of a cycle that stops so, or else has this output that isn't accepted, or none
abbrev pub ending : Option Stop → Option RefusedAt → CycleEnd
ending (Some s) r = end.Stopped s.op s.kind
ending None (Some r) = end.Refused r.output r.found r.expected
ending None None = end.Released

-- Where the answers of a cycle keep the run law, its end as the machine reads it off them is its stop; or else a refusal of the first output whose
-- equation doesn't hold, with both residues; or else a release. So an output of a cycle that ends without a stop is accepted exactly where its
-- equation over signatures and stamps holds, as long as those before it are.
abbrev pub EndsAreRead : Type 0
EndsAreRead =
    (t : Numbers) (g : Lists) (acts : Acts) (n : ℕ) (past : Frame) (held row : List ℤ) (answers : List Answer) → IsGraph g → IsTable t →
    t.profile ≡ g.profile → n < most_cycles →
    answers ≡ answers_under (begun t g acts n past held row) (cycle_under (begun t g acts n past held row)) →
    end_of g t n answers
    ≡ ending (stop_under g (cycle_under (begun t g acts n past held row))) (first_unaccepted t g acts n 0 g.outputs)

-- Where such a cycle doesn't stop, the row of outputs that is read off its answers has the values of the run under the acts.
abbrev pub OutputsAreRead : Type 0
OutputsAreRead =
    (t : Numbers) (g : Lists) (acts : Acts) (n : ℕ) (past : Frame) (held row : List ℤ) (answers : List Answer) → IsGraph g → IsTable t →
    t.profile ≡ g.profile → n < most_cycles →
    answers ≡ answers_under (begun t g acts n past held row) (cycle_under (begun t g acts n past held row)) →
    stop_under g (cycle_under (begun t g acts n past held row)) ≡ None →
    outputs_of g answers ≡ outputs g (cycle_under (begun t g acts n past held row)).values
