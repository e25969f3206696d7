use Rattle.std.proofs.Common.{ap, ◌∙◌}
use Rattle.coded_machine.specs.State.{State}
use Rattle.vcp_study.proofs.play.calls.machines.perform_calls.Goals as goal

pub calls-preserved : goal.calls-preserved
calls-preserved c = record {
  graph = ap (λ (s : State). s.graph) c.put.ensures ∙ c.calls.invariant.graph;
  cycles = ap (λ (s : State). s.cycles) c.put.ensures ∙ c.calls.invariant.cycles;
}
