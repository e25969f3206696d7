use Rattle.std.proofs.Common.{◌≡◌, None, drop}
use Rattle.coded_machine.specs.CycleEnds.{first_outside, outputs_of}
use Rattle.vcp_base.specs.Differences.{first_difference}
use Rattle.fault_injector.specs.Begun.{answers_in}
use Rattle.fault_injector.proofs.campaign.reruns.reading.wrong_verdict.Given as goal

abbrev pub invariant-outputs : goal.invariant-outputs
invariant-outputs l =
    let other = answers_in l.other in
    record {
      wrong : first_difference (outputs_of l.graph l.own) (outputs_of l.graph other) 0
          ≡ first_difference (drop l.output (outputs_of l.graph l.own)) (drop l.output (outputs_of l.graph other)) l.output;
      inside : first_outside l.graph.profile l.own (drop l.output l.graph.outputs) ≡ None;
      other_inside : first_outside l.graph.profile other (drop l.output l.graph.outputs) ≡ None;
    }
