use Rattle.std.proofs.Common.{◌≡◌, ◌++◌, None, drop, take, length, map}
use Rattle.coded_unit.specs.Words.{value_part}
use Rattle.op_graph.specs.declared.op.Outlet.{Outlet}
use Rattle.coded_machine.specs.Calls.{word_at}
use Rattle.coded_machine.specs.CycleEnds.{first_outside, outputs_of}
use Rattle.coded_machine.proofs.releasing.set_outputs.Given as goal

abbrev pub invariant-outputs : goal.invariant-outputs
invariant-outputs l = record {
  cells : length l.out ≡ length l.graph.outputs;
  inside : first_outside l.graph.profile l.answers (drop l.i l.graph.outputs) ≡ None;
  values : outputs_of l.graph l.answers
      ≡ take l.i l.out ++ map (λ (o : Outlet). value_part l.graph.profile (word_at l.answers o.op)) (drop l.i l.graph.outputs);
}
