use Rattle.std.proofs.Common.{length}
use Rattle.run_report.specs.Lines.{AreNamed}
use Rattle.run_report.proofs.Turns.{Told}
use Rattle.vcp_outside.specs.Pens.{Goes}
use Rattle.run_report.proofs.graph_stop.then_turns_round.Given as goal

abbrev pub invariant-turns : goal.invariant-turns
invariant-turns g l = record {
  told : Told l.graph.names l.initial.turns l.turns
      (λ text. Goes (g.P.Pen.seen l.fn.pen) (g.P.Pen.seen l.pen) text);
  named : AreNamed l.turns l.graph.names;
}

abbrev pub decreases-turns : goal.decreases-turns
decreases-turns g l = length l.turns
