use Rattle.std.proofs.Common.{take, flat_map}
use Rattle.vcp_base.specs.Stops.{told_turn}
use Rattle.run_report.specs.Lines.{turn_text}
use Rattle.vcp_outside.specs.Pens.{Goes}
use Rattle.run_report.proofs.lines.then_turns.Given as goal

abbrev pub invariant-turns : goal.invariant-turns
invariant-turns g l = Goes (g.P.Pen.seen l.fn.pen) (g.P.Pen.seen l.pen) (flat_map (λ t. turn_text (told_turn l.names t)) (take l.i l.turns))
