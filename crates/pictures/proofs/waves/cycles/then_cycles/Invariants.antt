use Rattle.std.proofs.Common.{flat_map}
use Rattle.vcp_outside.specs.Elements.{element_text}
use Rattle.pictures.specs.WavesElements.{cycles_elements}
use Rattle.vcp_outside.specs.Pens.{Goes}
use Rattle.pictures.proofs.waves.cycles.then_cycles.Given as goal

abbrev pub invariant-cycles : goal.invariant-cycles
invariant-cycles g l = Goes (g.P.Pen.seen l.fn.pen) (g.P.Pen.seen l.pen) (flat_map element_text (cycles_elements l.layout l.run l.period l.cycle))
