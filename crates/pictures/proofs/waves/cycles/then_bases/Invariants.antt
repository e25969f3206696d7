use Rattle.std.proofs.Common.{flat_map}
use Rattle.vcp_outside.specs.Elements.{element_text}
use Rattle.pictures.specs.WavesElements.{bases_elements}
use Rattle.vcp_outside.specs.Pens.{Goes}
use Rattle.pictures.proofs.waves.cycles.then_bases.Given as goal

abbrev pub invariant-columns : goal.invariant-columns
invariant-columns g l = Goes (g.P.Pen.seen l.fn.pen) (g.P.Pen.seen l.pen) (flat_map element_text (bases_elements l.layout l.run l.column))
