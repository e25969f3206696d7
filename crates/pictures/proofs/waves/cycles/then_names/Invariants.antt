use Rattle.std.proofs.Common.{flat_map}
use Rattle.vcp_outside.specs.Elements.{element_text}
use Rattle.pictures.specs.WavesElements.{names_elements}
use Rattle.vcp_outside.specs.Pens.{Goes}
use Rattle.pictures.proofs.waves.cycles.then_names.Given as goal

abbrev pub invariant-columns : goal.invariant-columns
invariant-columns g l = Goes (g.P.Pen.seen l.fn.pen) (g.P.Pen.seen l.pen) (flat_map element_text (names_elements l.run l.class l.x l.y l.column))
