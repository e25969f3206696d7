use Rattle.std.proofs.Common.{take, flat_map, ◌++◌}
use Rattle.vcp_outside.specs.Elements.{element_text}
use Rattle.pictures.specs.Elements.{style, sample_of}
use Rattle.vcp_outside.specs.Pens.{Goes}
use Rattle.pictures.proofs.legend.then_legend.Given as goal

abbrev pub invariant-samples : goal.invariant-samples
invariant-samples g l = Goes (g.P.Pen.seen l.fn.pen) (g.P.Pen.seen l.pen) (element_text (style l.rules) ++ flat_map (λ s. flat_map element_text (sample_of s)) (take l.i l.samples))
