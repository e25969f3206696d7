use Rattle.std.proofs.Common.{flat_map, take}
use Rattle.vcp_outside.specs.Pens.{Goes}
use Rattle.fault_cover.specs.Classes.{singles}
use Rattle.fault_cover.specs.CoverText.{shows_text}
use Rattle.fault_cover.specs.Passing.{Passing}
use Rattle.fault_cover.proofs.writing.then_showing.Given as goal

abbrev pub invariant-classes : goal.invariant-classes
invariant-classes g l =
    Passing l.subject.graph.now l.subject.table.now l.subject.survey.now (flat_map (λ c. singles c l.subject.graph.now) (take l.i l.classes))
    (λ start now heard. Goes (g.P.Pen.seen start.pen) (g.P.Pen.seen now.pen) (flat_map (λ h. shows_text l.subject.graph.now h.fault h.told) heard))
    (record l.showing { pen = l.fn.pen }) l.showing
