use Rattle.fault_sites.specs.SiteText.{site_lines}
use Rattle.fault_sites.specs.NamedScript.{sites_from}
use Rattle.vcp_outside.specs.Pens.{Goes}
use Rattle.fault_sites.proofs.named.writing.then_act.Given as goal

abbrev pub invariant-cycles : goal.invariant-cycles
invariant-cycles g l =
    Goes (g.P.Pen.seen l.fn.pen) (g.P.Pen.seen l.pen) (site_lines (sites_from l.k l.act l.span.first l.i))
