use Rattle.std.proofs.Common.{Option, ap, ◌∙◌, ◌++◌}
use Rattle.std.proofs.lemmas.List.{append-nil}
use Rattle.fault_script.specs.declared.act.Act.{Act}
use Rattle.fault_sites.specs.SiteText.{site_lines}
use Rattle.fault_sites.specs.NamedScript.{sites_over, other_sites}
use Rattle.fault_sites.proofs.NamedGoing.{lines_both}
use Rattle.vcp_outside.specs.Pens.{and_then, same}
use Rattle.fault_sites.proofs.named.writing.then_faults.Goals as goal

pub returns-in-Some : goal.returns-in-Some
returns-in-Some g c =
    let m = c.args.meant.now in
    let first = sites_over m.op m.span m.acts.act in
    same (and_then c.then_act-pen.ensures c.then_act.ensures)
    (lines_both first (other_sites m.op m.span m.acts.other)
    ∙ ap (λ (o : Option Act). site_lines first ++ site_lines (other_sites m.op m.span o)) c.in-Some.is)

pub returns-in-None : goal.returns-in-None
returns-in-None g c =
    let m = c.args.meant.now in
    let first = sites_over m.op m.span m.acts.act in
    same c.then_act-pen.ensures (ap (λ (o : Option Act). site_lines (first ++ other_sites m.op m.span o)) c.in-None.is ∙ ap site_lines (append-nil first))
