use Rattle.std.proofs.Common.{Bool, ap, ◌∙◌, ◌++◌}
use Rattle.std.proofs.lemmas.List.{append-nil}
use Rattle.fault_sites.specs.SiteText.{site_lines}
use Rattle.fault_sites.specs.NamedScript.{sites_meant, begin_text, end_text}
use Rattle.vcp_outside.specs.Pens.{and_then, same}
use Rattle.fault_sites.proofs.named.writing.then_meant.Goals as goal

pub returns-then-meant : goal.returns-then-meant
returns-then-meant g c =
    let faults = site_lines (sites_meant c.args.meant.now) in
    same (and_then c.text-pen.ensures (and_then c.then_faults.ensures c.text.ensures))
    (ap (λ (b : Bool). begin_text b ++ (faults ++ end_text b)) c.if-meant.true)

pub returns-else-meant : goal.returns-else-meant
returns-else-meant g c =
    let faults = site_lines (sites_meant c.args.meant.now) in
    same c.then_faults-else-meant.ensures (ap (λ (b : Bool). begin_text b ++ (faults ++ end_text b)) c.if-meant.false ∙ append-nil faults)
