use Rattle.std.proofs.Common.{◌++◌, append_assoc, codes, decimal, sym}
use Rattle.fault_sites.specs.SiteText.{rest, verb}
use Rattle.vcp_outside.specs.Pens.{and_then, same}
use Rattle.fault_sites.proofs.lines.then_site.Goals as goal

pub returns : goal.returns
returns g c =
    let s = c.args.site.now in
    same (and_then (rw c.verb.ensures at c.numbered.ensures) (and_then c.numbered-pen.ensures c.then_rest.ensures))
    (sym (append_assoc (verb s.act) (decimal s.cycle) (codes " " ++ (decimal s.op ++ rest s.act))))
