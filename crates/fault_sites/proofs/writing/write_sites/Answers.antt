use Rattle.std.proofs.Common.{rules}
use Rattle.fault_sites.specs.SiteText.{classes_name}
use Rattle.fault_sites.specs.Part.{kept}
use Rattle.fault_sites.specs.Sites.{sites}
use Rattle.fault_sites.proofs.Ended.{ended_text}
use Rattle.vcp_outside.specs.Pens.{ended}
use Rattle.fault_sites.proofs.writing.write_sites.Goals as goal

pub returns : goal.returns
returns g c =
    let remark = (rw c.classes_name.ensures at c.then_remark-pen.ensures) _ _ _ c.new.ensures in
    let told = c.then_part.ensures _ _ _ remark in
    ended g.O.Sink.seen (search rules) told c.end.ensures
    (ended_text (classes_name c.args.classes) c.args.digest.now (kept c.args.part (sites c.args.classes c.args.graph.now c.args.cycles)))
