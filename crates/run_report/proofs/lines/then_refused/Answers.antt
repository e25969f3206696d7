use Rattle.vcp_outside.specs.Pens.{and_then}
use Rattle.run_report.proofs.lines.then_refused.Goals as goal

pub returns : goal.returns
returns g c =
    let name = rw c.bytes.ensures at c.texts.ensures in
    and_then c.numbered.ensures (and_then name (and_then c.numbered-2.ensures c.numbered-3.ensures))
