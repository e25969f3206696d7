use Rattle.vcp_outside.specs.Pens.{and_then}
use Rattle.fault_cover.proofs.lines.then_remark.Goals as goal

pub returns : goal.returns
returns g c =
    and_then (rw c.classes_name.ensures at c.texts.ensures) (and_then c.numbered.ensures
    (and_then c.texts-2.ensures c.text.ensures))
