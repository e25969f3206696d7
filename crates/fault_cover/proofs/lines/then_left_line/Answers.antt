use Rattle.vcp_outside.specs.Pens.{and_then}
use Rattle.fault_cover.proofs.lines.then_left_line.Goals as goal

pub returns : goal.returns
returns g c =
    and_then c.then_left_effect.ensures (and_then c.numbered.ensures (and_then c.text-pen.ensures (and_then c.then_operation.ensures
    c.text.ensures)))
