use Rattle.std.proofs.Common.{◌++◌, append_assoc, ap, codes, decimal}
use Rattle.fault_cover.specs.CoverText.{back, front, place_text}
use Rattle.vcp_outside.specs.Pens.{and_then, same}
use Rattle.fault_cover.proofs.lines.then_fault.Goals as goal

pub returns : goal.returns
returns g c =
    let d = c.args.disturbance.now in
    let place = codes ": " ++ (place_text c.args.graph.now c.args.k ++ codes "\n") in
    let own = codes "N " ++ (decimal c.args.k ++ back d) in
    same (and_then (rw c.front.ensures at c.texts.ensures) (and_then (and_then c.numbered-pen.ensures c.then_back.ensures)
    (and_then c.text-pen.ensures (and_then c.then_operation.ensures c.text.ensures))))
    (ap (λ t. codes ": " ++ t) (append_assoc (front d) own place))
