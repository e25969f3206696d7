use Rattle.vcp_outside.specs.Pens.{and_then}
use Rattle.fault_cover.proofs.lines.then_totals.Goals as goal

pub returns : goal.returns
returns g c = λ few.
    and_then (rw (c.sum.ensures few) at c.numbered.ensures) (and_then c.numbered-2.ensures (and_then c.numbered-3.ensures
    (and_then c.numbered-4.ensures (and_then c.numbered-5.ensures c.numbered-6.ensures))))
