use Rattle.vcp_outside.specs.Pens.{and_then}
use Rattle.fault_injector.proofs.lines.then_totals.Goals as goal

pub returns : goal.returns
returns g c =
    let all = rw c.faults.ensures at c.numbered.ensures in
    let last = and_then c.numbered-4.ensures (and_then c.numbered-5.ensures c.numbered-6.ensures) in
    and_then all (and_then c.numbered-2.ensures (and_then c.numbered-3.ensures last))
