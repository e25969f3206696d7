use Rattle.std.proofs.Common.{arith}
use Rattle.verdict_tables.proofs.Picking.{all_taken, one_more}
use Rattle.verdict_tables.specs.SumText.{fault_text}
use Rattle.vcp_outside.specs.Pens.{unmoved, and_then, same}
use Rattle.verdict_tables.proofs.unseen.then_faults.Goals as goal

pub faults-init : goal.faults-init
faults-init g c = unmoved

pub faults-preserved : goal.faults-preserved
faults-preserved g c =
    let place = and_then c.text-pen-in-faults.ensures (and_then c.then_operation.ensures c.text-pen-in-faults-2.ensures) in
    let fault = and_then c.text-pen.ensures (and_then c.then_site.ensures place) in
    same (and_then c.faults.invariant fault) (one_more (fault_text c.args.graph.now) c.args.group.now c.faults.i c.at-fault.result c.at-fault.ensures)

pub returns : goal.returns
returns g c =
    same c.faults.invariant
    (all_taken (fault_text c.args.graph.now) c.args.group.now c.faults.i (omega (arith, c.faults-test.false, c.len-i-end.ensures)))
