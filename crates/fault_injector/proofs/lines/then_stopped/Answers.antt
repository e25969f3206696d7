use Rattle.vcp_outside.specs.Pens.{and_then}
use Rattle.fault_injector.proofs.lines.then_stopped.Goals as goal

pub returns : goal.returns
returns g c =
    let turns = rw c.operation.ensures at c.then_turns_round.ensures in
    rw c.operation.ensures (and_then c.numbered.ensures (and_then c.numbered-2.ensures (and_then c.text-pen.ensures
    (and_then c.then_cause-pen.ensures turns))))
