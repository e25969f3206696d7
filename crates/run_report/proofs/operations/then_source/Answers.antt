use Rattle.vcp_outside.specs.Pens.{and_then}
use Rattle.run_report.proofs.operations.then_source.Goals as goal

pub returns : goal.returns
returns g c =
    let turns = rw c.operation.ensures at c.then_turns_round.ensures in
    rw c.operation.ensures (and_then c.text-pen.ensures (and_then c.then_place-pen.ensures turns))
