use Rattle.std.proofs.Common.{◌≡◌, ℕ, List, ◌++◌, codes, append_assoc, sym, rules}
use Rattle.run_report.specs.Lines.{stop_front}
use Rattle.vcp_outside.specs.Pens.{ended}
use Rattle.run_report.proofs.graph_stop.graph_stop_line.Goals as goal

pieces : (front turns : List ℕ) → front ++ (turns ++ codes "\n") ≡ front ++ turns ++ codes "\n"
pieces front turns = sym (append_assoc front turns (codes "\n"))

pub returns : goal.returns
returns g c =
    let turns = rw c.operation.ensures at c.then_turns_round.ensures in
    rw c.operation.ensures
    (ended g.O.Sink.seen (search rules) (turns _ _ _ c.begin_stop-pen.ensures) c.end.ensures (pieces (stop_front c.args.cycle c.args.kind c.operation.result.spot) _))
