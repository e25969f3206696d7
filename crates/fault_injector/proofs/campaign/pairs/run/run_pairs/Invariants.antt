use Rattle.std.proofs.Common.{◌≡◌}
use Rattle.fault_injector.proofs.Told.{SoFar}
use Rattle.fault_injector.proofs.campaign.pairs.run.run_pairs.Given as goal

abbrev pub invariant-groups : goal.invariant-groups
invariant-groups g l =
    let unit = g.U.Unit in
    let sink = g.O.Sink in
    record {
      so_far :
          SoFar l.table l.graph l.script l.rows (unit.seen l.fn.unit) (unit.seen l.unit) (sink.seen l.fn.out).written (sink.seen l.out).written l.i l.totals;
      stayed : (sink.seen l.out).faults ≡ (sink.seen l.fn.out).faults;
    }
