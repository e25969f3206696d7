use Rattle.std.proofs.Common.{arith}
use Rattle.telegram.proofs.Counting.{next_counted, none_left}
use Rattle.telegram.proofs.runs.run.cycles_of.Goals as goal

pub events-preserved : goal.events-preserved
events-preserved c =
    let i = c.events.invariant in
    let next = next_counted c.args.events.now c.events.i c.at.result.now c.cycles.result c.at.ensures c.cycles.ensures.after in
    record {
      all = omega (arith, i.all, next);
      few = omega (arith, i.few, c.cycles.ensures.few);
    }

pub returns : goal.returns
returns c =
    let none = none_left c.args.events.now c.events.i (omega (arith, c.events-test.false, c.len-i-end.ensures)) in
    omega (arith, c.events.invariant.all, none)
