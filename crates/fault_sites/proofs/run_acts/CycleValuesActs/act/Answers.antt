use Rattle.std.proofs.Common.{length, ◌-◌, ap, arith}
use Rattle.op_graph.specs.Lists.{Lists}
use Rattle.fault_sites.proofs.run_acts.CycleValuesActs.act.Goals as goal

pub flipped-requires : goal.flipped-requires
flipped-requires c = record { few = c.requires.acts.few; bit = rw c.in-Flips.is at c.requires.column }

pub late_of-requires : goal.late_of-requires
late_of-requires c =
    let same = ap (λ (g : Lists). length g.operations - c.args.k) c.requires.acts.same in
    let column = rw c.in-Late.is at c.requires.column in
    record { later = c.requires.acts.later c.in-Late.is; few = c.requires.acts.few; there = omega (arith, same, column) }
