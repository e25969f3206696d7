use Rattle.std.proofs.Common.{◌≡◌, ◌+◌, ◌-◌, List, length, drop, ap, sym, arith}
use Rattle.fault_sites.specs.declared.reading.Reading.{Reading}
use Rattle.fault_sites.specs.Rests.{groups_of}
use Rattle.fault_sites.proofs.GroupsGoing.{tail_is}
use Rattle.fault_sites.proofs.Spending.{spends_none, spends_more, spends_same}
use Rattle.fault_sites.proofs.rests.then_groups_by.Goals as goal

pub readings-init : goal.readings-init
readings-init g c = spends_none

pub readings-preserved : goal.readings-preserved
readings-preserved g c =
    let n = c.args.n in
    let rs = c.args.rs.now in
    spends_more (λ i. groups_of n (drop (i + 1) rs)) c.readings.i c.readings.invariant
    (spends_same c.then_groups_of-spent.ensures (ap (λ (d : List Reading). groups_of n d) (sym (tail_is rs (c.readings.i + 1)))))

pub returns : goal.returns
returns g c =
    let past = c.readings-test.false in
    let most = c.readings.auto.i-end in
    let all : c.readings.i ≡ length c.args.rs.now - 2 = omega (arith, past, most, c.saturating_sub-i-end.ensures) in
    rw all at c.readings.invariant
