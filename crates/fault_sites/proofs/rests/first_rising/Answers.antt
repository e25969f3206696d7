use Rattle.std.proofs.Common.{◌-◌, pos, arith}
use Rattle.fault_sites.specs.declared.reading.Reading.{Reading}
use Rattle.fault_sites.proofs.GroupsGoing.{at_there}
use Rattle.fault_sites.proofs.Rising.{so_all, so_none, so_breaks_at, so_stays_at}
use Rattle.fault_sites.proofs.rests.first_rising.Goals as goal
use Rattle.fault_sites.proofs.rests.first_rising.Goals.{then-place, else-place}

pub readings-init : goal.readings-init
readings-init c = record { so = so_none c.args.rs.now; low = omega arith }

pub readings-preserved : goal.readings-preserved
readings-preserved c =
    let rs = c.args.rs.now in
    let i = c.readings.i in
    let v = c.readings.invariant in
    let none : Reading = record { op = 0; operand = 0; borders = 0; multiplier = pos 0 } in
    let inside = c.readings-test.true in
    let least = c.readings.auto.i in
    let here = at_there rs i none inside in
    let before = at_there rs (i - 1) none (omega (arith, inside)) in
    let later = c.place.ensures in
    let sooner = c.place-in-readings.ensures in
    elim c.if-place.branch [
      | then-place w ↦ let lt = w.if-place.true in let x = so_breaks_at rs c.readings.first i _ _ least v.so before here (omega (arith, lt, later, sooner)) in rw w.first-is record { so = x.0; low = x.1 }
      | else-place w ↦ let lt = w.if-place.false in let x = so_stays_at rs c.readings.first i _ _ least v.so v.low before here (omega (arith, lt, later, sooner)) in rw w.first-is record { so = x.0; low = x.1 }
    ]

pub returns : goal.returns
returns c =
    let past = c.readings-test.false in
    so_all c.args.rs.now c.readings.first (c.readings.i - 1) c.readings.invariant.so c.readings.invariant.low (omega (arith, past))
