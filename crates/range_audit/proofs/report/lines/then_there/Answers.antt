use Rattle.std.proofs.Common.{◌≤◌, length, pos, false, arith}
use Rattle.std.proofs.lemmas.Option.{slice_get_past, slice_get-get_or}
use Rattle.range_walk.specs.declared.range.Range.{Range}
use Rattle.vcp_outside.specs.Pens.{unmoved}
use Rattle.range_audit.proofs.report.lines.then_there.Goals as goal

pub returns-then-place-known : goal.returns-then-place-known
returns-then-place-known g c =
    let none : Range = record { low = pos 0; high = pos 0; nonzero = false } in
    rw (slice_get-get_or c.args.known.now c.args.n none c.if-place-known.true) c.then_range.ensures

pub returns-else-place-known : goal.returns-else-place-known
returns-else-place-known g c =
    let past : length c.args.known.now ≤ c.args.n = omega (arith, c.if-place-known.false) in
    rw (slice_get_past c.args.known.now c.args.n past) unmoved
