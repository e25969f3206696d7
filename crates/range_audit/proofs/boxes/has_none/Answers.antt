use Rattle.std.proofs.Common.{arith}
use Rattle.std.proofs.lemmas.Option.{slice_get_within}
use Rattle.vcp_base.specs.Values.{at}
use Rattle.range_audit.proofs.boxes.has_none.Goals as goal

pub returns-then-none-clause-fit : goal.returns-then-none-clause-fit
returns-then-none-clause-fit c = λ e vs le fit.
    let within = slice_get_within c.args.ranges.now c.places.j c.range_at-range.result c.range_at-range.ensures in
    c.is_empty-none.ensures.none c.if-none.true (at vs c.places.j) (fit c.places.j c.range_at-range.result (omega (arith, within, le)) c.range_at-range.ensures)

pub returns-then-none-clause-hold : goal.returns-then-none-clause-hold
returns-then-none-clause-hold c = λ e held hold.
    c.is_empty-none.ensures.none c.if-none.true (at held c.places.j) (hold c.places.j c.range_at-range.result c.range_at-range.ensures)
