use Rattle.std.proofs.Common.{◌≡◌, ◌+◌, List, length, ap, subst, ◌∙◌, arith}
use Rattle.std.proofs.lemmas.List.{length_push}
use Rattle.range_walk.specs.declared.range.Range.{Range}
use Rattle.range_walk.specs.Known.{KnownRanges}
use Rattle.range_walk.specs.Walking.{TellsAt}
use Rattle.range_walk.proofs.Steps.{FitsAt, NamesAt, AbleAt, LiesAt, each_none, each_push, fits_here, names_here, whole_walk}
use Rattle.range_walk.proofs.walking.walk.Goals as goal

pub operations-init : goal.operations-init
operations-init c =
    let known = ap (λ (r : KnownRanges). r.known) c.new-ranges.ensures ∙ c.new-known.ensures.items in
    let stops = ap (λ (r : KnownRanges). r.stops) c.new-ranges.ensures ∙ c.new-stops.ensures.items in
    record {
      known_many = ap length known;
      stops_many = ap length stops;
      fits = each_none _ _ known;
      names = each_none _ _ stops;
      able = each_none _ _ stops;
      lie = each_none _ _ known;
    }

pub operations-preserved : goal.operations-preserved
operations-preserved c =
    let ops = c.args.graph.now.operations in
    let cells = c.args.cells.now in
    let inputs = c.args.inputs.now in
    let i = c.operations.invariant in
    let t = c.told_at-told.result in
    let known = c.operations.ranges.known in
    let stops = c.operations.ranges.stops in
    let more = c.in_ok-push.ensures.known in
    let more_stops = c.in_ok-push.ensures.stops in
    let told = subst (λ (ks : List Range). TellsAt ops cells inputs ks c.operations.i t) c.known.ensures c.told_at-told.ensures.tells in
    record {
      known_many = ap length more ∙ length_push known t.range ∙ ap (λ n. n + 1) i.known_many;
      stops_many = ap length more_stops ∙ length_push stops t.stops ∙ ap (λ n. n + 1) i.stops_many;
      fits = each_push (FitsAt ops cells inputs) known _ t.range c.operations.i more i.known_many i.fits
          (fits_here ops cells inputs known c.operations.i t (omega (arith, c.operations-test.true, c.len-i-end.ensures.count)) told i.fits);
      names = each_push (NamesAt ops cells inputs) stops _ t.stops c.operations.i more_stops i.stops_many i.names
          (names_here ops cells inputs known c.operations.i t told i.fits);
      able = each_push (AbleAt ops) stops _ t.stops c.operations.i more_stops i.stops_many i.able c.told_at-told.ensures.able;
      lie = each_push (LiesAt ops) known _ t.range c.operations.i more i.known_many i.lie c.told_at-told.ensures.types;
    }

pub returns : goal.returns
returns c =
    let g = c.args.graph.now in
    let i = c.operations.invariant in
    let known = c.operations.ranges.known in
    let stops = c.operations.ranges.stops in
    let known_many : length known ≡ length g.operations =
    omega (arith, i.known_many, c.operations-test.false, c.operations.auto.i-end, c.len-i-end.ensures.count) in
    let stops_many : length stops ≡ length g.operations =
    omega (arith, i.stops_many, c.operations-test.false, c.operations.auto.i-end, c.len-i-end.ensures.count) in
    whole_walk g.operations c.args.cells.now c.args.inputs.now known stops known_many stops_many i.fits i.names i.able i.lie
