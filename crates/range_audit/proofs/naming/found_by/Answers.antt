use Rattle.std.proofs.Common.{◌≡◌, length, sym, ap, ◌∙◌, arith}
use Rattle.range_walk.specs.Known.{KnownRanges}
use Rattle.range_audit.proofs.Closer.{closer_fits, closer_lies}
use Rattle.range_audit.proofs.Joined.{all_first, all_named}
use Rattle.range_audit.proofs.Steps.{none_at, one_more}
use Rattle.range_audit.proofs.naming.found_by.Goals as goal

pub operations-init : goal.operations-init
operations-init c = record {
  known = none_at _ _ (ap (λ (r : KnownRanges). r.known) c.new-found.ensures ∙ c.new.ensures.items);
  stops = none_at _ _ (ap (λ (r : KnownRanges). r.stops) c.new-found.ensures ∙ c.new-2.ensures.items);
}

pub operations-preserved : goal.operations-preserved
operations-preserved c =
    let i = c.operations.i in
    let x = c.range_at-first.ensures in
    let y = c.range_at-second.ensures in
    let s = c.stops_at-before.ensures in
    let t = c.stops_at-other.ensures in
    record {
      known = one_more _ _ _ c.range_by-range.result i c.operations.invariant.known (_, _, x, y, c.range_by-range.ensures) c.in_ok-push.ensures.known;
      stops = one_more _ _ _ c.joined_stops-why.result i c.operations.invariant.stops (_, _, s, t, c.joined_stops-why.ensures) c.in_ok-push.ensures.stops;
    }

pub returns : goal.returns
returns c =
    let both = c.args.both in
    let a = c.args.a.now in
    let b = c.args.b.now in
    let found = c.operations.found in
    let known = c.operations.invariant.known in
    let stops = c.operations.invariant.stops in
    let all : c.operations.i ≡ length a.known = omega (arith, c.operations-test.false, c.operations.auto.i-end, ap length c.known-count.ensures) in
    record {
      known = known.many ∙ all;
      stops = stops.many ∙ all;
      fits = closer_fits both a.known b.known found.known c.operations.i known;
      named = all_named both a.stops b.stops found.stops c.operations.i stops (all ∙ sym c.requires.stops) (c.requires.other_stops ∙ sym c.requires.stops);
      types = closer_lies both a.known b.known found.known c.operations.i known;
      first = all_first both a.stops b.stops found.stops c.operations.i stops;
    }
