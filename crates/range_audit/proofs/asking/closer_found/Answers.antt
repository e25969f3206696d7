use Rattle.std.proofs.Common.{◌≡◌, true, List, length, refl, sym, ap, subst, ◌∙◌, arith}
use Rattle.std.proofs.lemmas.Option.{slice_get_within}
use Rattle.range_walk.specs.declared.range.Range.{Range}
use Rattle.range_walk.specs.Known.{KnownRanges, is_named}
use Rattle.range_audit.specs.Searching.{IsAlwaysIn}
use Rattle.range_audit.proofs.Steps.{get_there, none_at, one_more}
use Rattle.range_audit.proofs.asking.closer_found.Goals as goal

pub operations-init : goal.operations-init
operations-init c = record {
  known = none_at _ _ (ap (λ (r : KnownRanges). r.known) c.new-found.ensures ∙ c.new.ensures.items);
  stops = none_at _ _ (ap (λ (r : KnownRanges). r.stops) c.new-found.ensures ∙ c.new-2.ensures.items);
}

pub operations-preserved : goal.operations-preserved
operations-preserved c =
    let ops = c.args.cycle.now.graph.now.operations in
    let i = c.operations.i in
    let range = subst (λ (ks : List Range). IsAlwaysIn ops c.args.cycle.now.cells.now ks i c.output_range-range.result) c.known.ensures c.output_range-range.ensures in
    record {
      known = one_more _ _ _ c.output_range-range.result i c.operations.invariant.known range c.in_ok-push.ensures.known;
      stops = one_more _ _ _ c.stops_of-why.result i c.operations.invariant.stops c.stops_of-why.ensures c.in_ok-push.ensures.stops;
    }

pub returns : goal.returns
returns c =
    let ops = c.args.cycle.now.graph.now.operations in
    let known = c.operations.invariant.known in
    let stops = c.operations.invariant.stops in
    let all : c.operations.i ≡ length ops = omega (arith, c.operations-test.false, c.operations.auto.i-end, c.len-count.ensures.count) in
    record {
      known = known.many ∙ all;
      stops = stops.many ∙ all;
      found = record {
        fits = λ held row vs hold row_in given k r lt there.
            known.each k r there held row vs hold given lt (c.requires.walk.fits held row vs hold row_in given);
        names = λ held row vs op why hold row_in given there own no e.
            let within = slice_get_within ops (length vs) op there in
            let s = get_there c.operations.found.stops (length vs) (omega (arith, within, stops.many, all)) in
            subst (λ o. is_named why o ≡ true) (sym s.1)
            (stops.each (length vs) s.0 s.1 held row vs op why hold row_in given refl there own no e);
      };
    }
