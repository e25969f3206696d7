use Rattle.std.proofs.Common.{◌≡◌, ◌+◌, arith}
use Rattle.std.proofs.lemmas.List.Sums.{count_by-le-length}
use Rattle.std.specs.Option.{is_none}
use Rattle.op_graph.specs.declared.op.Cell.{Cell}
use Rattle.op_graph.specs.Lists.{cells}
use Rattle.fault_cover.specs.Walks.{kept, missing}
use Rattle.fault_cover.proofs.Reaching.{are_nearest, begun_begun, begun_found, closed_early, closed_late, none_crossed, none_read, stays_begun, stays_crossed}
use Rattle.fault_cover.proofs.Reaching.{stays_missing, stays_read}
use Rattle.fault_cover.proofs.nearest.walk.Goals as goal

pub borders-init : goal.borders-init
borders-init c = record {
  many = c.requires.many;
  found = λ wanted are. are;
  begun = λ wanted are. are;
  within = c.requires.within;
  reads = none_read c.args.graph.now c.args.found.now;
  crosses = none_crossed c.args.graph.now c.args.found.now;
  few =
      let most = count_by-le-length (λ (d : Cell). is_none (kept c.args.found.now d.store)) (cells c.args.graph.now) in
      omega (arith, most);
}

pub cross_all-more-requires-clause-crosses : goal.cross_all-more-requires-clause-crosses
cross_all-more-requires-clause-crosses c =
    let i = c.borders.invariant in
    stays_crossed c.args.graph.now c.borders.borders c.borders.found c.sweep.new.found (c.sweep.ensures.swept c.borders.borders i.reads) i.crosses

pub cross_all-more-requires-clause-within : goal.cross_all-more-requires-clause-within
cross_all-more-requires-clause-within c = c.sweep.ensures.within c.borders.borders c.borders.invariant.within

pub borders-preserved : goal.borders-preserved
borders-preserved c =
    let g = c.args.graph.now in
    let b = c.borders.borders in
    let i = c.borders.invariant in
    let swept = c.sweep.ensures.swept b i.reads in
    let crossed = c.cross_all-more.ensures in
    let old = c.borders.found in
    let mid = c.sweep.new.found in
    let new = c.cross_all-more.new.found in
    record {
      many = crossed.many;
      found = λ wanted are. crossed.found wanted (c.sweep.ensures.found wanted (i.found wanted are));
      begun = λ wanted are. stays_begun g (b + 1) mid new crossed.swept wanted (stays_begun g b old mid swept wanted (i.begun wanted are));
      within = crossed.within;
      reads = stays_read g (b + 1) mid new crossed.swept (c.sweep.ensures.reads (b + 1));
      crosses = crossed.crosses;
      few =
          let most = stays_missing g b old mid swept in
          let less = crossed.fewer c.if-not-more.false in
          let few = i.few in
          omega (arith, most, less, few);
    }

pub returns-then-not-more : goal.returns-then-not-more
returns-then-not-more c = λ wanted begun.
    let g = c.args.graph.now in
    let b = c.borders.borders in
    let i = c.borders.invariant in
    let swept = c.sweep.ensures.swept b i.reads in
    let crossed = c.cross_all-more.ensures in
    let first = c.args.found.now in
    let old = c.borders.found in
    let mid = c.sweep.new.found in
    let new = c.cross_all-more.new.found in
    let closed = closed_early g b mid new (crossed.none c.if-not-more.true)
    (c.sweep.ensures.within b i.within) c.sweep.ensures.reads crossed.crosses in
    are_nearest g wanted new closed
    (stays_begun g (b + 1) mid new crossed.swept wanted (stays_begun g b old mid swept wanted (i.begun wanted (begun_begun g wanted first begun))))
    crossed.many (crossed.found wanted (c.sweep.ensures.found wanted (i.found wanted (begun_found g wanted first begun))))
    (λ k n e. let few = crossed.within k n e in omega (arith, few, c.borders-test.true, c.cells-borders-end.ensures.count))

pub returns : goal.returns
returns c = λ wanted begun.
    let g = c.args.graph.now in
    let b = c.borders.borders in
    let i = c.borders.invariant in
    let swept = c.sweep-2.ensures.swept b i.reads in
    let first = c.args.found.now in
    let old = c.borders.found in
    let new = c.sweep-2.new.found in
    let none : missing g old ≡ 0 = let few = i.few in omega (arith, few, c.borders-test.false, c.cells-borders-end.ensures.count) in
    let within = c.sweep-2.ensures.within b i.within in
    let closed = closed_late g b old new swept none i.within c.sweep-2.ensures.reads (stays_crossed g b old new swept i.crosses) in
    are_nearest g wanted new closed (stays_begun g b old new swept wanted (i.begun wanted (begun_begun g wanted first begun)))
    c.sweep-2.ensures.many (c.sweep-2.ensures.found wanted (i.found wanted (begun_found g wanted first begun)))
    (λ k n e. let few = within k n e in let end = i.few in omega (arith, few, end))
