use Rattle.std.proofs.Common.{◌≡◌, ◌∙◌, ap, arith, length, subst, sym}
use Rattle.std.proofs.lemmas.List.{with_items_is}
use Rattle.std.proofs.lemmas.Result.{IfOk-from_err}
use Rattle.fault_cover.specs.Walks.{AreNearest, AreWithin, IsBegun}
use Rattle.fault_cover.proofs.Beginning.{begun_all, begun_more}
use Rattle.fault_cover.proofs.Reaching.{begun_within}
use Rattle.fault_cover.proofs.nearest.find_nearest.Goals as goal

pub operations-preserved : goal.operations-preserved
operations-preserved c =
    let more =
    begun_more c.args.wanted.now c.operations.found.items c.push.new.self.items c.operations.k c.itself.result c.operations.invariant.many
    c.operations.invariant.each c.itself.ensures c.in_ok-push.ensures.items in
    record { many = more.0; each = more.1 }

pub returns-in_err-push : goal.returns-in_err-push
returns-in_err-push c = IfOk-from_err c.from_residual.result _ c.from_residual.ensures.0

pub walk-requires-clause-many : goal.walk-requires-clause-many
walk-requires-clause-many c =
    let many = c.operations.invariant.many in
    let all : length c.operations.found.items ≡ length c.args.graph.now.operations =
    omega (arith, many, c.len-k-end.ensures.count, c.operations-test.false, c.operations.auto.k-end) in
    ap length c.deref_mut.ensures.value ∙ all

pub walk-requires-clause-within : goal.walk-requires-clause-within
walk-requires-clause-within c =
    let begun = begun_all c.args.wanted.now c.operations.found.items c.operations.k c.operations.invariant.many c.operations.invariant.each
    (omega (arith, c.requires.many, c.len-k-end.ensures.count, c.operations-test.false, c.operations.auto.k-end)) in
    subst (AreWithin 0) (sym c.deref_mut.ensures.value) (begun_within c.args.graph.now c.args.wanted.now c.operations.found.items begun)

pub returns : goal.returns
returns c =
    let new = c.walk.new.found in
    let is = with_items_is c.operations.found new (omega (arith, c.walk.auto.found, c.deref_mut.ensures.len)) in
    let begun = begun_all c.args.wanted.now c.operations.found.items c.operations.k c.operations.invariant.many c.operations.invariant.each
    (omega (arith, c.requires.many, c.len-k-end.ensures.count, c.operations-test.false, c.operations.auto.k-end)) in
    subst (AreNearest c.args.graph.now c.args.wanted.now) (sym is)
    (c.walk.ensures c.args.wanted.now (subst (IsBegun c.args.wanted.now) (sym c.deref_mut.ensures.value) begun))
