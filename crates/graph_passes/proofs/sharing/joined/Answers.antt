use Rattle.std.proofs.Common.{◌≡◌, length, arith, subst}
use Rattle.graph_passes.specs.Joining.{AreJoined}
use Rattle.graph_passes.specs.Tables.{marked}
use Rattle.graph_passes.proofs.Joining.{Placed, one_placed, none_placed, so_far_by}
use Rattle.graph_passes.proofs.Rising.{below_few}
use Rattle.graph_passes.proofs.sharing.joined.Goals as goal

pub operations-init : goal.operations-init
operations-init c = so_far_by _ _ _ _ _ _ _ _ c.new-kept.ensures.items c.new-numbers.ensures.items (none_placed c.args.graph.now _ c.new-firsts.ensures)

pub one_more-count-requires : goal.one_more-count-requires
one_more-count-requires c =
    let s = c.operations in
    let kept = below_few (marked s.places.kept.items) s.i in
    let few = c.len-i-end.ensures.rules.part.few_operations in
    omega (arith, kept, s.invariant.many, c.operations-test.true, c.len-i-end.ensures.count, few)

pub operations-preserved : goal.operations-preserved
operations-preserved c =
    let g = c.args.graph.now in
    let s = c.operations in
    let e = c.in_ok-number.ensures in
    let placed = subst
    (λ m. Placed s.firsts c.placed.new.firsts m c.operation.result s.count c.in_ok-number.number c.in_ok-number.is_kept) c.deref.ensures.value
    (record { kept = e.kept; entry = e.entry; joined = e.joined; first = e.first }) in
    let more = one_placed c.entries_keep_their_rules.ensures g c.len-i-end.ensures.rules s.i s.places.kept.items s.places.numbers.items s.firsts c.placed.new.firsts s.count
    c.in_ok-number.number c.one_more-count.result c.in_ok-number.is_kept c.operation.result c.operation.ensures s.invariant placed c.one_more-count.ensures in
    so_far_by _ _ _ _ _ _ _ _ c.in_ok-push.ensures.items c.in_ok-push-2.ensures.items more

pub returns : goal.returns
returns c =
    let s = c.operations in
    let all : s.i ≡ length c.args.graph.now.operations = omega (arith, c.operations-test.false, c.operations.auto.i-end, c.len-i-end.ensures.count) in
    subst (λ n. AreJoined c.args.graph.now n s.places.kept.items s.places.numbers.items) all s.invariant.are
