use Rattle.std.proofs.Common.{◌≡◌, ◌≤◌, ℕ, Some, None, refl, subst, arith}
use Rattle.op_graph.specs.Chain.{Kept}
use Rattle.op_graph.proofs.Chains.{mark_is, refill_whole, refill_kept}
use Rattle.op_graph.proofs.turns_round.refilled.Goals as goal

pub returns-clause-kept : goal.returns-clause-kept
returns-clause-kept c = λ n kept.
    let none : c.args.left ≡ 0 = omega (arith, c.if-left-gt0.false) in
    let some : 1 ≤ c.args.stretches = omega (arith, c.if-stretches-eq0.false) in
    let all : Kept c.args.nodes.now n c.args.stretches 0 c.args.marks.now c.args.stretch.now =
    subst (λ j. Kept c.args.nodes.now n c.args.stretches j c.args.marks.now c.args.stretch.now) none kept in
    let e = c.fill-left.ensures in
    let mark = mark_is c.args.nodes.now n c.args.stretches 0 c.args.marks.now c.args.stretch.now all some in
    refill_kept c.args.nodes.now n c.args.stretches _ c.fill-left.result.0 c.args.marks.now c.args.stretch.now c.fill-left.new.stretch all some mark
    (refill_whole c.args.nodes.now n c.args.stretches _ c.fill-left.result.0 c.fill-left.result.1 c.args.marks.now c.args.stretch.now all some mark e.few e.next e.whole) e.filled

pub returns-clause-count : goal.returns-clause-count
returns-clause-count c = λ n kept.
    let none : c.args.left ≡ 0 = omega (arith, c.if-left-gt0.false) in
    let some : 1 ≤ c.args.stretches = omega (arith, c.if-stretches-eq0.false) in
    let all : Kept c.args.nodes.now n c.args.stretches 0 c.args.marks.now c.args.stretch.now =
    subst (λ j. Kept c.args.nodes.now n c.args.stretches j c.args.marks.now c.args.stretch.now) none kept in
    let e = c.fill-left.ensures in
    let mark = mark_is c.args.nodes.now n c.args.stretches 0 c.args.marks.now c.args.stretch.now all some in
    let whole = refill_whole c.args.nodes.now n c.args.stretches _ c.fill-left.result.0 c.fill-left.result.1 c.args.marks.now c.args.stretch.now all some mark e.few e.next e.whole in
    omega (arith, whole, some, none)

nothing_given : (r : ℕ × ℕ) → Some r ≡ None → ⊥
nothing_given r none = absurd cc

-- nodes of the stretch are left
pub returns-then-left-gt0 : goal.returns-then-left-gt0
returns-then-left-gt0 c = record {
  some = c.if-left-gt0.true;
  kept = λ n kept. kept;
  count = λ n kept. refl;
  none = λ none. absurd (nothing_given _ none);
  unchanged = λ none. absurd (nothing_given _ none);
}

-- nothing is left
pub returns-then-stretches-eq0 : goal.returns-then-stretches-eq0
returns-then-stretches-eq0 c = record {
  some = tt;
  kept = λ n kept. tt;
  count = λ n kept. tt;
  none = λ none. omega (arith, c.if-left-gt0.false, c.if-stretches-eq0.true);
  unchanged = λ none. refl;
}

pub returns-clause-none : goal.returns-clause-none
returns-clause-none c = λ none. absurd (nothing_given _ none)

pub returns-clause-unchanged : goal.returns-clause-unchanged
returns-clause-unchanged c = λ none. absurd (nothing_given _ none)
