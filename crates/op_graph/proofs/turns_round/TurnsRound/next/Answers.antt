use Rattle.std.proofs.Common.{pos, Some, drop, slice_get, ap, sym, ◌∙◌, arith}
use Rattle.op_graph.specs.declared.op.TurnNode.{TurnNode}
use Rattle.op_graph.proofs.Chains.{node_is, node_there, fewer_kept, tells}
use Rattle.op_graph.proofs.turns_round.TurnsRound.next.Goals as goal

blank : TurnNode
blank = record { parent = 0; name = 0; value = pos 0 }

pub bounds-self-inside-self-inside : goal.bounds-self-inside-self-inside
bounds-self-inside-self-inside c =
    let kept = c.in_ok-stretches.ensures.kept c.self.inside.innermost c.self.invariant in
    omega (arith, kept.few_left, c.in_ok-stretches.ensures.some)

pub overflow_sub-node : goal.overflow_sub-node
overflow_sub-node c =
    let kept = c.in_ok-stretches.ensures.kept c.self.inside.innermost c.self.invariant in
    let is = node_is _ _ _ _ _ _ kept c.in_ok-stretches.ensures.some in
    (node_there _ _ _ _ _ _ _ kept c.in_ok-stretches.ensures.some is).0

pub bounds-self-inside-node : goal.bounds-self-inside-node
bounds-self-inside-node c =
    let kept = c.in_ok-stretches.ensures.kept c.self.inside.innermost c.self.invariant in
    let is = node_is _ _ _ _ _ _ kept c.in_ok-stretches.ensures.some in
    let there = node_there _ _ _ _ _ _ _ kept c.in_ok-stretches.ensures.some is in
    omega (arith, there.0, there.1)

pub invariant_of-self-2 : goal.invariant_of-self-2
invariant_of-self-2 c = fewer_kept _ _ _ _ _ _ (c.in_ok-stretches.ensures.kept c.self.inside.innermost c.self.invariant)

pub returns-clause-turn : goal.returns-clause-turn
unfolding blank
returns-clause-turn c =
    let kept = c.in_ok-stretches.ensures.kept c.self.inside.innermost c.self.invariant in
    let told = tells _ _ c.self.inside.stretches c.self.inside.left _ _ _ _ blank kept c.in_ok-stretches.ensures.some
    (c.in_ok-stretches.ensures.count c.self.inside.innermost c.self.invariant) in
    ap Some c.turn.ensures ∙ sym (ap (λ v. slice_get v 0) (sym c.self.view_is ∙ told))

pub returns-clause-rest : goal.returns-clause-rest
unfolding blank
returns-clause-rest c =
    let kept = c.in_ok-stretches.ensures.kept c.self.inside.innermost c.self.invariant in
    let told = tells _ _ c.self.inside.stretches c.self.inside.left _ _ _ _ blank kept c.in_ok-stretches.ensures.some
    (c.in_ok-stretches.ensures.count c.self.inside.innermost c.self.invariant) in
    sym (ap (drop 1) (sym c.self.view_is ∙ told))
