use Rattle.std.proofs.Common.{◌≡◌, ◌<◌, ◌≤◌, ◌-◌, ℕ, zero, suc, List, length, get_or, slice_get, Some, None, refl, sym, ap, subst, arith}
use Rattle.std.proofs.lemmas.Option.{slice_get_read, slice_get_past}
use Rattle.op_graph.specs.declared.op.TurnNode.{TurnNode}
use Rattle.op_graph.specs.Chain.{parent, parent_in}
use Rattle.op_graph.proofs.turns_round.parent.Goals as goal

node_there : (nodes : List TurnNode) (n k : ℕ) (t : TurnNode) → (n ≡ 0 → ⊥) → k ≡ n - 1 → k < length nodes → t ≡ get_or nodes k t → t.parent ≡ parent nodes n
node_there nodes zero k t some is inside read = absurd (some refl)
node_there nodes (suc i) k t some is inside read =
    let same : k ≡ i = omega (arith, is) in
    sym (ap parent_in (subst (λ j. slice_get nodes j ≡ Some t) same (slice_get_read nodes (length nodes) k t refl inside read)))

no_node : (nodes : List TurnNode) (n k : ℕ) → (n ≡ 0 → ⊥) → k ≡ n - 1 → length nodes ≤ k → 0 ≡ parent nodes n
no_node nodes zero k some is past = absurd (some refl)
no_node nodes (suc i) k some is past =
    let same : k ≡ i = omega (arith, is) in
    sym (ap parent_in (subst (λ j. slice_get nodes j ≡ None) same (slice_get_past nodes k past)))

pub returns-then-n-eq0 : goal.returns-then-n-eq0
returns-then-n-eq0 c = ap (parent c.args.nodes.now) (sym c.if-n-eq0.true)

pub returns-in-Some : goal.returns-in-Some
returns-in-Some c =
    node_there c.args.nodes.now c.args.n (c.args.n - 1) c.in-Some.node.now c.if-n-eq0.false refl c.in-Some.ensures.lookup.3.0 c.in-Some.ensures.lookup.1

pub returns-in-None : goal.returns-in-None
returns-in-None c = no_node c.args.nodes.now c.args.n (c.args.n - 1) c.if-n-eq0.false refl c.in-None.ensures.lookup.3
