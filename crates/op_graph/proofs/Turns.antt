-- Turns: the names of the turns round a node are there.
use Rattle.std.proofs.Common.{ℕ, ◌<◌, ◌==◌, suc, Bool, true, false, cond, List, [], ◌∷◌, ◌++◌, length, reverse, All}
use Rattle.std.proofs.lemmas.List.Elements.{All-nil, All-cons, All-head, All-tail, All-append}
use Rattle.std.proofs.lemmas.List.Sorted.{All-permutation, IsPermutation-reverse}
use Rattle.vcp_base.specs.declared.turns.Turn.{Turn}
use Rattle.op_graph.specs.declared.op.TurnNode.{TurnNode}
use Rattle.op_graph.specs.Lists.{Lists, turn_of, turns_back, turns_of}
use Rattle.op_graph.specs.Rules.{TurnNodeFits, IsPart}
use Rattle.op_graph.proofs.Entries.{each_under, under_all}

Named : ℕ → Turn → Type 0
Named names t = t.name < names

either : (names : ℕ) (b : Bool) (xs ys : List Turn) → All (Named names) xs → All (Named names) ys → All (Named names) (cond b xs ys)
either names true xs ys first second = first
either names false xs ys first second = second

back_named : (names : ℕ) (earlier : List TurnNode) (n : ℕ) → All (λ (t : TurnNode). t.name < names) earlier → All (Named names) (turns_back earlier n)
unfolding Named
back_named names [] n named = All-nil (Named names)
back_named names (t ∷ earlier) n named =
    let rest = All-tail (λ (t : TurnNode). t.name < names) t earlier named in
    let own = All-cons (Named names) (turn_of t) [] (All-head (λ (t : TurnNode). t.name < names) t earlier named) (All-nil (Named names)) in
    either names (suc (length earlier) == n) (turns_back earlier t.parent ++ turn_of t ∷ []) (turns_back earlier n)
    (All-append (Named names) (turns_back earlier t.parent) (turn_of t ∷ []) (back_named names earlier t.parent rest) own)
    (back_named names earlier n rest)

-- each turn round a node of a graph has a name among the graph's
pub turns_named : (g : Lists) (n : ℕ) → IsPart g → All (λ (t : Turn). t.name < length g.names) (turns_of g n)
unfolding Named
turns_named g n part =
    let under = each_under (TurnNodeFits (length g.names)) (λ (t : TurnNode). t.name) (length g.names) [] g.turn_nodes
    (λ before t fit. fit.name) part.turn_nodes in
    let named = under_all (λ (t : TurnNode). t.name) (length g.names) g.turn_nodes under in
    back_named (length g.names) (reverse g.turn_nodes) n
    (All-permutation (λ (t : TurnNode). t.name < length g.names) g.turn_nodes (reverse g.turn_nodes) (IsPermutation-reverse g.turn_nodes) named)
