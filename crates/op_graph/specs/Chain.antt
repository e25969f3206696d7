-- Chain: the turn nodes from one of them outwards, step by step.
-- What is kept while turns are given, and no promise: what is given is `turns_of` in Lists.
use Rattle.std.specs.Prelude.{◌≡◌, ℕ, zero, suc, ◌+◌, ◌*◌, ◌<◌, ◌≤◌, List, [], ◌∷◌, ◌++◌, length, slice_get, Option, Some, None}
use Rattle.vcp_base.specs.declared.turns.Turn.{Turn}
use Rattle.op_graph.specs.declared.op.TurnNode.{TurnNode}
use Rattle.op_graph.specs.Lists.{turn_of}
use Rattle.op_graph.specs.Rules.{Each, TurnNodeFits}

abbrev pub parent_in : Option TurnNode → ℕ
parent_in None = 0
parent_in (Some t) = t.parent

-- the parent of node n, counted from 1; 0 where there is none
abbrev pub parent : List TurnNode → ℕ → ℕ
parent nodes zero = 0
parent nodes (suc i) = parent_in (slice_get nodes i)

-- the node that is k steps outwards from node n; 0 past the outermost
abbrev pub up : List TurnNode → ℕ → ℕ → ℕ
up nodes n zero = n
up nodes n (suc k) = parent nodes (up nodes n k)

abbrev pub turn_in : Option TurnNode → List Turn
turn_in None = []
turn_in (Some t) = turn_of t ∷ []

-- the turn of node n, where it is there
abbrev pub turn_at : List TurnNode → ℕ → List Turn
turn_at nodes zero = []
turn_at nodes (suc i) = turn_in (slice_get nodes i)

-- the turns of the first k nodes from node n outwards, the outermost of these first
abbrev pub innermost : List TurnNode → ℕ → ℕ → List Turn
innermost nodes n zero = []
innermost nodes n (suc k) = turn_at nodes (up nodes n k) ++ innermost nodes n k

-- turn nodes as a graph has them
pub record AreNodes (nodes : List TurnNode) : Type 0 where
  pub names : ℕ
  pub fit : Each (TurnNodeFits names) [] nodes

-- What is kept of the chain from node n while its turns are told: every 256th node, for the stretches that come later, and the
-- nodes of the present stretch that are left.
pub record Kept (nodes : List TurnNode) (n stretches left : ℕ) (marked filled : List ℕ) : Type 0 where
  pub marks : (i : ℕ) → i < stretches → slice_get marked i ≡ Some (up nodes n (256 * i))
  pub stretch : (i : ℕ) → i < left → slice_get filled i ≡ Some (up nodes n (256 * stretches + i))
  pub there : (k : ℕ) → k < 256 * stretches + left → (1 ≤ up nodes n k) × (up nodes n k ≤ length nodes)
  pub few_stretches : stretches ≤ 256
  pub few_left : left ≤ 256
