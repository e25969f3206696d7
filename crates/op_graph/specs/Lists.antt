-- Lists: what a graph, or a part of one that is being built, is made of.
use Rattle.std.specs.Prelude.{ℕ, suc, ◌==◌, cond, List, [], ◌∷◌, ◌++◌, length, reverse, slice_index_or}
use Rattle.vcp_base.specs.declared.code.Profile.{Profile}
use Rattle.vcp_base.specs.declared.turns.Turn.{Turn}
use Rattle.vcp_base.specs.declared.columns.Column.{Column}
use Rattle.op_graph.specs.declared.op.Op.{Op}
use Rattle.op_graph.specs.declared.op.Var.{Var}
use Rattle.op_graph.specs.declared.op.Outlet.{Outlet}
use Rattle.op_graph.specs.declared.op.Loaded.{Loaded}
use Rattle.op_graph.specs.declared.op.Cell.{Cell}
use Rattle.op_graph.specs.declared.op.TurnNode.{TurnNode}
use Rattle.op_graph.specs.declared.lists.GraphLists.{GraphLists}

-- The code, and the lists. A cell stands in two of them at one place: what its LOAD makes in `loads`, and the number of its
-- STORE in `stores`.
pub record Lists : Type 0 where
  pub profile : Profile
  pub names : List (List ℕ)
  pub inputs : List Var
  pub outputs : List Outlet
  pub loads : List Loaded
  pub stores : List ℕ
  pub turn_nodes : List TurnNode
  pub operations : List Op

-- the same of the code's lists
abbrev pub lists_of : GraphLists → Lists
lists_of g = record {
  profile = g.profile;
  names = g.names.items;
  inputs = g.inputs.items;
  outputs = g.outputs.items;
  loads = g.loads.items;
  stores = g.stores.items;
  turn_nodes = g.turn_nodes.items;
  operations = g.operations.items;
}

-- before anything is added
abbrev pub nothing : Profile → Lists
nothing p = record { profile = p; names = []; inputs = []; outputs = []; loads = []; stores = []; turn_nodes = []; operations = [] }

-- the cell of what its LOAD makes and of the number of its STORE
abbrev pub whole_cell : Loaded → ℕ → Cell
whole_cell l n = record { name = l.name; ty = l.ty; init = l.init; load = l.load; store = n }

-- the cells of which both parts are there
abbrev pub joined : List Loaded → List ℕ → List Cell
joined [] stores = []
joined (l ∷ loads) [] = []
joined (l ∷ loads) (n ∷ stores) = whole_cell l n ∷ joined loads stores

-- the cells of a graph
abbrev pub cells : Lists → List Cell
cells g = joined g.loads g.stores

-- the input's name and type
abbrev pub column : List (List ℕ) → Var → Column
column names v = record { name = slice_index_or names v.name []; ty = v.ty }

-- the output's name and type
abbrev pub output_column : List (List ℕ) → Outlet → Column
output_column names o = record { name = slice_index_or names o.name []; ty = o.ty }

-- the turn that a node stands for
abbrev pub turn_of : TurnNode → Turn
turn_of t = record { name = t.name; value = t.value }

-- the turns from node n, counted from 1, outwards; the nodes come last first, and a parent stands before its node
abbrev pub turns_back : List TurnNode → ℕ → List Turn
turns_back [] n = []
turns_back (t ∷ earlier) n = cond (suc (length earlier) == n) (turns_back earlier t.parent ++ turn_of t ∷ []) (turns_back earlier n)

-- the turns round an operation of turn node n, outermost first; none for 0
abbrev pub turns_of : Lists → ℕ → List Turn
turns_of g n = turns_back (reverse g.turn_nodes) n
