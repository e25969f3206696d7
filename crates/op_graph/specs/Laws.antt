-- Laws: what holds of the runs of all graphs, finished and unfinished.
use Rattle.std.specs.Prelude.{◌≡◌, ◌≢◌, ◌+◌, ◌<◌, ℕ, ℤ, List, [], ◌++◌, length, take, slice_get, true, Some, None, IfSome}
use Rattle.vcp_base.specs.declared.kind.StopKind.TheVariants as stop
use Rattle.vcp_base.specs.declared.ty.Ty.{Ty}
use Rattle.vcp_base.specs.Types.{fits, within}
use Rattle.op_graph.specs.declared.op.Loaded.{Loaded}
use Rattle.op_graph.specs.declared.op.Op.{Op}
use Rattle.op_graph.specs.declared.op.Outlet.{Outlet}
use Rattle.op_graph.specs.declared.op.TurnNode.{TurnNode}
use Rattle.op_graph.specs.declared.op.Var.{Var}
use Rattle.op_graph.specs.Lists.{Lists, joined, whole_cell}
use Rattle.op_graph.specs.Reads.{Reads, Linked}
use Rattle.op_graph.specs.Rules.{IsGraph, IsPart, Each, Scope, InputFits, OutputFits, LoadFits, StoreFits, TurnNodeFits, OpFits, Operates}
use Rattle.op_graph.specs.Rules.{operand_fits, scope, place_of}
use Rattle.op_graph.specs.Walk.{passed, next_passed, walked_to, stored_to}
use Rattle.op_graph.specs.GraphRun.{CellsFit, OutputsFit, ValuesFit, initial, stored, graph_run}
use Rattle.op_graph.specs.GraphRun.{cycle as cycle_of}

-- operands are in their types: no operation stops at one, and values, cells and outputs fit
pub record OperandLaws : Type 0 where
  -- in a cycle and in a run of a graph, and in a cycle of an unfinished one
  pub cycle : (g : Lists) (held row : List ℤ) → IsGraph g → CellsFit g held → (cycle_of g held row).stop ≢ Some stop.Operand
  pub run : (g : Lists) (rows : List (List ℤ)) → IsGraph g → IfSome (graph_run g rows).end (λ e. e.kind ≢ stop.Operand)
  pub part : (g : Lists) (held row : List ℤ) → IsPart g → CellsFit g held → (cycle_of g held row).stop ≢ Some stop.Operand
  -- the cells, before the first cycle and after each
  pub cells_at_first : (g : Lists) → IsGraph g → CellsFit g (initial g)
  pub cells_kept : (g : Lists) (held row : List ℤ) → IsGraph g → CellsFit g held → (cycle_of g held row).stop ≡ None
      → CellsFit g (stored g (cycle_of g held row).values)
  -- the outputs, and the operations of a cycle, finished or not
  pub outputs : (g : Lists) (held row : List ℤ) → IsGraph g → CellsFit g held → (cycle_of g held row).stop ≡ None → OutputsFit g (cycle_of g held row).values
  pub values : (g : Lists) (held row : List ℤ) → IsPart g → CellsFit g held → ValuesFit g (cycle_of g held row).values
  -- where a type is taken for a wider one
  pub wider : (s t : Ty) (v : ℤ) → within s t ≡ true → fits s v ≡ true → fits t v ≡ true

-- what operations read is there
pub record ReadLaws : Type 0 where
  -- what may be read may still be read when operations are added
  pub stays : (before more : List Op) (t : Ty) (n : ℕ) → operand_fits before (Some t) n ≡ true → operand_fits (before ++ more) (Some t) n ≡ true
  -- it is an earlier operation, or the cell of a LOAD
  pub earlier : (g : Lists) (q k j : ℕ) → IsPart g → Reads g.operations q k j → k < q
  pub linked : (g : Lists) (turns : ℕ) (before : List Op) (op : Op) → IsGraph g → Operates (scope g) turns before op → Linked g.stores before op

-- each entry of a graph, finished or not, keeps the rule of its list after the entries before it
pub record EntryLaws : Type 0 where
  pub input : (g : Lists) (k : ℕ) (v : Var) → IsPart g → slice_get g.inputs k ≡ Some v → InputFits (length g.names) (take k g.inputs) v
  pub output : (g : Lists) (k : ℕ) (o : Outlet) → IsPart g → slice_get g.outputs k ≡ Some o →
      OutputFits (length g.names) (length g.operations) (take k g.outputs) o
  pub load : (g : Lists) (k : ℕ) (l : Loaded) → IsPart g → slice_get g.loads k ≡ Some l →
      LoadFits (length g.names) (length g.operations) (take k g.loads) l
  pub store : (g : Lists) (k n : ℕ) → IsPart g → slice_get g.stores k ≡ Some n → StoreFits g.loads (length g.operations) (take k g.stores) n
  pub turn_node : (g : Lists) (k : ℕ) (t : TurnNode) → IsPart g → slice_get g.turn_nodes k ≡ Some t →
      TurnNodeFits (length g.names) (take k g.turn_nodes) t
  pub operation : (g : Lists) (k : ℕ) (op : Op) → IsPart g → slice_get g.operations k ≡ Some op →
      OpFits (place_of (scope g) k) (length g.turn_nodes) (take k g.operations) op

-- the cells of which both parts are there: as many as STOREs, each with the LOAD at its place
pub record CellLaws : Type 0 where
  pub count : (loads : List Loaded) (stores : List ℕ) → length stores ≡ length loads → length (joined loads stores) ≡ length loads
  pub at : (loads : List Loaded) (stores : List ℕ) (i : ℕ) (l : Loaded) (n : ℕ) → slice_get loads i ≡ Some l → slice_get stores i ≡ Some n →
      slice_get (joined loads stores) i ≡ Some (whole_cell l n)

-- The output or cell of each operation is what one walk over each list finds, where the operations of the list rise: the walk
-- begins at the front, and goes on by one entry past each that it finds.
pub record WalkLaws : Type 0 where
  pub out : (s : Scope) (names n i : ℕ) → Each (OutputFits names n) [] s.outputs → (place_of s i).out ≡ walked_to (λ o. o.op) (λ o. o.ty) i s.outputs
  pub load : (s : Scope) (names n i : ℕ) → Each (LoadFits names n) [] s.loads → (place_of s i).load ≡ walked_to (λ l. l.load) (λ l. l.ty) i s.loads
  pub store : (s : Scope) (n i : ℕ) → Each (StoreFits s.loads n) [] s.stores → (place_of s i).store ≡ stored_to s.loads i s.stores
  pub out_begins : (outputs : List Outlet) → passed (λ o. o.op) 0 outputs ≡ 0
  pub load_begins : (loads : List Loaded) → passed (λ l. l.load) 0 loads ≡ 0
  pub store_begins : (stores : List ℕ) → passed (λ n. n) 0 stores ≡ 0
  pub out_goes_on : (outputs : List Outlet) (names n i : ℕ) → Each (OutputFits names n) [] outputs →
      passed (λ o. o.op) (i + 1) outputs ≡ next_passed (λ o. o.op) i outputs
  pub load_goes_on : (loads : List Loaded) (names n i : ℕ) → Each (LoadFits names n) [] loads →
      passed (λ l. l.load) (i + 1) loads ≡ next_passed (λ l. l.load) i loads
  pub store_goes_on : (loads : List Loaded) (stores : List ℕ) (n i : ℕ) → Each (StoreFits loads n) [] stores →
      passed (λ m. m) (i + 1) stores ≡ next_passed (λ m. m) i stores
