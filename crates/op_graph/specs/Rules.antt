-- Rules: what makes lists a graph. They are the rules that the image format has for a graph.
use Rattle.std.specs.Option.{is_some}
use Rattle.std.specs.Ordering.{int_eq}
use Rattle.std.specs.Int.{w64}
use Rattle.vcp_base.specs.declared.spot.Spot.{Spot}
use Rattle.std.specs.Prelude.{FitsSigned, ◌≡◌, ℕ, ◌+◌, ◌^◌, ◌<◌, ◌≤◌, ◌==◌, ℤ, pos, Bool, true, false, not, ◌&&◌, ◌||◌, cond, nat_lt, nat_le, List, [], ◌∷◌}
use Rattle.std.specs.Prelude.{◌++◌}
use Rattle.std.specs.Prelude.{length, slice_get, All, Option, Some, None}
use Rattle.vcp_base.specs.declared.code.Profile.{Profile}
use Rattle.vcp_base.specs.declared.ty.Ty.{Ty}
use Rattle.vcp_base.specs.declared.ty.Ty.TheVariants as ty
use Rattle.vcp_base.specs.declared.kind.Kind.{Kind}
use Rattle.vcp_base.specs.declared.kind.Kind.TheVariants as kind
use Rattle.vcp_base.specs.Code.{admits}
use Rattle.vcp_base.specs.Types.{fits, within}
pub use Rattle.vcp_base.specs.Types.{same_type, is_number}
use Rattle.vcp_base.specs.Kinds.{operands, operand_type}
use Rattle.vcp_base.specs.Limits.{most_names, most_cells, most_turn_nodes, most_operations}
use Rattle.vcp_base.specs.Names.{NameFits}
use Rattle.op_graph.specs.declared.op.Op.{Op}
use Rattle.op_graph.specs.declared.op.Var.{Var}
use Rattle.op_graph.specs.declared.op.Outlet.{Outlet}
use Rattle.op_graph.specs.declared.op.Loaded.{Loaded}
use Rattle.op_graph.specs.declared.op.TurnNode.{TurnNode}
use Rattle.op_graph.specs.declared.rules.Entry.{Entry}
use Rattle.op_graph.specs.declared.rules.Place.{Place}
use Rattle.op_graph.specs.Lists.{Lists}

-- P holds of each entry and those before it in its list
abbrev pub Each : {X : Type 0} → (List X → X → Type 0) → List X → List X → Type 0
Each P before [] = Unit {0}
Each P before (x ∷ xs) = P before x × Each P (before ++ x ∷ []) xs

-- ---- inputs, outputs, cells and turn nodes, where there are so many names and operations

-- an input may follow those before it: its name is there, and above theirs
pub record InputFits (names : ℕ) (before : List Var) (v : Var) : Type 0 where
  pub name : v.name < names
  pub name_rises : All (λ w. w.name < v.name) before

-- an output may follow those before it: its name and operation are there, and above theirs
pub record OutputFits (names operations : ℕ) (before : List Outlet) (o : Outlet) : Type 0 where
  pub name : o.name < names
  pub name_rises : All (λ p. p.name < o.name) before
  pub operation : o.op < operations
  pub operation_rises : All (λ p. p.op < o.op) before

-- what a cell's LOAD makes may follow those before it: its initial value is in its type, and its LOAD is there and above theirs
pub record LoadFits (names operations : ℕ) (before : List Loaded) (l : Loaded) : Type 0 where
  pub name : l.name < names
  pub init : fits l.ty l.init ≡ true
  pub load : l.load < operations
  pub load_rises : All (λ m. m.load < l.load) before

-- the LOAD of a cell, where it is there, is before operation n
abbrev pub LoadedBefore : Option Loaded → ℕ → Type 0
LoadedBefore None n = ⊥
LoadedBefore (Some l) n = l.load < n

-- a cell's STORE may follow those before it: it is there, above theirs, and after the LOAD of the cell
pub record StoreFits (loads : List Loaded) (operations : ℕ) (before : List ℕ) (n : ℕ) : Type 0 where
  pub store : n < operations
  pub store_rises : All (λ m. m < n) before
  pub after_load : LoadedBefore (slice_get loads (length before)) n

-- a turn node may follow those before it: its parent, counted from 1, is before it, or 0 for none, and its name is there
pub record TurnNodeFits (names : ℕ) (before : List TurnNode) (t : TurnNode) : Type 0 where
  pub parent : t.parent ≤ length before
  pub name : t.name < names

-- ---- what other lists say of an operation

-- an input, output or cell that an operation belongs to: its number in its list, and its type
abbrev pub entry : ℕ → Ty → Entry
entry n t = record { number = n; ty = t }

-- the lists that say which operations are an input's, an output's or a cell's
pub record Scope : Type 0 where
  pub inputs : List Var
  pub outputs : List Outlet
  pub loads : List Loaded
  pub stores : List ℕ

-- input i, for the inputs are the first operations, in order
abbrev pub numbered : ℕ → Option Var → Option Entry
numbered i None = None
numbered i (Some v) = Some (entry i v.ty)

-- the first entry that passes the test, in a list that is numbered from k
abbrev pub found : {X : Type 0} → (X → Bool) → (X → Ty) → ℕ → List X → Option Entry
found p t k [] = None
found p t k (x ∷ xs) = cond (p x) (Some (entry k (t x))) (found p t (k + 1) xs)

-- cell k
abbrev pub cell_entry : ℕ → Option Loaded → Option Entry
cell_entry k None = None
cell_entry k (Some l) = Some (entry k l.ty)

-- the first cell that is stored by operation i, in a list that is numbered from k
abbrev pub stored_by : List Loaded → ℕ → ℕ → List ℕ → Option Entry
stored_by loads i k [] = None
stored_by loads i k (n ∷ ns) = cond (n == i) (cell_entry k (slice_get loads k)) (stored_by loads i (k + 1) ns)

-- what operation i is by the other lists
abbrev pub place_of : Scope → ℕ → Place
place_of s i = record {
  input = numbered i (slice_get s.inputs i);
  load = found (λ l. l.load == i) (λ l. l.ty) 0 s.loads;
  store = stored_by s.loads i 0 s.stores;
  out = found (λ o. o.op == i) (λ o. o.ty) 0 s.outputs;
}

-- the input, output or cell of an operation of this kind
abbrev pub entry_of : Place → Kind → Option Entry
entry_of p kind.Input = p.input
entry_of p kind.Load = p.load
entry_of p kind.Store = p.store
entry_of p kind.Out = p.out
entry_of p _ = None

-- how many inputs, cells and outputs an entry is
abbrev pub one : Option Entry → ℕ
one None = 0
one (Some e) = 1

-- in how many lists an operation stands
abbrev pub lists_of : Place → ℕ
lists_of p = one p.input + one p.load + one p.store + one p.out

-- ---- operations

abbrev pub is_input : Kind → Bool
is_input kind.Input = true
is_input _ = false

abbrev pub is_load : Kind → Bool
is_load kind.Load = true
is_load _ = false

abbrev pub is_store : Kind → Bool
is_store kind.Store = true
is_store _ = false

abbrev pub is_out : Kind → Bool
is_out kind.Out = true
is_out _ = false

-- both hold, or neither does
abbrev pub agree : Bool → Bool → Bool
agree true b = b
agree false b = not b

-- the kind is INPUT exactly at an input's operation, LOAD and STORE exactly at a cell's, OUT exactly at an output's
abbrev pub kind_fits : Place → Kind → Bool
kind_fits p k =
    agree (is_input k) (is_some p.input) && agree (is_load k) (is_some p.load) && agree (is_store k) (is_some p.store) && agree (is_out k) (is_some p.out)

-- CONV goes to another type: from a number to a number, and from BOOL to INT
abbrev pub converts : Ty → Ty → Bool
converts from to = is_number to && not (same_type from to) && (is_number from || same_type to ty.Int)

-- a kind takes operands of the type: arithmetic and `<` take numbers, logic takes BOOL, every other kind any type
abbrev pub takes_type : Kind → Ty → Bool
takes_type kind.Neg from = is_number from
takes_type kind.Add from = is_number from
takes_type kind.Sub from = is_number from
takes_type kind.Mul from = is_number from
takes_type kind.Div from = is_number from
takes_type kind.Mod from = is_number from
takes_type kind.Lt from = is_number from
takes_type kind.Not from = same_type from ty.Bool
takes_type kind.And from = same_type from ty.Bool
takes_type kind.Or from = same_type from ty.Bool
takes_type kind.Xor from = same_type from ty.Bool
takes_type _ from = true

-- the type of the operands: that of the input, cell or output, and else one that the kind takes
abbrev pub from_fits : Option Entry → Kind → Ty → Bool
from_fits None k from = takes_type k from
from_fits (Some e) k from = same_type e.ty from

-- the type of the result, where that of the operands fits: BOOL for comparisons, one to convert to for CONV, and else the same
abbrev pub ty_fits : Kind → Ty → Ty → Bool
ty_fits kind.Conv from to = converts from to
ty_fits kind.Eq from to = same_type to ty.Bool
ty_fits kind.Lt from to = same_type to ty.Bool
ty_fits _ from to = same_type from to

-- the types of operands and result of an operation that is no input's, output's or cell's
abbrev pub types_fit : Kind → Ty → Ty → Bool
types_fit k from to = takes_type k from && ty_fits k from to

-- the type in which operand j is read; LOAD reads its cell, and no operation
abbrev pub reads_as : Kind → Ty → ℕ → Option Ty
reads_as kind.Load from j = None
reads_as k from j = cond (nat_lt j (operands k)) (Some (operand_type k j from)) None

-- an operand is an operation before this one, whose type is within the type in which it is read; 0 where there is no operand
abbrev pub operand_fits : List Op → Option Ty → ℕ → Bool
operand_fits before None n = n == 0
operand_fits before (Some t) n = elim (slice_get before n) [ None ↦ false | Some op ↦ within op.ty t ]

-- imm is the number of the input, cell or output, a value of the type for CONST, and else 0
abbrev pub imm_fits : Option Entry → Kind → Ty → ℤ → Bool
imm_fits None kind.Const to v = fits to v
imm_fits None k to v = int_eq v (pos 0)
imm_fits (Some e) k to v = int_eq v (pos e.number)

-- the turn is 0 for INPUT, LOAD, STORE and OUT, and else 0 or the number of a turn node, from 1
abbrev pub turn_fits : Option Entry → ℕ → ℕ → Bool
turn_fits None turn_nodes n = nat_le n turn_nodes
turn_fits (Some e) turn_nodes n = n == 0

-- an operation that is this by the other lists may follow those before it
pub record OpFits (p : Place) (turn_nodes : ℕ) (before : List Op) (op : Op) : Type 0 where
  pub kind : kind_fits p op.kind ≡ true
  pub from : from_fits (entry_of p op.kind) op.kind op.from ≡ true
  pub ty : ty_fits op.kind op.from op.ty ≡ true
  pub a : operand_fits before (reads_as op.kind op.from 0) op.a ≡ true
  pub b : operand_fits before (reads_as op.kind op.from 1) op.b ≡ true
  pub c : operand_fits before (reads_as op.kind op.from 2) op.c ≡ true
  pub imm : imm_fits (entry_of p op.kind) op.kind op.ty op.imm ≡ true
  pub turn : turn_fits (entry_of p op.kind) turn_nodes op.turn ≡ true

abbrev pub Operates : Scope → ℕ → List Op → Op → Type 0
Operates s turn_nodes before op = OpFits (place_of s (length before)) turn_nodes before op

-- ---- the whole

abbrev pub scope : Lists → Scope
scope g = record { inputs = g.inputs; outputs = g.outputs; loads = g.loads; stores = g.stores }

-- lines and columns have 32 bits
abbrev pub PlaceFits : Spot → Type 0
PlaceFits s = (s.line < 2 ^ 32) × (s.col < 2 ^ 32)

-- the numbers that no other rule bounds have the widths of the format: 32 bits for lines and columns, 64 for the values of turns
pub record Widths (g : Lists) : Type 0 where
  pub places : All (λ op. PlaceFits op.spot) g.operations
  pub values : All (λ t. FitsSigned w64 t.value) g.turn_nodes

-- an operation's types are of the code
abbrev pub Admitted : Profile → Op → Type 0
Admitted p op = (admits p op.from ≡ true) × (admits p op.ty ≡ true)

-- a graph has the types of its code, so a narrow one has no LINT
pub record HasTypes (g : Lists) : Type 0 where
  pub operations : All (Admitted g.profile) g.operations
  pub loads : All (λ l. admits g.profile l.ty ≡ true) g.loads

-- a graph, of whose cells the first ones are stored and the others are not yet
pub record IsPart (g : Lists) : Type 0 where
  pub few_names : length g.names ≤ most_names
  pub few_inputs : length g.inputs ≤ most_names
  pub few_outputs : length g.outputs ≤ most_names
  pub few_cells : length g.loads ≤ most_cells
  pub few_turn_nodes : length g.turn_nodes ≤ most_turn_nodes
  pub few_operations : length g.operations ≤ most_operations
  pub enough_operations : length g.inputs + length g.outputs + length g.loads + length g.stores ≤ length g.operations
  pub stored : length g.stores ≤ length g.loads
  pub names : Each (NameFits (λ n. n)) [] g.names
  pub inputs : Each (InputFits (length g.names)) [] g.inputs
  pub outputs : Each (OutputFits (length g.names) (length g.operations)) [] g.outputs
  pub loads : Each (LoadFits (length g.names) (length g.operations)) [] g.loads
  pub stores : Each (StoreFits g.loads (length g.operations)) [] g.stores
  pub turn_nodes : Each (TurnNodeFits (length g.names)) [] g.turn_nodes
  pub operations : Each (Operates (scope g) (length g.turn_nodes)) [] g.operations
  pub widths : Widths g
  pub types : HasTypes g

-- a graph: every cell is stored too
pub record IsGraph (g : Lists) : Type 0 where
  pub part : IsPart g
  pub all_stored : length g.stores ≡ length g.loads
