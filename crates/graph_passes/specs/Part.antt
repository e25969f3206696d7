-- Part: a part of a graph, whose operations and cells are numbered anew in the old order.
use Rattle.std.specs.Prelude.{◌≡◌, ℕ, zero, suc, ◌<◌, Bool, true, false, not, cond, nat_lt, ℤ, pos, unsigned_abs, List, [], ◌∷◌, length, map, slice_get, Some}
use Rattle.vcp_base.specs.declared.kind.Kind.{Kind}
use Rattle.vcp_base.specs.declared.kind.Kind.TheVariants as kind
use Rattle.vcp_base.specs.declared.ty.Ty.{Ty}
use Rattle.vcp_base.specs.declared.ty.Ty.TheVariants as ty
use Rattle.vcp_base.specs.Kinds.{operands}
use Rattle.vcp_base.specs.Types.{within}
use Rattle.op_graph.specs.declared.op.Op.{Op}
use Rattle.op_graph.specs.declared.op.Outlet.{Outlet}
use Rattle.op_graph.specs.declared.op.Loaded.{Loaded}
use Rattle.op_graph.specs.Lists.{Lists}
use Rattle.op_graph.specs.Rules.{IsGraph}

-- What a part keeps of a graph. An operation stands for itself where it is kept, and may stand for itself by an earlier one that
-- it is joined to; `number` is the new number of each operation that stands.
pub record Numbering : Type 0 where
  pub kept : ℕ → Bool
  pub stands : ℕ → Bool
  pub number : ℕ → ℕ
  pub kept_cell : ℕ → Bool
  pub cell_number : ℕ → ℕ

-- how many of the numbers below n are chosen
abbrev pub below : (ℕ → Bool) → ℕ → ℕ
below choice zero = 0
below choice (suc n) = cond (choice n) (suc (below choice n)) (below choice n)

-- the chosen entries of a list that is numbered from i, each changed by f
abbrev pub chosen : {X Y : Type 0} → (ℕ → Bool) → (X → Y) → ℕ → List X → List Y
chosen choice f i [] = []
chosen choice f i (x ∷ xs) = cond (choice i) (f x ∷ chosen choice f (suc i) xs) (chosen choice f (suc i) xs)

-- the operation's own number: the cell's new number for LOAD and STORE, and else what it was
abbrev pub own_number : Numbering → Kind → ℤ → ℤ
own_number m kind.Load imm = pos (m.cell_number (unsigned_abs imm))
own_number m kind.Store imm = pos (m.cell_number (unsigned_abs imm))
own_number m _ imm = imm

-- the operation with what it reads numbered anew
abbrev pub moved : Numbering → Op → Op
moved m op = record op { a = m.number op.a; b = m.number op.b; c = m.number op.c; imm = own_number m op.kind op.imm }

abbrev pub moved_output : Numbering → Outlet → Outlet
moved_output m o = record o { op = m.number o.op }

abbrev pub moved_load : Numbering → Loaded → Loaded
moved_load m l = record l { load = m.number l.load }

-- the part of a graph that is kept
abbrev pub part_of : Numbering → Lists → Lists
part_of m g = record g {
  outputs = map (moved_output m) g.outputs;
  loads = chosen m.kept_cell (moved_load m) 0 g.loads;
  stores = chosen m.kept_cell m.number 0 g.stores;
  operations = chosen m.kept (moved m) 0 g.operations;
}

-- ---- closed parts

-- what an operand reads stands: the cell of a LOAD, and else the operation
abbrev pub OperandStands : Numbering → Kind → ℤ → ℕ → Type 0
OperandStands m kind.Load imm n = m.kept_cell (unsigned_abs imm) ≡ true
OperandStands m _ imm n = m.stands n ≡ true

-- what an operation reads stands
pub record ReadsStand (m : Numbering) (op : Op) : Type 0 where
  pub first : nat_lt 0 (operands op.kind) ≡ true → OperandStands m op.kind op.imm op.a
  pub second : nat_lt 1 (operands op.kind) ≡ true → OperandStands m op.kind op.imm op.b
  pub third : nat_lt 2 (operands op.kind) ≡ true → OperandStands m op.kind op.imm op.c

-- CONV to a type that has not all values of the other
abbrev pub narrows : Ty → Ty → Bool
narrows ty.Bool to = false
narrows from to = not (within from to)

-- An operation of these types can stop where its operands are in their types: arithmetic, CONV to a narrower type, and INPUT, at
-- whose place a row may have any value.
abbrev pub can_stop : Kind → Ty → Ty → Bool
can_stop kind.Input from to = true
can_stop kind.Neg from to = true
can_stop kind.Add from to = true
can_stop kind.Sub from to = true
can_stop kind.Mul from to = true
can_stop kind.Div from to = true
can_stop kind.Mod from to = true
can_stop kind.Conv from to = narrows from to
can_stop _ from to = false

-- what an operation does, wherever it stands
abbrev pub work : Op → Op
work op = record op { spot = record { line = 0; col = 0 }; turn = 0 }

-- operation i is joined to an earlier one that is kept, and does the same
pub record JoinedTo (m : Numbering) (g : Lists) (i : ℕ) (op : Op) : Type 0 where
  pub place : ℕ
  pub earlier : place < i
  pub kept : m.kept place ≡ true
  pub number : m.number i ≡ m.number place
  pub first : Op
  pub there : slice_get g.operations place ≡ Some first
  pub same : work (moved m op) ≡ work (moved m first)

-- A part is closed: what is read stands, what is kept is numbered in order, and what does not stand cannot stop.
pub record IsClosed (m : Numbering) (g : Lists) : Type 0 where
  pub reads : (i : ℕ) (op : Op) → slice_get g.operations i ≡ Some op → m.stands i ≡ true → ReadsStand m op
  pub outputs : (k : ℕ) (o : Outlet) → slice_get g.outputs k ≡ Some o → m.stands o.op ≡ true
  pub stores : (k n : ℕ) → slice_get g.stores k ≡ Some n → m.kept_cell k ≡ true → m.stands n ≡ true
  pub kept_stands : (i : ℕ) → m.kept i ≡ true → m.stands i ≡ true
  pub kept_number : (i : ℕ) → m.kept i ≡ true → m.number i ≡ below m.kept i
  pub cell_number : (k : ℕ) → m.kept_cell k ≡ true → m.cell_number k ≡ below m.kept_cell k
  pub joined : (i : ℕ) (op : Op) → slice_get g.operations i ≡ Some op → m.kept i ≡ false → m.stands i ≡ true → JoinedTo m g i op
  pub left_out : (i : ℕ) (op : Op) → slice_get g.operations i ≡ Some op → m.stands i ≡ false → can_stop op.kind op.from op.ty ≡ false

-- The operations of inputs and outputs are kept, and those of a cell exactly where the cell is. Cells are numbered in order.
pub record KeepsEntries (m : Numbering) (g : Lists) : Type 0 where
  pub inputs : (i : ℕ) → i < length g.inputs → m.kept i ≡ true
  pub outputs : (k : ℕ) (o : Outlet) → slice_get g.outputs k ≡ Some o → m.kept o.op ≡ true
  pub loads : (k : ℕ) (l : Loaded) → slice_get g.loads k ≡ Some l → m.kept l.load ≡ m.kept_cell k
  pub stores : (k n : ℕ) → slice_get g.stores k ≡ Some n → m.kept n ≡ m.kept_cell k
  pub cell_numbers : (k : ℕ) → m.cell_number k ≡ below m.kept_cell k
  -- the fields of operands that an operation does not have are 0
  pub no_operand : m.number 0 ≡ 0

-- The law of parts: a part of a graph, closed under what is read, that keeps the operations of inputs, outputs and kept cells, is a
-- graph.
abbrev pub PartLaw : Type 0
PartLaw = (m : Numbering) (g : Lists) → IsGraph g → IsClosed m g → KeepsEntries m g → IsGraph (part_of m g)
