-- Building: what each call of a builder adds.
use Rattle.std.specs.Prelude.{ℕ, ℤ, pos, List, [], ◌∷◌, ◌++◌, length, slice_get, Option, Some, None}
use Rattle.vcp_base.specs.declared.spot.Spot.{Spot}
use Rattle.vcp_base.specs.declared.ty.Ty.{Ty}
use Rattle.vcp_base.specs.declared.ty.Ty.TheVariants as ty
use Rattle.vcp_base.specs.declared.kind.Kind.{Kind}
use Rattle.vcp_base.specs.declared.kind.Kind.TheVariants as kind
use Rattle.op_graph.specs.declared.op.Op.{Op}
use Rattle.op_graph.specs.declared.op.Loaded.{Loaded}
use Rattle.op_graph.specs.declared.op.TurnNode.{TurnNode}
use Rattle.op_graph.specs.Lists.{Lists}
use Rattle.op_graph.specs.declared.rules.Place.{Place}

-- an operation of no input, output or cell
abbrev pub nowhere : Place
nowhere = record { input = None; load = None; store = None; out = None }

-- the INPUT, LOAD, STORE or OUT of the input, cell or output of this number, which reads operation a
abbrev pub entry_op : Kind → Ty → ℕ → ℕ → Spot → Op
entry_op k t a number spot = record { kind = k; from = t; ty = t; a = a; b = 0; c = 0; imm = pos number; spot = spot; turn = 0 }

-- one more name
abbrev pub with_name : Lists → List ℕ → Lists
with_name g n = record g { names = g.names ++ n ∷ [] }

-- one more turn node
abbrev pub with_turn_node : Lists → TurnNode → Lists
with_turn_node g t = record g { turn_nodes = g.turn_nodes ++ t ∷ [] }

-- one more operation
abbrev pub with_op : Lists → Op → Lists
with_op g op = record g { operations = g.operations ++ op ∷ [] }

-- one more input and its INPUT
abbrev pub with_input : Lists → ℕ → Ty → Spot → Lists
with_input g name t spot =
    record g { inputs = g.inputs ++ (record { name = name; ty = t }) ∷ []; operations = g.operations ++ entry_op kind.Input t 0 (length g.inputs) spot ∷ [] }

-- one more cell and its LOAD
abbrev pub with_load : Lists → ℕ → Ty → ℤ → Spot → Lists
with_load g name t init spot =
    record g {
      loads = g.loads ++ (record { name = name; ty = t; init = init; load = length g.operations }) ∷ [];
      operations = g.operations ++ entry_op kind.Load t 0 (length g.loads) spot ∷ [];
    }

-- one more output and its OUT, which reads operation `value`
abbrev pub with_output : Lists → ℕ → Ty → ℕ → Spot → Lists
with_output g name t value spot =
    record g {
      outputs = g.outputs ++ (record { name = name; ty = t; op = length g.operations }) ∷ [];
      operations = g.operations ++ entry_op kind.Out t value (length g.outputs) spot ∷ [];
    }

-- the STORE of the first cell that has none, of this type, which reads operation `value`
abbrev pub with_store : Lists → Ty → ℕ → Spot → Lists
with_store g t value spot =
    record g { stores = g.stores ++ length g.operations ∷ []; operations = g.operations ++ entry_op kind.Store t value (length g.stores) spot ∷ [] }

-- the type of a cell, where it is there
abbrev pub type_of : Option Loaded → Ty
type_of None = ty.Bool
type_of (Some l) = l.ty

-- the type of cell number k
abbrev pub cell_type : Lists → ℕ → Ty
cell_type g k = type_of (slice_get g.loads k)
