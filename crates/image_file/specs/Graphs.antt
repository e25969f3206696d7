-- Graphs and tables, as an image says them.
use Rattle.std.specs.Prelude.{◌≡◌, ℕ, ◌-◌, ◌<◌, ◌≤◌, List, length, map, All, Result, Ok, Err, ◌⊎◌}
use Rattle.vcp_base.specs.Limits.{seeds, most_step}
use Rattle.op_graph.specs.Lists.{Lists}
use Rattle.op_graph.specs.Rules.{IsGraph}
use Rattle.signature_table.specs.Signatures.{Numbers, table_of}
use Rattle.image_file.specs.declared.fields.fault.FieldFault.{FieldFault}
use Rattle.image_file.specs.declared.fields.fault.FieldFault.TheVariants as left
use Rattle.image_file.specs.declared.fault.ImageFault.{ImageFault}
use Rattle.image_file.specs.declared.fault.ImageFault.TheVariants as at
use Rattle.image_file.specs.Pieces.{FaultOf}
use Rattle.image_file.specs.Image.{Parts, load_of, store_of, image_piece, image_of}

-- the graph that the parts say
abbrev pub lists_of : Parts → Lists
lists_of p = record {
  profile = p.profile;
  names = p.names;
  inputs = p.inputs;
  outputs = p.outputs;
  loads = map load_of p.cells;
  stores = map store_of p.cells;
  turn_nodes = p.turn_nodes;
  operations = p.operations;
}

-- a graph, a seed and a step that have an image
pub record HasImage (g : Lists) (seed step : ℕ) : Type 0 where
  pub graph : IsGraph g
  pub seed_to : seed < seeds
  pub step_from : 1 ≤ step
  pub step_to : step ≤ most_step

-- the bytes are the image of some graph, seed and step
abbrev pub IsImage : List ℕ → Type 0
IsImage bytes = (g : Lists) × (seed : ℕ) × (step : ℕ) × HasImage g seed step × (bytes ≡ image_of g seed step)

-- a fault with its offset, in so many bytes
abbrev pub placed : ℕ → FieldFault → ImageFault
placed len (left.Magic n) = at.Magic (len - n)
placed len (left.Version n) = at.Version (len - n)
placed len left.Short = at.Short len
placed len (left.Field n) = at.Field (len - n)
placed len (left.Operand n) = at.Operand (len - n)
placed len (left.Table n stored expected) = at.Table (len - n) stored expected
placed len (left.Rest n) = at.Rest (len - n)

-- the fault of the bytes, by fields
abbrev pub ImageFaultAt : List ℕ → ImageFault → Type 0
ImageFaultAt bytes e = (f : FieldFault) × FaultOf image_piece bytes f × (e ≡ placed (length bytes) f)

-- the answer is this one, or memory ran out
abbrev pub OrMemory : {X : Type 0} → Result X ImageFault → X → Type 0
OrMemory (Ok x) y = x ≡ y
OrMemory (Err e) y = e ≡ at.Memory

-- the answer is a graph and its table, whose image the bytes are, or the fault of the bytes; or memory ran out
abbrev pub Reads : List ℕ → Result (Lists × Numbers) ImageFault → Type 0
Reads bytes (Ok x) = HasImage x.0 x.1.seed x.1.step × (bytes ≡ image_of x.0 x.1.seed x.1.step) × (x.1 ≡ table_of x.1.seed x.1.step x.0)
Reads bytes (Err at.Memory) = Unit {0}
Reads bytes (Err e) = ImageFaultAt bytes e

-- an image is of one graph, seed and step
abbrev pub OneGraph : Type 0
OneGraph =
    (g h : Lists) (seed other_seed step other_step : ℕ) → HasImage g seed step → HasImage h other_seed other_step
    → image_of g seed step ≡ image_of h other_seed other_step → (g ≡ h) × (seed ≡ other_seed) × (step ≡ other_step)

-- bytes have one fault at most
abbrev pub OneFault : Type 0
OneFault = (bytes : List ℕ) (e f : ImageFault) → ImageFaultAt bytes e → ImageFaultAt bytes f → e ≡ f

-- an image has no fault
abbrev pub NoFault : Type 0
NoFault = (g : Lists) (seed step : ℕ) (e : ImageFault) → HasImage g seed step → ImageFaultAt (image_of g seed step) e → ⊥

-- bytes that are no image have a fault
abbrev pub ImageOrFault : Type 0
ImageOrFault = (bytes : List ℕ) → All (λ b. b < 256) bytes → IsImage bytes ⊎ ((e : ImageFault) × ImageFaultAt bytes e)
