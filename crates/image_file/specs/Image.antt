-- The image: its fields, as the table of the format is read.
-- An image is one list of bytes, defined field by field: each field with what may be there, given the
-- fields before it, how it is spelled, and its fault. A graph, a seed below 2^30 and a step of 1 to 1000 have
-- one image, in version 1 for the narrow code and 2 for the wide one.
use Rattle.std.specs.Prelude.{ℕ, ◌+◌, ◌*◌, ℤ, true, ◌&&◌, nat_lt, nat_le, unsigned_abs, List, length, map}
use Rattle.vcp_base.specs.declared.spot.Spot.{Spot}
use Rattle.vcp_base.specs.declared.ty.Ty.{Ty}
use Rattle.vcp_base.specs.declared.kind.Kind.{Kind}
use Rattle.vcp_base.specs.declared.code.Profile.{Profile}
use Rattle.vcp_base.specs.Limits.{seeds, most_step, most_names, most_cells, most_turn_nodes, most_operations}
use Rattle.op_graph.specs.declared.op.Op.{Op}
use Rattle.op_graph.specs.declared.op.Var.{Var}
use Rattle.op_graph.specs.declared.op.Outlet.{Outlet}
use Rattle.op_graph.specs.declared.op.Loaded.{Loaded}
use Rattle.op_graph.specs.declared.op.Cell.{Cell}
use Rattle.op_graph.specs.declared.op.TurnNode.{TurnNode}
use Rattle.op_graph.specs.Lists.{Lists, cells}
use Rattle.op_graph.specs.Rules.{Scope, place_of, entry_of, kind_fits, from_fits, ty_fits, reads_as, operand_fits, imm_fits, turn_fits}
use Rattle.op_graph.specs.declared.rules.Place.{Place}
use Rattle.signature_table.specs.Signatures.{correction, store_of as store_of_cell}
use Rattle.image_file.specs.declared.fields.fault.FieldFault.TheVariants.{Field}
use Rattle.image_file.specs.Pieces.{FormatPiece, before, whole, listed}
use Rattle.image_file.specs.Fields.{number16, number, signed, type_field, version_field, kind_field, fixed, operand, residue}
use Rattle.image_file.specs.Entries.{name_piece, input_piece, output_piece, cell_piece, turn_piece}

-- ---- the head

pub record Head : Type 0 where
  pub profile : Profile
  pub step : ℕ
  pub seed : ℕ
  pub names : ℕ
  pub inputs : ℕ
  pub outputs : ℕ
  pub cells : ℕ
  pub turn_nodes : ℕ
  pub operations : ℕ

abbrev pub head_with : Profile → ℕ → ℕ → ℕ → ℕ → ℕ → ℕ → ℕ → ℕ → Head
head_with p step seed names inputs outputs cells turn_nodes operations = record {
  profile = p;
  step = step;
  seed = seed;
  names = names;
  inputs = inputs;
  outputs = outputs;
  cells = cells;
  turn_nodes = turn_nodes;
  operations = operations;
}

-- cells, turn nodes and operations, of which there are at least as many as inputs, outputs and cells need
unfoldable pub later_counts : Profile → ℕ → ℕ → ℕ → ℕ → ℕ → FormatPiece Head
later_counts p step seed names inputs outputs =
    before (number (λ n. nat_le n most_cells)) (λ h. h.cells) (λ cells.
    before (number (λ n. nat_le n most_turn_nodes)) (λ h. h.turn_nodes) (λ turn_nodes.
    before (number (λ n. nat_le (inputs + outputs + 2 * cells) n && nat_le n most_operations)) (λ h. h.operations) (λ operations.
    whole (head_with p step seed names inputs outputs cells turn_nodes operations))))

-- names, inputs and outputs, and then the others
unfoldable pub entry_counts : Profile → ℕ → ℕ → FormatPiece Head
entry_counts p step seed =
    before (number (λ n. nat_le n most_names)) (λ h. h.names) (λ names.
    before (number (λ n. nat_le n most_names)) (λ h. h.inputs) (λ inputs.
    before (number (λ n. nat_le n most_names)) (λ h. h.outputs) (λ outputs.
    later_counts p step seed names inputs outputs)))

unfoldable pub counts_piece : FormatPiece Head
counts_piece =
    before version_field (λ h. h.profile) (λ p.
    before (number16 (λ n. nat_le 1 n && nat_le n most_step) (λ left n. Field left)) (λ h. h.step) (λ step.
    before (number (λ n. nat_lt n seeds)) (λ h. h.seed) (λ seed.
    entry_counts p step seed)))

-- `VCPANBD` and a line feed, and the numbers
unfoldable pub head_piece : FormatPiece Head
head_piece = fixed 86 (fixed 67 (fixed 80 (fixed 65 (fixed 78 (fixed 66 (fixed 68 (fixed 10 counts_piece)))))))

-- ---- operations

-- what the fields before the operations say
pub record Said : Type 0 where
  pub profile : Profile
  pub seed : ℕ
  pub step : ℕ
  pub scope : Scope
  pub cells : List Cell
  pub turn_nodes : ℕ

abbrev pub spot_of : ℕ → ℕ → Spot
spot_of line col = record { line = line; col = col }

abbrev pub op_of : Kind → Ty → Ty → ℕ → ℕ → ℕ → ℤ → ℕ → ℕ → ℕ → Op
op_of k from to a b c imm line col turn = record { kind = k; from = from; ty = to; a = a; b = b; c = c; imm = imm; spot = spot_of line col; turn = turn }

-- the correction of an operation after others
abbrev pub correction_of : Said → List Op → Op → ℕ
correction_of s earlier op = correction s.profile s.seed s.step (length earlier) op (store_of_cell s.cells (unsigned_abs op.imm))

-- the correction of an operation after others, with which the operation ends
unfoldable pub corrected : Said → List Op → Op → FormatPiece Op
corrected s earlier op = before (residue s.profile (correction_of s earlier op)) (λ o. correction_of s earlier o) (λ n. whole op)

-- the number, the place and the turn of an operation
unfoldable pub op_number : Place → Said → List Op → Kind → Ty → Ty → ℕ → ℕ → ℕ → FormatPiece Op
op_number p s earlier k from to a b c =
    before (signed (imm_fits (entry_of p k) k to)) (λ o. o.imm) (λ imm.
    before (number (λ n. true)) (λ o. o.spot.line) (λ line.
    before (number (λ n. true)) (λ o. o.spot.col) (λ col.
    before (number (turn_fits (entry_of p k) s.turn_nodes)) (λ o. o.turn) (λ turn.
    corrected s earlier (op_of k from to a b c imm line col turn)))))

-- its operands, and then these
unfoldable pub op_operands : Place → Said → List Op → Kind → Ty → Ty → FormatPiece Op
op_operands p s earlier k from to =
    before (operand (operand_fits earlier (reads_as k from 0))) (λ o. o.a) (λ a.
    before (operand (operand_fits earlier (reads_as k from 1))) (λ o. o.b) (λ b.
    before (operand (operand_fits earlier (reads_as k from 2))) (λ o. o.c) (λ c.
    op_number p s earlier k from to a b c)))

unfoldable pub op_by : Place → Said → List Op → FormatPiece Op
op_by p s earlier =
    before (kind_field (kind_fits p)) (λ o. o.kind) (λ k.
    before (type_field s.profile (from_fits (entry_of p k) k)) (λ o. o.from) (λ from.
    before (type_field s.profile (ty_fits k from)) (λ o. o.ty) (λ to.
    op_operands p s earlier k from to)))

-- an operation after others, which is this by the other lists
abbrev pub op_piece : Said → List Op → FormatPiece Op
op_piece s earlier = op_by (place_of s.scope (length earlier)) s earlier

-- ---- the whole

pub record Parts : Type 0 where
  pub profile : Profile
  pub step : ℕ
  pub seed : ℕ
  pub names : List (List ℕ)
  pub inputs : List Var
  pub outputs : List Outlet
  pub cells : List Cell
  pub turn_nodes : List TurnNode
  pub operations : List Op

abbrev pub load_of : Cell → Loaded
load_of c = record { name = c.name; ty = c.ty; init = c.init; load = c.load }

abbrev pub store_of : Cell → ℕ
store_of c = c.store

abbrev pub said : Profile → ℕ → ℕ → List Var → List Outlet → List Cell → ℕ → Said
said p seed step inputs outputs cs turn_nodes = record {
  profile = p;
  seed = seed;
  step = step;
  cells = cs;
  turn_nodes = turn_nodes;
  scope = record { inputs = inputs; outputs = outputs; loads = map load_of cs; stores = map store_of cs };
}

abbrev pub head_of : Parts → Head
head_of p = record {
  profile = p.profile;
  step = p.step;
  seed = p.seed;
  names = length p.names;
  inputs = length p.inputs;
  outputs = length p.outputs;
  cells = length p.cells;
  turn_nodes = length p.turn_nodes;
  operations = length p.operations;
}

abbrev pub parts_with : Profile → ℕ → ℕ → List (List ℕ) → List Var → List Outlet → List Cell → List TurnNode → List Op → Parts
parts_with p step seed names inputs outputs cs turn_nodes operations = record {
  profile = p;
  step = step;
  seed = seed;
  names = names;
  inputs = inputs;
  outputs = outputs;
  cells = cs;
  turn_nodes = turn_nodes;
  operations = operations;
}

-- outputs, cells, turn nodes and operations, behind names and inputs
unfoldable pub later_lists : Head → List (List ℕ) → List Var → FormatPiece Parts
later_lists h names inputs =
    before (listed h.outputs (output_piece h.profile h.names h.operations)) (λ p. p.outputs) (λ outputs.
    before (listed h.cells (cell_piece h.profile h.names h.operations)) (λ p. p.cells) (λ cs.
    before (listed h.turn_nodes (turn_piece h.names)) (λ p. p.turn_nodes) (λ turn_nodes.
    before (listed h.operations (op_piece (said h.profile h.seed h.step inputs outputs cs h.turn_nodes))) (λ p. p.operations) (λ operations.
    whole (parts_with h.profile h.step h.seed names inputs outputs cs turn_nodes operations)))))

unfoldable pub image_piece : FormatPiece Parts
image_piece =
    before head_piece head_of (λ h.
    before (listed h.names name_piece) (λ p. p.names) (λ names.
    before (listed h.inputs (input_piece h.profile h.names)) (λ p. p.inputs) (λ inputs.
    later_lists h names inputs)))

-- what a graph, a seed and a step have in an image
abbrev pub parts_of : Lists → ℕ → ℕ → Parts
parts_of g seed step = parts_with g.profile step seed g.names g.inputs g.outputs (cells g) g.turn_nodes g.operations

-- the image of a graph, a seed and a step
abbrev pub image_of : Lists → ℕ → ℕ → List ℕ
image_of g seed step = image_piece.spell (parts_of g seed step)
