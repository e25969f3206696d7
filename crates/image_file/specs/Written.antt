-- Written: what an entry adds to bytes, whatever the head says and comes before it in its list; and what a list adds.
use Rattle.std.specs.Prelude.{◌≡◌, ℕ, false, List, [], ◌++◌}
use Rattle.image_file.specs.declared.fields.writing.Writer.{Writer}
use Rattle.vcp_base.specs.declared.code.Profile.{Profile}
use Rattle.op_graph.specs.declared.op.Op.{Op}
use Rattle.op_graph.specs.declared.op.Var.{Var}
use Rattle.op_graph.specs.declared.op.Outlet.{Outlet}
use Rattle.op_graph.specs.declared.op.Cell.{Cell}
use Rattle.op_graph.specs.declared.op.TurnNode.{TurnNode}
use Rattle.op_graph.specs.Lists.{Lists, cells}
use Rattle.image_file.specs.Pieces.{entries}
use Rattle.image_file.specs.Entries.{input_piece, output_piece, cell_piece, turn_piece}
use Rattle.image_file.specs.Image.{Said, said, correction_of, op_piece}

-- Unless memory ran out, now or before, these bytes are appended.
pub record Writes (old new : Writer) (more : List ℕ) : Type 0 where
  pub so_far : new.has_failed ≡ false → old.has_failed ≡ false
  pub adds : new.has_failed ≡ false → new.bytes.list.items ≡ old.bytes.list.items ++ more

abbrev pub AddsInput : Writer → Writer → Var → Type 0
AddsInput old new v = (p : Profile) (names : ℕ) (earlier : List Var) → Writes old new ((input_piece p names earlier).spell v)

abbrev pub AddsOutput : Writer → Writer → Outlet → Type 0
AddsOutput old new v = (p : Profile) (names operations : ℕ) (earlier : List Outlet) → Writes old new ((output_piece p names operations earlier).spell v)

abbrev pub AddsCell : Writer → Writer → Cell → Type 0
AddsCell old new v = (p : Profile) (names operations : ℕ) (earlier : List Cell) → Writes old new ((cell_piece p names operations earlier).spell v)

abbrev pub AddsTurn : Writer → Writer → TurnNode → Type 0
AddsTurn old new v = (names : ℕ) (earlier : List TurnNode) → Writes old new ((turn_piece names earlier).spell v)

-- an operation with this correction, where it is the operation's
abbrev pub AddsOp : Writer → Writer → Profile → Op → ℕ → Type 0
AddsOp old new p v correction =
    (s : Said) (earlier : List Op) → p ≡ s.profile → correction ≡ correction_of s earlier v → Writes old new ((op_piece s earlier).spell v)

abbrev pub AddsInputs : Writer → Writer → List Var → Type 0
AddsInputs old new xs = (p : Profile) (names : ℕ) → Writes old new (entries (λ b. (input_piece p names b).spell) [] xs)

abbrev pub AddsOutputs : Writer → Writer → List Outlet → Type 0
AddsOutputs old new xs = (p : Profile) (names operations : ℕ) → Writes old new (entries (λ b. (output_piece p names operations b).spell) [] xs)

abbrev pub AddsCells : Writer → Writer → List Cell → Type 0
AddsCells old new xs = (p : Profile) (names operations : ℕ) → Writes old new (entries (λ b. (cell_piece p names operations b).spell) [] xs)

abbrev pub AddsTurns : Writer → Writer → List TurnNode → Type 0
AddsTurns old new xs = (names : ℕ) → Writes old new (entries (λ b. (turn_piece names b).spell) [] xs)

-- the operations of a graph, with their corrections by a seed and a step
abbrev pub AddsOperations : Writer → Writer → Lists → ℕ → ℕ → Type 0
AddsOperations old new g seed step =
    (ins : List Var) (outs : List Outlet) (n : ℕ)
    → Writes old new (entries (λ b. (op_piece (said g.profile seed step ins outs (cells g) n) b).spell) [] g.operations)
