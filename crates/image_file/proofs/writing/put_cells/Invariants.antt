use Rattle.std.proofs.Common.{[], take, ℕ}
use Rattle.vcp_base.specs.declared.code.Profile.{Profile}
use Rattle.op_graph.specs.Lists.{cells}
use Rattle.image_file.specs.Pieces.{entries}
use Rattle.image_file.specs.Written.{Writes}
use Rattle.image_file.specs.Entries.{cell_piece}
use Rattle.image_file.proofs.writing.put_cells.Given as goal

abbrev pub invariant-entries : goal.invariant-entries
invariant-entries l =
    (p : Profile) (names operations : ℕ) → Writes l.initial.out l.out (entries (λ b. (cell_piece p names operations b).spell) [] (take l.i (cells l.graph)))
