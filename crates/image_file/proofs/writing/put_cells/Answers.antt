use Rattle.std.proofs.Common.{[], take, subst, arith}
use Rattle.std.proofs.lemmas.List.{take_all}
use Rattle.op_graph.specs.Lists.{cells}
use Rattle.image_file.specs.Pieces.{entries}
use Rattle.image_file.specs.Entries.{cell_piece}
use Rattle.image_file.specs.Written.{Writes}
use Rattle.image_file.proofs.Appended.{next_entry, nothing}
use Rattle.image_file.proofs.writing.put_cells.Goals as goal

pub entries-init : goal.entries-init
entries-init c = λ p names operations. nothing

pub entries-preserved : goal.entries-preserved
entries-preserved c = λ p names operations.
    next_entry (λ b. (cell_piece p names operations b).spell) (cells c.args.graph.now) c.entries.i c.cell.result c.cell.ensures
    (c.entries.invariant p names operations)
    (c.put_cell-out.ensures p names operations (take c.entries.i (cells c.args.graph.now)))

pub returns : goal.returns
returns c = λ p names operations.
    subst (λ l. Writes c.args.out c.entries.out (entries (λ b. (cell_piece p names operations b).spell) [] l))
    (take_all c.entries.i (cells c.args.graph.now) (omega (arith, c.cells-i-end.ensures.count))) (c.entries.invariant p names operations)
