use Rattle.std.proofs.Common.{[], take, ℕ, List}
use Rattle.op_graph.specs.Lists.{cells}
use Rattle.op_graph.specs.declared.op.Var.{Var}
use Rattle.op_graph.specs.declared.op.Outlet.{Outlet}
use Rattle.image_file.specs.Pieces.{entries}
use Rattle.image_file.specs.Written.{Writes}
use Rattle.image_file.specs.Image.{op_piece, said}
use Rattle.image_file.proofs.writing.put_operations.Given as goal

abbrev pub invariant-entries : goal.invariant-entries
invariant-entries l =
    (ins : List Var) (outs : List Outlet) (n : ℕ) → Writes l.initial.out l.out
    (entries (λ b. (op_piece (said l.graph.profile l.table.seed l.table.step ins outs (cells l.graph) n) b).spell) [] (take l.i l.graph.operations))
