-- Variables: the names of a graph's inputs, cells and outputs.
use Rattle.std.specs.Prelude.{ℕ, List, [], Option, Some, None, slice_get, slice_index_or, unsigned_abs}
use Rattle.vcp_base.specs.declared.kind.Kind.{Kind}
use Rattle.vcp_base.specs.declared.kind.Kind.TheVariants as kind
use Rattle.op_graph.specs.declared.op.Op.{Op}
use Rattle.op_graph.specs.declared.op.Var.{Var}
use Rattle.op_graph.specs.declared.op.Cell.{Cell}
use Rattle.op_graph.specs.declared.op.Outlet.{Outlet}
use Rattle.op_graph.specs.Lists.{Lists, cells}

-- the name of an input, a cell or an output that is there
abbrev pub name_of_input : Lists → Option Var → List ℕ
name_of_input g None = []
name_of_input g (Some v) = slice_index_or g.names v.name []

abbrev pub name_of_cell : Lists → Option Cell → List ℕ
name_of_cell g None = []
name_of_cell g (Some c) = slice_index_or g.names c.name []

abbrev pub name_of : Lists → Option Outlet → List ℕ
name_of g None = []
name_of g (Some o) = slice_index_or g.names o.name []

-- the name of input, cell or output n
abbrev pub input_name : Lists → ℕ → List ℕ
input_name g n = name_of_input g (slice_get g.inputs n)

abbrev pub cell_name : Lists → ℕ → List ℕ
cell_name g n = name_of_cell g (slice_get (cells g) n)

abbrev pub output_name : Lists → ℕ → List ℕ
output_name g n = name_of g (slice_get g.outputs n)

-- the name of the input, cell or output n that an operation of this kind has; none for the other kinds
abbrev pub variable_name : Lists → Kind → ℕ → List ℕ
variable_name g kind.Input n = input_name g n
variable_name g kind.Load n = cell_name g n
variable_name g kind.Store n = cell_name g n
variable_name g kind.Out n = output_name g n
variable_name g _ n = []

-- the name of the input, cell or output that an operation belongs to, by its own number
abbrev pub variable_of : Lists → Op → List ℕ
variable_of g op = variable_name g op.kind (unsigned_abs op.imm)
