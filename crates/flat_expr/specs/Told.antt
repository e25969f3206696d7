-- Told: a run as it is reported. The run of a program and the run of a graph each have one function into it.
-- A graph means a program: it is in the wide code exactly where a slot or a node of the program has the type
-- LINT, the names and types of inputs and outputs agree in order, and over every list of rows of the inputs'
-- types both runs give the same: the rows of outputs, and the stop with its kind, its place, and the names
-- and values of its turns. This is a definition; `flatten` gives such a graph.
use Rattle.std.specs.Prelude.{◌≡◌, ℕ, ℤ, List, map, slice_get, Option, Some, None}
use Rattle.vcp_base.specs.Code.{is_wide}
use Rattle.vcp_base.specs.Stops.{ToldStop, told_stop}
use Rattle.vcp_base.specs.declared.kind.StopKind.{StopKind}
use Rattle.op_graph.specs.declared.op.Op.{Op}
use Rattle.op_graph.specs.Lists.{Lists, column, output_column, turns_of}
use Rattle.op_graph.specs.GraphRun.{graph_run, Stop as Halt}
use Rattle.vcp_typed.specs.declared.slot.Slot.{Slot}
use Rattle.vcp_typed.specs.Meaning.{Stop}
use Rattle.vcp_typed.specs.Fitting.{AreRows, input_types, input_columns, output_columns}
use Rattle.vcp_typed.specs.SourceRun.{Program, source_run}
use Rattle.vcp_typed.specs.Wide.{wide}

-- the rows of the outputs, and the stop that ended the run, or none
pub record Told : Type 0 where
  pub rows : List (List ℤ)
  pub end : Option ToldStop

-- ---- the run of a program

abbrev pub names_of : List Slot → List (List ℕ)
names_of slots = map (λ s. s.name) slots

abbrev pub source_end : List (List ℕ) → Option Stop → Option ToldStop
source_end names None = None
source_end names (Some s) = Some (told_stop names s.kind s.spot s.turns)

abbrev pub told_source : Program → List (List ℤ) → Told
told_source p rows = record { rows = (source_run p rows).rows; end = source_end (names_of p.slots) (source_run p rows).end }

-- ---- the run of a graph

abbrev pub halted_at : Lists → StopKind → Option Op → Option ToldStop
halted_at g kind None = None
halted_at g kind (Some op) = Some (told_stop g.names kind op.spot (turns_of g op.turn))

abbrev pub graph_end : Lists → Option Halt → Option ToldStop
graph_end g None = None
graph_end g (Some s) = halted_at g s.kind (slice_get g.operations s.op)

abbrev pub told_graph : Lists → List (List ℤ) → Told
told_graph g rows = record { rows = (graph_run g rows).rows; end = graph_end g (graph_run g rows).end }

-- ---- meaning

-- The graph means the program: its code is the wide one exactly where the program has values of LINT, its inputs and outputs are the
-- program's, and over all rows that fit both runs are told the same.
pub record Means (g : Lists) (p : Program) : Type 0 where
  pub code : is_wide g.profile ≡ wide p
  pub inputs : map (column g.names) g.inputs ≡ input_columns p.slots
  pub outputs : map (output_column g.names) g.outputs ≡ output_columns p.slots
  pub runs : (rows : List (List ℤ)) → AreRows (input_types p.slots) rows → told_graph g rows ≡ told_source p rows
