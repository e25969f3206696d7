-- Running: where a run stands between two cycles, and that there is room for the next one.
use Rattle.std.specs.Prelude.{◌≡◌, ◌≤◌, length, vec_capacity}
use Rattle.op_graph.specs.Lists.{Lists}
use Rattle.fault_sites.specs.declared.graph_values.GraphValues.{GraphValues}
use Rattle.fault_sites.specs.Run.{Moment}

-- there is room for the values of the operations and of the cells, and a value for each input
pub record Room (g : Lists) (r : GraphValues) : Type 0 where
  pub cells : length g.stores ≤ vec_capacity r.values.cells
  pub operations : length g.operations ≤ vec_capacity r.values.operations
  pub past_cells : length g.stores ≤ vec_capacity r.past.cells
  pub past_operations : length g.operations ≤ vec_capacity r.past.operations
  pub row : length r.row ≡ length g.inputs

-- where it stands, and where it stood before its last cycle
abbrev pub moment : Lists → GraphValues → Moment
moment g r = record { graph = g; cells = r.values.cells.items; values = r.values.operations.items }

abbrev pub before : Lists → GraphValues → Moment
before g r = record { graph = g; cells = r.past.cells.items; values = r.past.operations.items }
