-- Run: the run of a graph on plain integers, between two cycles.
use Rattle.std.specs.Prelude.{ℤ, List, []}
use Rattle.op_graph.specs.Lists.{Lists}
use Rattle.op_graph.specs.GraphRun.{Cycle, initial, stored, unless_stopped}

-- the graph, the values that its cells hold, and the values of the operations in the last cycle, up to the first that stopped in it
pub record Moment : Type 0 where
  pub graph : Lists
  pub cells : List ℤ
  pub values : List ℤ

-- before the first cycle
abbrev pub begun : Lists → Moment
begun g = record { graph = g; cells = initial g; values = [] }

-- after a cycle: a stop leaves the cells as they were
abbrev pub after : Moment → Cycle → Moment
after m c = record { graph = m.graph; cells = unless_stopped m.cells (stored m.graph c.values) (λ next. next) c.stop; values = c.values }
