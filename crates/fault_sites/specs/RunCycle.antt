-- RunCycle: a cycle of a run without faults, and the words in it.
use Rattle.std.specs.Prelude.{ℕ, List, ℤ}
use Rattle.coded_unit.specs.Words.{coded}
use Rattle.op_graph.specs.Lists.{Lists}
use Rattle.signature_table.specs.Signatures.{Numbers, expected}
use Rattle.fault_sites.specs.declared.cycle_values.CycleValues.{CycleValues}

-- a cycle of the run of a graph in a code: the values of the cells that it reads, and those of the operations in the cycle before and in this one
pub record RunCycle : Type 0 where
  pub graph : Lists
  pub table : Numbers
  pub cycle : ℕ
  pub cells : List ℤ
  pub past : List ℤ
  pub values : List ℤ

-- the same of the code's
abbrev pub as_cycle : CycleValues → RunCycle
as_cycle c = record { graph = c.graph.now; table = c.table.now; cycle = c.cycle; cells = c.cells.now; past = c.past.now; values = c.values.now }

-- the word of operation k in cycle n where nothing is amiss and its value is v: A*v and the residue that is expected
abbrev pub expected_word : Numbers → ℕ → ℕ → ℤ → ℤ
expected_word t n k v = coded t.profile v (expected t.profile t.seed t.step k n)
