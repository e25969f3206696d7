-- Acts: where the acts at an operation stand: in rows, mostly one for each operand, and columns, one for each value.
use Rattle.std.specs.Prelude.{ℕ, zero, suc, List, [], ◌∷◌, length, slice_get, Option, Some, None, ℤ}
use Rattle.vcp_base.specs.Kinds.{operands}
use Rattle.vcp_base.specs.Spellings.{kinds}
use Rattle.op_graph.specs.declared.op.Op.{Op}
use Rattle.op_graph.specs.Lists.{Lists}
use Rattle.fault_script.specs.declared.act.Act.{Act}
use Rattle.fault_script.specs.declared.act.Act.TheVariants as act
use Rattle.fault_sites.specs.declared.class.Class.{Class}
use Rattle.fault_sites.specs.declared.class.Class.TheVariants as class
use Rattle.fault_sites.specs.declared.site.Site.{Site}
use Rattle.fault_sites.specs.Sites.{addend, addend_count, each_below, from_one, operator_one, sited}

-- ---- of any kind

-- the acts of row j
abbrev pub row_at : (ℕ → ℕ → List Act) → ℕ → ℕ → List Act
row_at at columns j = each_below (λ i. at j i) columns

-- an operation in a list of operations, where it is there: its acts, row by row
abbrev pub acts_at : (Op → ℕ) → ℕ → (Op → ℕ → ℕ → List Act) → Option Op → List Act
acts_at rows columns at None = []
acts_at rows columns at (Some op) = each_below (row_at (at op) columns) (rows op)

-- those of operation k of a graph, and of all its operations in cycle n
abbrev pub acts_in : (Op → ℕ) → (ℕ → ℕ) → (ℕ → Op → ℕ → ℕ → List Act) → Lists → ℕ → List Act
acts_in rows columns at g k = acts_at rows (columns k) (at k) (slice_get g.operations k)

abbrev pub sites_by : (Op → ℕ) → (ℕ → ℕ) → (ℕ → Op → ℕ → ℕ → List Act) → Lists → ℕ → List Site
sites_by rows columns at g n = each_below (λ k. sited n k (acts_in rows columns at g k)) (length g.operations)

-- ---- of a class

-- the first row of additions is the result, each further one an operand
abbrev pub rows : Class → Op → ℕ
rows class.Bits op = suc (operands op.kind)
rows class.Stale op = operands op.kind
rows class.Skip op = 1
rows class.From op = operands op.kind
rows class.Operator op = 1

-- numbers, earlier operations, kinds
abbrev pub columns : Class → ℕ → ℕ
columns class.Bits k = addend_count
columns class.Stale k = 1
columns class.Skip k = 1
columns class.From k = k
columns class.Operator k = 19

abbrev pub addition : ℕ → ℤ → Act
addition zero e = act.ResultAdd e
addition (suc j) e = act.OperandAdd j e

-- the act in row j and column i, or none
abbrev pub act_at : Class → Lists → Op → ℕ → ℕ → List Act
act_at class.Bits g op j i = addition j (addend i) ∷ []
act_at class.Stale g op j i = act.OperandStale j ∷ []
act_at class.Skip g op j i = act.Skip ∷ []
act_at class.From g op j i = from_one op j i (slice_get g.operations i)
act_at class.Operator g op j i = operator_one op.kind (slice_get kinds i)
