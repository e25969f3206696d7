-- Candidates: where the faults of a class at an operation stand: in rows, mostly one for each operand, and columns, one for each value.
use Rattle.std.specs.Prelude.{ℕ, zero, suc, ◌+◌, ◌-◌, cond, List, [], ◌∷◌, map, length, slice_get}
use Rattle.vcp_base.specs.Kinds.{operands}
use Rattle.vcp_base.specs.Spellings.{kinds}
use Rattle.op_graph.specs.declared.op.Op.{Op}
use Rattle.op_graph.specs.Lists.{Lists}
use Rattle.op_graph.specs.Rules.{is_out}
use Rattle.fault_script.specs.declared.act.Act.TheVariants as act
use Rattle.fault_sites.specs.Sites.{each_below, from_one, operator_one}
use Rattle.fault_cover.specs.declared.class.CoverClass.{CoverClass}
use Rattle.fault_cover.specs.declared.class.CoverClass.TheVariants as cover
use Rattle.fault_cover.specs.declared.disturbance.Disturbance.{Disturbance}
use Rattle.fault_cover.specs.declared.disturbance.Disturbance.TheVariants as disturbance
use Rattle.fault_cover.specs.Classes.{late_one}
use Rattle.fault_cover.specs.Sources.{readings}

-- the first row of additions is the result, each further one an operand
abbrev pub rows : CoverClass → Op → ℕ
rows cover.Add op = suc (operands op.kind)
rows cover.Rest op = 1
rows cover.Stale op = operands op.kind
rows cover.Skip op = 1
rows cover.From op = operands op.kind
rows cover.Late op = operands op.kind
rows cover.Operator op = 1

-- readings behind the first one, earlier operations, operation k and those behind it, kinds
abbrev pub columns : CoverClass → Lists → ℕ → Op → ℕ
columns cover.Add g k op = 1
columns cover.Rest g k op = cond (is_out op.kind) 0 (length (readings g k) - 2)
columns cover.Stale g k op = 1
columns cover.Skip g k op = 1
columns cover.From g k op = k
columns cover.Late g k op = length g.operations - k
columns cover.Operator g k op = 19

abbrev pub addition : ℕ → Disturbance
addition zero = disturbance.AddToResult
addition (suc j) = disturbance.AddToOperand j

-- the fault in row j and column i, or none
abbrev pub candidate : CoverClass → Lists → ℕ → Op → ℕ → ℕ → List Disturbance
candidate cover.Add g k op j i = addition j ∷ []
candidate cover.Rest g k op j i = disturbance.AddToRest (i + 1) ∷ []
candidate cover.Stale g k op j i = disturbance.Does (act.OperandStale j) ∷ []
candidate cover.Skip g k op j i = disturbance.Does act.Skip ∷ []
candidate cover.From g k op j i = map disturbance.Does (from_one op j i (slice_get g.operations i))
candidate cover.Late g k op j i = late_one g op j (k + i) (slice_get g.operations (k + i))
candidate cover.Operator g k op j i = map disturbance.Does (operator_one op.kind (slice_get kinds i))

-- those of a row
abbrev pub row : CoverClass → Lists → ℕ → Op → ℕ → List Disturbance
row c g k op j = each_below (λ i. candidate c g k op j i) (columns c g k op)
