-- RunActs: where the acts at an operation stand that the words of a cycle decide.
use Rattle.std.specs.Prelude.{◌≡◌, ◌<◌, ℕ, ◌+◌, ◌-◌, List, [], ◌∷◌, length, slice_get}
use Rattle.vcp_base.specs.Kinds.{operands}
use Rattle.vcp_base.specs.Limits.{most_cycles}
use Rattle.vcp_base.specs.Values.{at}
use Rattle.op_graph.specs.declared.op.Op.{Op}
use Rattle.op_graph.specs.Lists.{Lists}
use Rattle.fault_script.specs.declared.act.Act.{Act}
use Rattle.fault_script.specs.declared.act.Act.TheVariants as act
use Rattle.fault_sites.specs.declared.cycle_values.CycleValues.{CycleValues}
use Rattle.fault_sites.specs.declared.run_class.RunClass.{RunClass}
use Rattle.fault_sites.specs.declared.run_class.RunClass.TheVariants as class
use Rattle.fault_sites.specs.Flips.{flip, flipped_bits}
use Rattle.fault_sites.specs.Late.{late_one}
use Rattle.fault_sites.specs.RunCycle.{RunCycle, expected_word}

-- a cycle of this graph that can have faults of its class: no word is late in the first
pub record IsIn (g : Lists) (c : CycleValues) : Type 0 where
  pub same : g ≡ c.graph.now
  pub few : c.cycle < most_cycles
  pub later : c.class ≡ class.Late → 0 < c.cycle

-- the result, or each operand
abbrev pub rows : RunClass → Op → ℕ
rows class.Flips op = 1
rows class.Late op = operands op.kind

-- bits, or operation k and those behind it
abbrev pub columns : RunClass → Lists → ℕ → ℕ
columns class.Flips g k = flipped_bits
columns class.Late g k = length g.operations - k

-- the act in row j and column i, or none
abbrev pub act_at : RunClass → RunCycle → ℕ → Op → ℕ → ℕ → List Act
act_at class.Flips c k op j i = act.ResultAdd (flip (expected_word c.table c.cycle k (at c.values k)) i) ∷ []
act_at class.Late c k op j i = late_one c op j (k + i) (slice_get c.graph.operations (k + i))
