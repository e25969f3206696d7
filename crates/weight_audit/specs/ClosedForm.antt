-- ClosedForm: what becomes of the difference that one fault makes, some cycle borders later.
use Rattle.std.specs.Prelude.{◌≡◌, ◌↔◌, ℕ, ◌+◌, ◌<◌, ℤ, pos, ◌*ℤ◌, [], ◌∷◌, length, slice_get, Some}
use Rattle.vcp_base.specs.Kinds.{multiplier}
use Rattle.vcp_base.specs.Values.{at}
use Rattle.coded_unit.specs.Words.{modulo}
use Rattle.op_graph.specs.declared.op.Op.{Op}
use Rattle.op_graph.specs.Lists.{Lists}
use Rattle.signature_table.specs.Signatures.{Numbers}
use Rattle.fault_script.specs.declared.act.Act.TheVariants as act
use Rattle.fault_script.specs.declared.act.Fault.{Fault}
use Rattle.fault_script.specs.Changes.{acts_of}
use Rattle.fault_script.specs.Differences.{difference_at}
use Rattle.weight_audit.specs.Weights.{sums, weight}

-- the difference of operation k in cycle n of a run with this fault alone
abbrev pub differs : Numbers → Lists → Fault → ℕ → ℕ → ℤ
differs t g f n k = difference_at t g (acts_of (f ∷ [])) n k

-- the fault's own difference: that at its operation in its cycle
abbrev pub own : Numbers → Lists → Fault → ℤ
own t g f = differs t g f f.cycle f.op

-- What comes to an operation, as an OUT: before the fault's cycle no difference, and so many borders later the weight times the
-- fault's own difference, as integers by the sums over paths, and modulo the constant of the graph's code.
pub record Comes (t : Numbers) (g : Lists) (f : Fault) (out : ℕ) : Type 0 where
  pub before : (n : ℕ) → n < f.cycle → differs t g f n out ≡ pos 0
  pub after : (borders : ℕ) → differs t g f (f.cycle + borders) out ≡ at (sums g out borders) f.op *ℤ own t g f
  pub residue : (borders : ℕ) → modulo g.profile (differs t g f (f.cycle + borders) out) ≡ modulo g.profile (pos (weight g out borders f.op) *ℤ own t g f)

-- the closed form, for each fault at an operation of the graph
abbrev pub ClosedForm : Numbers → Lists → Type 0
ClosedForm t g = (f : Fault) → f.op < length g.operations → (out : ℕ) → Comes t g f out

-- A stale operand comes to an OUT as no difference exactly where the step times the operand's multiplier times the weight is 0,
-- modulo the constant of the graph's code.
abbrev pub StaleForm : Numbers → Lists → Type 0
StaleForm t g = (f : Fault) (op : Op) (j : ℕ) → slice_get g.operations f.op ≡ Some op → f.act ≡ act.OperandStale j → (out borders : ℕ) →
    (modulo g.profile (differs t g f (f.cycle + borders) out) ≡ 0)
    ↔ (modulo g.profile (pos t.step *ℤ multiplier op.kind j *ℤ pos (weight g out borders f.op)) ≡ 0)
