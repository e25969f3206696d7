-- StaleSeen: where a stale operand is seen, at the end of a run, and where not.
use Rattle.std.specs.Prelude.{◌≡◌, ◌≢◌, ◌↔◌, ℕ, ◌+◌, pos, ◌*ℤ◌, [], ◌∷◌, slice_get, Some}
use Rattle.vcp_base.specs.Kinds.{multiplier}
use Rattle.coded_unit.specs.Words.{modulo}
use Rattle.op_graph.specs.declared.op.Op.{Op}
use Rattle.op_graph.specs.declared.op.Outlet.{Outlet}
use Rattle.op_graph.specs.Lists.{Lists}
use Rattle.op_graph.specs.Rules.{IsGraph}
use Rattle.signature_table.specs.Signatures.{Numbers, IsTableOf}
use Rattle.fault_script.specs.declared.act.Act.TheVariants as act
use Rattle.fault_script.specs.declared.act.Fault.{Fault}
use Rattle.fault_script.specs.Changes.{acts_of}
use Rattle.fault_injector.specs.Accepted.{Accepted, RefusedAt, first_unaccepted}
use Rattle.weight_audit.specs.Weights.{weight}

-- by how much a stale operand j of an operation shows at an output, so many cycle borders later, modulo the constant of the graph's code
abbrev pub shows_by : Numbers → Lists → Fault → Op → ℕ → Outlet → ℕ → ℕ
shows_by t g f op j o borders = modulo g.profile (pos t.step *ℤ multiplier op.kind j *ℤ pos (weight g o.op borders f.op))

-- At an output, so many cycle borders later, a stale operand is unseen exactly where it shows by 0; and where it does not, a run that reaches
-- the check of its outputs is refused in it, at this output or one before.
pub record StaleAt (t : Numbers) (g : Lists) (f : Fault) (op : Op) (j : ℕ) (o : Outlet) (borders : ℕ) : Type 0 where
  pub unseen : Accepted t g (acts_of (f ∷ [])) (f.cycle + borders) o ↔ (shows_by t g f op j o borders ≡ 0)
  pub refused : shows_by t g f op j o borders ≢ 0
      → (r : RefusedAt) × (first_unaccepted t g (acts_of (f ∷ [])) (f.cycle + borders) 0 g.outputs ≡ Some r)

-- so of each stale operand of an operation of a graph, at each of its outputs
abbrev pub StaleShows : Type 0
StaleShows =
    (t : Numbers) (g : Lists) → IsGraph g → IsTableOf t g →
    (f : Fault) (op : Op) (j number : ℕ) (o : Outlet) (borders : ℕ) → slice_get g.operations f.op ≡ Some op → f.act ≡ act.OperandStale j →
    slice_get g.outputs number ≡ Some o → StaleAt t g f op j o borders
