-- Fits: which faults a graph can have.
use Rattle.std.specs.Prelude.{◌≡◌, ℕ, ◌<◌, ◌==◌, Bool, true, ◌&&◌, nat_lt, slice_get, Some}
use Rattle.vcp_base.specs.Limits.{most_cycles}
use Rattle.vcp_base.specs.declared.kind.Kind.{Kind}
use Rattle.vcp_base.specs.Kinds.{operands}
use Rattle.op_graph.specs.declared.op.Op.{Op}
use Rattle.op_graph.specs.Lists.{Lists}
use Rattle.fault_script.specs.declared.act.Act.{Act}
use Rattle.fault_script.specs.declared.act.Act.TheVariants as act
use Rattle.fault_script.specs.declared.act.Fault.{Fault}
use Rattle.vcp_base.specs.Integers.{is_addend}

-- an operation of the kind has the operand that the act changes, and the register that it reads stands before operation k
abbrev pub is_sited : Kind → ℕ → Act → Bool
is_sited kind k (act.OperandAdd j e) = nat_lt j (operands kind)
is_sited kind k (act.OperandFrom j r) = nat_lt j (operands kind) && nat_lt r k
is_sited kind k (act.OperandStale j) = nat_lt j (operands kind)
is_sited kind k (act.ResultAdd e) = true
is_sited kind k (act.Operator other) = true
is_sited kind k act.Skip = true

-- there is a cycle before cycle n, where the act takes a word of that cycle
abbrev pub is_timely : ℕ → Act → Bool
is_timely n (act.OperandAdd j e) = true
is_timely n (act.OperandFrom j r) = true
is_timely n (act.OperandStale j) = nat_lt 0 n
is_timely n (act.ResultAdd e) = true
is_timely n (act.Operator other) = true
is_timely n act.Skip = nat_lt 0 n

-- the kind that is put in place of an operation's kind has as many operands
abbrev pub is_alike : Kind → Act → Bool
is_alike kind (act.OperandAdd j e) = true
is_alike kind (act.OperandFrom j r) = true
is_alike kind (act.OperandStale j) = true
is_alike kind (act.ResultAdd e) = true
is_alike kind (act.Operator other) = operands other == operands kind
is_alike kind act.Skip = true

-- what the act adds is at most 2^62 in size
abbrev pub is_moderate : Act → Bool
is_moderate (act.OperandAdd j e) = is_addend e
is_moderate (act.OperandFrom j r) = true
is_moderate (act.OperandStale j) = true
is_moderate (act.ResultAdd e) = is_addend e
is_moderate (act.Operator other) = true
is_moderate act.Skip = true

-- the act may stand at operation k, of this kind, in cycle n
pub record ActFits (kind : Kind) (k n : ℕ) (a : Act) : Type 0 where
  pub sited : is_sited kind k a ≡ true
  pub timely : is_timely n a ≡ true
  pub alike : is_alike kind a ≡ true
  pub moderate : is_moderate a ≡ true

-- The fault fits the graph: its cycle is one that a run may have, its operation is there, and its act may stand there.
pub record Fits (g : Lists) (f : Fault) : Type 0 where
  pub cycle : f.cycle < most_cycles
  pub op : Op
  pub there : slice_get g.operations f.op ≡ Some op
  pub act : ActFits op.kind f.op f.cycle f.act
