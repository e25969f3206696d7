-- Added: an operation or a turn node, where it was added to the state or not.
use Rattle.std.proofs.Common.{◌≡◌, ℕ, ◌+◌, length, Result, Ok, Err, IfOk, OnOk, OnErr, sym, ap, subst}
use Rattle.vcp_base.specs.declared.memory.Memory.{Memory}
use Rattle.op_graph.specs.Building.{with_op, with_turn_node}
use Rattle.op_graph.specs.Lists.{Lists}
use Rattle.op_graph.specs.Rules.{IsPart}
use Rattle.op_graph.specs.declared.build.Build.{Build}
use Rattle.op_graph.specs.declared.op.Op.{Op}
use Rattle.op_graph.specs.declared.op.TurnNode.{TurnNode}
use Rattle.flat_expr.specs.State.{State, IsState, Nests, Pushes}
use Rattle.flat_expr.proofs.Steps.{push_state}
use Rattle.flat_expr.proofs.Turns.{OperationLaw, nested}

pub push_keeps : (r : Result ℕ Build) (s : State) (op : Op) (g : Lists) → IsState s → IsPart g → OnOk r (g ≡ with_op s.graph op) → OnErr r (g ≡ s.graph)
    → IsState (record s { graph = g })
push_keeps (Ok k) s op g state part is same = subst (λ (l : Lists). IsState (record s { graph = l })) (sym is) (push_state s op state (subst IsPart is part))
push_keeps (Err e) s op g state part is same = subst (λ (l : Lists). IsState (record s { graph = l })) (sym same) state

pub push_made : (r : Result ℕ Build) (s : State) (op : Op) (g : Lists) → IsState s → IsPart g → IfOk r (λ k. k ≡ length s.graph.operations)
    → OnOk r (g ≡ with_op s.graph op) → IfOk r (λ k. Pushes s (record s { graph = g }) op k)
push_made (Ok k) s op g state part number is = record {
  before = state;
  after = push_keeps (Ok k) s op g state part is tt;
  place = number;
  is = ap (λ (l : Lists). record s { graph = l }) is;
}
push_made (Err e) s op g state part number is = tt

pub turn_keeps : (r : Result ℕ Memory) (s : State) (node : TurnNode) (g : Lists) → IsState s → IsPart g → OperationLaw
    → OnOk r (g ≡ with_turn_node s.graph node) → OnErr r (g ≡ s.graph) → IsState (record s { graph = g })
turn_keeps (Ok n) s node g state part law is same =
    subst (λ (l : Lists). IsState (record s { graph = l })) (sym is) (nested s node state (subst IsPart is part) law).after
turn_keeps (Err e) s node g state part law is same = subst (λ (l : Lists). IsState (record s { graph = l })) (sym same) state

pub turn_made : (r : Result ℕ Memory) (s : State) (node : TurnNode) (g : Lists) → IsState s → IsPart g → OperationLaw
    → IfOk r (λ n. n ≡ length s.graph.turn_nodes + 1) → OnOk r (g ≡ with_turn_node s.graph node) → IfOk r (λ n. Nests s (record s { graph = g }) node n)
turn_made (Ok n) s node g state part law number is =
    subst (λ (l : Lists). Nests s (record s { graph = l }) node n) (sym is)
    (subst (λ (m : ℕ). Nests s (record s { graph = with_turn_node s.graph node }) node m) (sym number) (nested s node state (subst IsPart is part) law))
turn_made (Err e) s node g state part law number is = tt
