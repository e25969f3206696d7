-- Laws: what holds of every state of a flattening, and of its runs.
use Rattle.std.specs.Prelude.{◌≡◌, ℕ, ◌<◌, ◌≤◌, ◌+◌, true, ℤ, List, length, Ok}
use Rattle.vcp_base.specs.declared.ty.Ty.{Ty}
use Rattle.vcp_base.specs.Types.{fits}
use Rattle.op_graph.specs.declared.op.Op.{Op}
use Rattle.op_graph.specs.Lists.{Lists}
use Rattle.vcp_base.specs.Values.{at}
use Rattle.vcp_base.specs.declared.code.Profile.{Profile}
use Rattle.vcp_base.specs.Code.{admits}
use Rattle.vcp_typed.specs.TExprTree.{TExprTree}
use Rattle.vcp_typed.specs.Checked.{ty_of}
use Rattle.vcp_typed.specs.Wide.{expr_is_wide}
use Rattle.flat_expr.specs.State.{State, IsState, Allows, IsA, AreLoaded, Knows, Kept, Follows, reserved, last_size, whole_size, run}

pub record Laws : Type 0 where
  -- a run without a stop has a value for each operation
  pub long : (g : Lists) (cells row vs : List ℤ) → run g cells row ≡ Ok vs → length vs ≡ length g.operations
  -- an operation's value may be read where the operation may
  pub typed : (s : State) (cells row start vs : List ℤ) (t : Ty) (k : ℕ) → IsState s → run s.graph cells row ≡ Ok vs → AreLoaded s.graph.loads cells start
      → IsA t s.graph.operations k → fits t (at vs k) ≡ true
  -- what is known stays where the earlier values stay
  pub knows : (s : State) (start now vs ws : List ℤ) → IsState s → length vs ≡ length s.graph.operations → Kept vs ws → Knows s start now vs
      → Knows s start now ws
  pub follows : (a b c : State) → Follows a b → Follows b c → Follows a c
  -- an expression's value has a type of the code that the expression stands in
  pub value : (p : Profile) (e : TExprTree) → Allows p (expr_is_wide e) → admits p (ty_of e) ≡ true
  -- the whole graph has no more operations than are reserved and the end of a cycle may add
  pub room : (s : State) → IsState s → whole_size s ≤ reserved s + last_size s.slots
  -- an operation that may be read is there
  pub below : (t : Ty) (ops : List Op) (k : ℕ) → IsA t ops k → k < length ops
