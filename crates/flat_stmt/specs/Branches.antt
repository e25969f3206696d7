-- Branches: what a branch of IF or CASE does, from where a cycle is, and what is still to come.
use Rattle.std.specs.Prelude.{◌≡◌, ℕ, ℤ, pos, Bool, true, false, not, ◌&&◌, cond, List, Option, Result, Ok}
use Rattle.vcp_base.specs.declared.turns.Turn.{Turn}
use Rattle.vcp_base.specs.Kinds.{same}
use Rattle.vcp_typed.specs.TExprTree.{TExprTree}
use Rattle.vcp_typed.specs.TStmtTree.{TBranchTrees, TOtherTree}
use Rattle.vcp_base.specs.Values.{at}
use Rattle.flat_expr.specs.State.{active}
use Rattle.vcp_typed.specs.Meaning.{Stop, and_then, value, do_branches, do_other}
use Rattle.flat_stmt.specs.Moves.{Here, here, Doing}

-- The body is done where the condition x isn't 0. Where another branch follows, the place is reached after it exactly where the condition is 0;
-- else it is reached as before.
abbrev pub branch_of : Bool → ℤ → (List ℤ → Result (List ℤ) Stop) → Doing
branch_of more x body b m = cond b (cond (same x (pos 0)) (Ok (here true m)) (and_then (body m) (λ n. Ok (here (not more) n)))) (Ok (here false m))

-- an arm of IF: its condition is evaluated where the place is reached
abbrev pub arm_of : Bool → List Turn → TExprTree → (List ℤ → Result (List ℤ) Stop) → Doing
arm_of more turns e body b m = cond b (and_then (value turns e m) (λ x. branch_of more x body true m)) (Ok (here false m))

-- what is still to come is done where the place is reached
abbrev pub rest_of : (List ℤ → Result (List ℤ) Stop) → Here → Result (List ℤ) Stop
rest_of f h = cond h.reached (f h.slots) (Ok h.slots)

-- the values tell the condition r of a branch, and whether the outer condition is 1
abbrev pub Conditions : ℕ → ℤ → Option ℕ → Bool → List ℤ → Type 0
Conditions r x outer o vs = (at vs r ≡ x) × (active outer vs ≡ o)

-- what comes after a branch is reached where the outer condition is 1 and the branch's is 0
abbrev pub next_of : ℤ → Bool → Doing
next_of x o b m = Ok (here (o && same x (pos 0)) m)

-- CASE: the first branch with a label for the selector's value
abbrev pub choosing : List Turn → TExprTree → TBranchTrees → TOtherTree → List ℤ → Result (List ℤ) Stop
choosing turns e branches o m = and_then (value turns e m) (λ v. do_branches turns v branches (do_other turns o) m)
