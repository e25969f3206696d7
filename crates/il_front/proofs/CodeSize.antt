-- CodeSize: the Size of the typed program is no less than the number of its instructions.
use Rattle.std.proofs.Common.{ℕ, ◌<◌, ◌≤◌, List, [], ◌∷◌, length, Option, Some, None, arith}
use Rattle.vcp_base.specs.Limits.{most_size}
use Rattle.vcp_base.specs.declared.spot.Spot.{Spot}
use Rattle.vcp_base.specs.declared.ty.Ty.{Ty}
use Rattle.vcp_base.specs.declared.ty.Ty.TheVariants as ty
use Rattle.st_tree.specs.declared.expr.BinOp.{BinOp}
use Rattle.vcp_typed.specs.TExprTree.{TExprTree}
use Rattle.vcp_typed.specs.Rules.{common}
use Rattle.vcp_typed.specs.Size.{size, stmt_size, stmts_size}
use Rattle.il_front.specs.declared.instruction.Action.TheVariants as action
use Rattle.il_front.specs.Accumulator.{Action, Instruction, Il, operand_type}
use Rattle.il_front.specs.TypedForm.{next_type, operand_expr, turned, combining, action_stmt, statements, place_of, typed_il}

combined_size : (place : Ty → ℕ) (op : BinOp) (s : Spot) (t : Ty) (e : TExprTree) (u : Ty) (c : Option Ty) → 1 ≤ stmt_size (combining place op s t e u c)
combined_size place op s t e u None = omega arith
combined_size place op s t e u (Some w) = omega arith

some_size : (place : Ty → ℕ) (spot s : Spot) (t : Ty) (a : Action) → 1 ≤ stmt_size (action_stmt place spot s t a)
some_size place spot s t (action.Load negated o) = omega arith
some_size place spot s t (action.Store negated slot u) = omega arith
some_size place spot s t (action.Put to slot u) = omega arith
some_size place spot s t action.Complement = omega arith
some_size place spot s t (action.Combine op negated o) =
    combined_size place op spot t (turned negated spot (operand_expr s o)) (operand_type o) (common op t (operand_type o))

code_size : (place : Ty → ℕ) (t : Ty) (code : List Instruction) → length code ≤ stmts_size (statements place t code)
code_size place t [] = omega arith
code_size place t (i ∷ is) =
    let one = some_size place i.spot i.at t i.action in
    let more = code_size place (next_type t i.action) is in
    omega (arith, one, more)

-- more instructions than the limit
pub many_statements : (i : Il) → most_size < length i.code → most_size < size (typed_il i)
many_statements i many = let some = code_size (place_of i) ty.Bool i.code in omega (arith, many, some)
