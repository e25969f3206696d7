-- ExprSteps: what the steps of typing an expression give, and the faults that they note.
-- How the typing works, and no promise: what it promises is in Typing.
use Rattle.std.specs.Prelude.{◌≡◌, List, [], ◌∷◌, Option, None, option_map, option_and_then, map}
use Rattle.vcp_base.specs.declared.spot.Spot.{Spot}
use Rattle.st_tree.specs.declared.expr.UnOp.{UnOp}
use Rattle.st_tree.specs.declared.expr.BinOp.{BinOp}
use Rattle.st_tree.specs.ExprTree.{ExprTree, ExprTrees}
use Rattle.vcp_base.specs.declared.ty.Ty.{Ty}
use Rattle.vcp_base.specs.declared.ty.Ty.TheVariants as ty
use Rattle.vcp_typed.specs.declared.expr.Fun.{Fun}
use Rattle.vcp_typed.specs.declared.expr.Fun.TheVariants as fun
use Rattle.vcp_typed.specs.TExprTree.{TExprTree, TExprTrees, no_texprs, and_texpr}
use Rattle.vcp_typed.specs.Checked.{ty_of}
use Rattle.st_types.specs.declared.fault.Fault.{Fault}
use Rattle.st_types.specs.declared.fault.Rule.TheVariants as rule
use Rattle.st_types.specs.Faults.{fault}
use Rattle.st_types.specs.Notes.{Notes}
use Rattle.st_types.specs.Scope.{Entry}
use Rattle.st_types.specs.ExprTyping.{both, Clash, Clashes, Misfits, ExprFault, ExprsFault, widened, sign_of, operation_of, call_of, expr_of, exprs_of}

-- the expression e is typed: its faults are met, and r is its checked expression, none where it has a fault
pub record Types (s : List Entry) (e : ExprTree) (old new : Option Fault) (r : Option TExprTree) : Type 0 where
  pub notes : Notes old new (ExprFault s e)
  pub gives : r ≡ expr_of s e

-- the arguments are typed
pub record TypesAll (s : List Entry) (es : ExprTrees) (old new : Option Fault) (r : Option (List TExprTree)) : Type 0 where
  pub notes : Notes old new (ExprsFault s es)
  pub gives : r ≡ exprs_of s es

-- an operator is put before its operand
pub record Signs (op : UnOp) (spot : Spot) (a : Option TExprTree) (old new : Option Fault) (r : Option TExprTree) : Type 0 where
  pub notes : Notes old new (λ f. (f ≡ fault rule.Mismatch spot) × Clash op (option_map ty_of a))
  pub gives : r ≡ sign_of op None spot a

-- an operator is put between its operands
pub record Operates (op : BinOp) (spot : Spot) (a b : Option TExprTree) (old new : Option Fault) (r : Option TExprTree) : Type 0 where
  pub notes : Notes old new (λ f. (f ≡ fault rule.Mismatch spot) × Clashes op (option_map ty_of a) (option_map ty_of b))
  pub gives : r ≡ both (operation_of op spot) a b

-- the type that is wanted of the first argument of a function whose value has the type t; of each further one t is wanted
abbrev pub first_wanted : Fun → Ty → Ty
first_wanted fun.Abs t = t
first_wanted fun.Min t = t
first_wanted fun.Max t = t
first_wanted fun.Limit t = t
first_wanted fun.Sel t = ty.Bool
first_wanted fun.IntToDint t = ty.Int
first_wanted fun.IntToLint t = ty.Int
first_wanted fun.DintToInt t = ty.Dint
first_wanted fun.DintToLint t = ty.Dint
first_wanted fun.LintToInt t = ty.Lint
first_wanted fun.LintToDint t = ty.Lint
first_wanted fun.BoolToInt t = ty.Bool

-- the arguments widened: the first one to the type `first`, and those behind it to the type `rest`
abbrev pub widened_to : Ty → Ty → List TExprTree → TExprTrees
widened_to first rest [] = no_texprs
widened_to first rest (e ∷ es) = and_texpr (widened first (ty_of e) e) (widened_to rest rest es)

-- a function is applied to its arguments
pub record Applies (g : Fun) (spot : Spot) (es : Option (List TExprTree)) (old new : Option Fault) (r : Option TExprTree) : Type 0 where
  pub notes : Notes old new (λ f. (f ≡ fault rule.Mismatch spot) × Misfits g (option_map (map ty_of) es))
  pub gives : r ≡ option_and_then (call_of g spot) es
