-- TExprTree: a checked expression as what it holds, without pointers.
use Rattle.std.specs.Prelude.{ℕ, ℤ}
use Rattle.vcp_base.specs.declared.spot.Spot.{Spot}
use Rattle.vcp_base.specs.declared.ty.Ty.{Ty}
use Rattle.st_tree.specs.declared.expr.UnOp.{UnOp}
use Rattle.st_tree.specs.declared.expr.BinOp.{BinOp}
use Rattle.vcp_typed.specs.declared.expr.Fun.{Fun}

mutual
  pub data TExprTree : Type 0 where
    literal : (ty : Ty) → (value : ℤ) → (spot : Spot) → TExprTree
    get : (slot : ℕ) → (ty : Ty) → TExprTree
    widen : (ty : Ty) → (arg : TExprTree) → TExprTree
    unary : (op : UnOp) → (ty : Ty) → (arg : TExprTree) → (spot : Spot) → TExprTree
    binary : (op : BinOp) → (ty : Ty) → (left right : TExprTree) → (spot : Spot) → TExprTree
    call : (fun : Fun) → (ty : Ty) → (args : TExprTrees) → (spot : Spot) → TExprTree

  -- the arguments of a function
  pub data TExprTrees : Type 0 where
    no_texprs : TExprTrees
    and_texpr : (first : TExprTree) → (rest : TExprTrees) → TExprTrees
