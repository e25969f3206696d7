-- ExprTree: an expression as what it holds. In the program a node has its parts behind pointers; here it has none.
use Rattle.std.specs.Prelude.{ℕ, ℤ, List, Option}
use Rattle.vcp_base.specs.declared.spot.Spot.{Spot}
use Rattle.vcp_base.specs.declared.ty.Ty.{Ty}
use Rattle.st_tree.specs.declared.expr.UnOp.{UnOp}
use Rattle.st_tree.specs.declared.expr.BinOp.{BinOp}

-- A name is the list of its bytes.
mutual
  pub data ExprTree : Type 0 where
    literal : (ty : Option Ty) → (value : ℤ) → (spot : Spot) → ExprTree
    name : (name : List ℕ) → (spot : Spot) → ExprTree
    unary : (op : UnOp) → (arg : ExprTree) → (spot : Spot) → ExprTree
    binary : (op : BinOp) → (left right : ExprTree) → (spot : Spot) → ExprTree
    call : (name : List ℕ) → (args : ExprTrees) → (spot : Spot) → ExprTree

  -- the arguments of a call
  pub data ExprTrees : Type 0 where
    no_exprs : ExprTrees
    and_expr : (first : ExprTree) → (rest : ExprTrees) → ExprTrees
