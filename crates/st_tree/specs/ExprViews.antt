-- ExprViews: what an expression of the program holds.
use Rattle.std.specs.Prelude.{List, [], ◌∷◌, Option, Some, None}
use Rattle.st_tree.specs.declared.expr.Expr.{Expr, Row_of-Expr, end_of-Expr, more_of-Expr}
use Rattle.st_tree.specs.declared.expr.Expr.TheVariants.{Lit, Name, Unary', Binary', Call'}
use Rattle.st_tree.specs.ExprTree.{ExprTree, ExprTrees, literal, name, unary, binary, call, no_exprs, and_expr}

-- one expression
abbrev mutual
  pub expr_tree : Expr → ExprTree
  expr_tree (Lit t v s) = literal t v s
  expr_tree (Name n s) = name n s
  expr_tree (Unary' op p a s) = unary op (expr_tree a) s
  expr_tree (Binary' op p a q b s) = binary op (expr_tree a) (expr_tree b) s
  expr_tree (Call' n shape args s) = call n (row_of_exprs args) s

  pub row_of_exprs : {m : _} → Row_of-Expr m → ExprTrees
  row_of_exprs end_of-Expr = no_exprs
  row_of_exprs (more_of-Expr e rest) = and_expr (expr_tree e) (row_of_exprs rest)

-- what a list of them holds
abbrev pub expr_trees : List Expr → ExprTrees
expr_trees [] = no_exprs
expr_trees (e ∷ es) = and_expr (expr_tree e) (expr_trees es)

-- what an expression that may be left out holds
abbrev pub expr_tree_or_none : Option Expr → Option ExprTree
expr_tree_or_none None = None
expr_tree_or_none (Some e) = Some (expr_tree e)
