-- TExprViews: the tree of an expression that a program holds.
use Rattle.std.specs.Prelude.{List, [], ◌∷◌}
use Rattle.vcp_typed.specs.declared.expr.TExpr.{TExpr, Row_of-TExpr, end_of-TExpr, more_of-TExpr}
use Rattle.vcp_typed.specs.declared.expr.TExpr.TheVariants.{Lit, Get, Widen', Unary', Binary', Call'}
use Rattle.vcp_typed.specs.TExprTree.{TExprTree, TExprTrees, literal, get, widen, unary, binary, call, no_texprs, and_texpr}

-- what an expression of the program holds
abbrev mutual
  pub texpr_tree : TExpr → TExprTree
  texpr_tree (Lit t v s) = literal t v s
  texpr_tree (Get n t) = get n t
  texpr_tree (Widen' t p a) = widen t (texpr_tree a)
  texpr_tree (Unary' op t p a s) = unary op t (texpr_tree a) s
  texpr_tree (Binary' op t p a q b s) = binary op t (texpr_tree a) (texpr_tree b) s
  texpr_tree (Call' f t shape args s) = call f t (row_of_texprs args) s

  pub row_of_texprs : {m : _} → Row_of-TExpr m → TExprTrees
  row_of_texprs end_of-TExpr = no_texprs
  row_of_texprs (more_of-TExpr e rest) = and_texpr (texpr_tree e) (row_of_texprs rest)

-- what a list of them holds
abbrev pub texpr_trees : List TExpr → TExprTrees
texpr_trees [] = no_texprs
texpr_trees (e ∷ es) = and_texpr (texpr_tree e) (texpr_trees es)

-- one expression more, at the end
abbrev pub texprs_and : TExprTrees → TExprTree → TExprTrees
texprs_and no_texprs e = and_texpr e no_texprs
texprs_and (and_texpr x xs) e = and_texpr x (texprs_and xs e)
