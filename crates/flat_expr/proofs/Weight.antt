-- Weight: how many nodes an expression has, for the end of the recursion over it.
use Rattle.std.specs.Prelude.{ℕ, suc, ◌+◌}
use Rattle.vcp_typed.specs.TExprTree.{TExprTree, TExprTrees, literal, get, widen, unary, binary, call, no_texprs, and_texpr}

abbrev mutual
  pub expr_weight : TExprTree → ℕ
  expr_weight (literal t v spot) = 1
  expr_weight (get slot t) = 1
  expr_weight (widen t a) = suc (expr_weight a)
  expr_weight (unary op t a spot) = suc (expr_weight a)
  expr_weight (binary op t a b spot) = suc (expr_weight a + expr_weight b)
  expr_weight (call f t es spot) = suc (suc (exprs_weight es))

  pub exprs_weight : TExprTrees → ℕ
  exprs_weight no_texprs = 1
  exprs_weight (and_texpr e es) = suc (expr_weight e + exprs_weight es)
