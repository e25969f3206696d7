-- Wide: programs that have values of LINT, so that their words need the wide code.
use Rattle.std.specs.Prelude.{Bool, true, false, ◌||◌}
use Rattle.std.specs.List.{list_any}
use Rattle.vcp_base.specs.declared.ty.Ty.{Ty}
use Rattle.vcp_base.specs.declared.ty.Ty.TheVariants as ty
use Rattle.vcp_typed.specs.TExprTree.{TExprTree, TExprTrees, literal, get, widen, unary, binary, call, no_texprs, and_texpr}
use Rattle.vcp_typed.specs.TStmtTree.{TStmtTree, TStmtTrees, TArmTrees, TBranchTrees, TOtherTree, assign, if_, case, for_, no_tstmts, and_tstmt, no_tarms}
use Rattle.vcp_typed.specs.TStmtTree.{and_tarm, no_tbranches, and_tbranch, no_tother, tother}
use Rattle.vcp_typed.specs.SourceRun.{Program}

abbrev pub is_lint : Ty → Bool
is_lint ty.Bool = false
is_lint ty.Int = false
is_lint ty.Dint = false
is_lint ty.Lint = true

-- a node of the expression has the type LINT
abbrev mutual
  pub expr_is_wide : TExprTree → Bool
  expr_is_wide (literal t v spot) = is_lint t
  expr_is_wide (get slot t) = is_lint t
  expr_is_wide (widen t a) = is_lint t || expr_is_wide a
  expr_is_wide (unary op t a spot) = is_lint t || expr_is_wide a
  expr_is_wide (binary op t a b spot) = is_lint t || expr_is_wide a || expr_is_wide b
  expr_is_wide (call f t es spot) = is_lint t || exprs_are_wide es

  pub exprs_are_wide : TExprTrees → Bool
  exprs_are_wide no_texprs = false
  exprs_are_wide (and_texpr e es) = expr_is_wide e || exprs_are_wide es

-- an expression of the statement has such a node
abbrev mutual
  pub stmt_is_wide : TStmtTree → Bool
  stmt_is_wide (assign slot e spot) = expr_is_wide e
  stmt_is_wide (if_ arms o) = arms_are_wide arms || other_is_wide o
  stmt_is_wide (case e branches o spot) = expr_is_wide e || branches_are_wide branches || other_is_wide o
  stmt_is_wide (for_ slot first by n body spot) = stmts_are_wide body

  pub stmts_are_wide : TStmtTrees → Bool
  stmts_are_wide no_tstmts = false
  stmts_are_wide (and_tstmt s ss) = stmt_is_wide s || stmts_are_wide ss

  pub arms_are_wide : TArmTrees → Bool
  arms_are_wide no_tarms = false
  arms_are_wide (and_tarm e body spot arms) = expr_is_wide e || stmts_are_wide body || arms_are_wide arms

  pub branches_are_wide : TBranchTrees → Bool
  branches_are_wide no_tbranches = false
  branches_are_wide (and_tbranch ls body branches) = stmts_are_wide body || branches_are_wide branches

  pub other_is_wide : TOtherTree → Bool
  other_is_wide no_tother = false
  other_is_wide (tother body) = stmts_are_wide body

-- a slot or a node of the program has the type LINT
abbrev pub wide : Program → Bool
wide p = list_any (λ s. is_lint s.ty) p.slots || stmts_are_wide p.body
