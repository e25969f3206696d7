-- The trees of a list with one item more are the trees of the list with one tree more.
use Rattle.std.proofs.Common.{◌≡◌, List, [], ◌∷◌, ◌++◌, refl, ap}
use Rattle.vcp_typed.specs.declared.expr.TExpr.{TExpr}
use Rattle.vcp_typed.specs.declared.stmt.TArm.{TArm}
use Rattle.vcp_typed.specs.declared.stmt.TBranch.{TBranch}
use Rattle.vcp_typed.specs.declared.stmt.TStmt.{TStmt}
use Rattle.vcp_typed.specs.TExprTree.{TExprTrees, and_texpr}
use Rattle.vcp_typed.specs.TExprViews.{texpr_tree, texpr_trees, texprs_and}
use Rattle.vcp_typed.specs.TStmtTree.{TStmtTrees, TArmTrees, TBranchTrees, and_tstmt, and_tarm, and_tbranch}
use Rattle.vcp_typed.specs.TStmtViews.{tstmt_tree, tstmt_trees, tarm_trees, tbranch_trees, tstmts_and, tarms_and, tbranches_and}

pub exprs-append : (es : List TExpr) (e : TExpr) → texpr_trees (es ++ e ∷ []) ≡ texprs_and (texpr_trees es) (texpr_tree e)
exprs-append [] e = refl
exprs-append (x ∷ xs) e = ap (λ (t : TExprTrees). and_texpr (texpr_tree x) t) (exprs-append xs e)

pub stmts-append : (ss : List TStmt) (s : TStmt) → tstmt_trees (ss ++ s ∷ []) ≡ tstmts_and (tstmt_trees ss) (tstmt_tree s)
stmts-append [] s = refl
stmts-append (x ∷ xs) s = ap (λ (t : TStmtTrees). and_tstmt (tstmt_tree x) t) (stmts-append xs s)

pub arms-append : (arms : List TArm) (a : TArm)
    → tarm_trees (arms ++ a ∷ []) ≡ tarms_and (tarm_trees arms) (texpr_tree a.cond) (tstmt_trees a.body.items.items) a.spot
arms-append [] a = refl
arms-append (x ∷ xs) a =
    ap (λ (t : TArmTrees). and_tarm (texpr_tree x.cond) (tstmt_trees x.body.items.items) x.spot t) (arms-append xs a)

pub branches-append : (branches : List TBranch) (b : TBranch)
    → tbranch_trees (branches ++ b ∷ []) ≡ tbranches_and (tbranch_trees branches) b.labels.items.items (tstmt_trees b.body.items.items)
branches-append [] b = refl
branches-append (x ∷ xs) b =
    ap (λ (t : TBranchTrees). and_tbranch x.labels.items.items (tstmt_trees x.body.items.items) t) (branches-append xs b)
