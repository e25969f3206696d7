-- Whether the nodes that hold lists have values of LINT.
use Rattle.std.proofs.Common.{◌≡◌, ℕ, ◌+◌, ◌<◌, ◌≤◌, ℤ, Bool, true, false, ◌||◌, List, [], ◌∷◌, length, get_or, drop, Option, sym, ap, ◌∙◌}
use Rattle.std.proofs.lemmas.List.{at_drop_more, drop_all}
use Rattle.vcp_base.specs.declared.spot.Spot.{Spot}
use Rattle.vcp_base.specs.declared.ty.Ty.{Ty}
use Rattle.vcp_typed.specs.declared.expr.Fun.{Fun}
use Rattle.vcp_typed.specs.declared.expr.TExprs.{TExprs}
use Rattle.vcp_typed.specs.declared.expr.TExpr.{TExpr, Call}
use Rattle.vcp_typed.specs.declared.stmt.TArm.{TArm}
use Rattle.vcp_typed.specs.declared.stmt.TArms.{TArms}
use Rattle.vcp_typed.specs.declared.stmt.TBranch.{TBranch}
use Rattle.vcp_typed.specs.declared.stmt.TBranches.{TBranches}
use Rattle.vcp_typed.specs.declared.stmt.TStmts.{TStmts}
use Rattle.vcp_typed.specs.declared.stmt.TStmt.{TStmt, If, Case, For}
use Rattle.vcp_typed.specs.Items.{tarm_items, tbranch_items}
use Rattle.vcp_typed.specs.TExprViews.{texpr_tree, texpr_trees}
use Rattle.vcp_typed.specs.TStmtViews.{tstmt_tree, tstmt_trees, tarm_trees, tbranch_trees, tother_tree}
use Rattle.vcp_typed.specs.Wide.{is_lint, expr_is_wide, exprs_are_wide, stmt_is_wide, stmts_are_wide, arms_are_wide, branches_are_wide, other_is_wide}
use Rattle.vcp_typed.proofs.Rows.{tree-call, tree-if, tree-case, tree-for}

pub wide-call : (e : TExpr) (f : Fun) (t : Ty) (es : TExprs) (s : Spot) → e ≡ Call f t es s
    → expr_is_wide (texpr_tree e) ≡ (is_lint t || exprs_are_wide (texpr_trees es.items.items))
wide-call e f t es s is = ap (λ (x : TExpr). expr_is_wide (texpr_tree x)) is ∙ ap expr_is_wide (tree-call f t es s)

pub wide-if : (d : TStmt) (arms : TArms) (o : Option TStmts) (xs : List TArm) → d ≡ If arms o → xs ≡ tarm_items arms
    → stmt_is_wide (tstmt_tree d) ≡ (arms_are_wide (tarm_trees xs) || other_is_wide (tother_tree o))
wide-if d arms o xs is same =
    ap (λ (x : TStmt). stmt_is_wide (tstmt_tree x)) is ∙ ap stmt_is_wide (tree-if arms o)
    ∙ sym (ap (λ (x : List TArm). arms_are_wide (tarm_trees x) || other_is_wide (tother_tree o)) same)

pub wide-case : (d : TStmt) (e : TExpr) (branches : TBranches) (o : Option TStmts) (s : Spot) (xs : List TBranch)
    → d ≡ Case e branches o s → xs ≡ tbranch_items branches
    → stmt_is_wide (tstmt_tree d) ≡ (expr_is_wide (texpr_tree e) || branches_are_wide (tbranch_trees xs) || other_is_wide (tother_tree o))
wide-case d e branches o s xs is same =
    ap (λ (x : TStmt). stmt_is_wide (tstmt_tree x)) is ∙ ap stmt_is_wide (tree-case e branches o s)
    ∙ sym (ap (λ (x : List TBranch). expr_is_wide (texpr_tree e) || branches_are_wide (tbranch_trees x) || other_is_wide (tother_tree o)) same)

pub wide-for : (d : TStmt) (slot : ℕ) (first by : ℤ) (turns : ℕ) (body : TStmts) (s : Spot) → d ≡ For slot first by turns body s
    → stmt_is_wide (tstmt_tree d) ≡ stmts_are_wide (tstmt_trees body.items.items)
wide-for d slot first by turns body s is =
    ap (λ (x : TStmt). stmt_is_wide (tstmt_tree x)) is ∙ ap stmt_is_wide (tree-for slot first by turns body s)
