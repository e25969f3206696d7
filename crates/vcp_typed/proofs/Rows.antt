-- The children that a list of a node holds, as the trees of its items.
use Rattle.std.proofs.Common.{◌≡◌, ℕ, ℤ, Option, Some, None, Vec, Global, refl, sym, ap, ◌∙◌}
use Rattle.vcp_base.specs.declared.spot.Spot.{Spot}
use Rattle.vcp_base.specs.declared.ty.Ty.{Ty}
use Rattle.vcp_typed.specs.declared.expr.Fun.{Fun}
use Rattle.vcp_typed.specs.declared.expr.TExprs.{TExprs}
use Rattle.vcp_typed.specs.declared.expr.TExpr.{TExpr, Call, Row_of-TExpr, end_of-TExpr, more_of-TExpr, items-the_row-TExpr, items_hidden-the_row-TExpr-0}
use Rattle.vcp_typed.specs.declared.expr.TExpr.TheBlock.{hidden-the_row-TExpr-0}
use Rattle.vcp_typed.specs.declared.stmt.TArms.{TArms, out-TArms}
use Rattle.vcp_typed.specs.declared.stmt.TBranches.{TBranches, out-TBranches}
use Rattle.vcp_typed.specs.declared.stmt.TStmts.{TStmts}
use Rattle.vcp_typed.specs.declared.stmt.TStmt.{TStmt, Row_of-TStmt, end_of-TStmt, more_of-TStmt, items-the_row-TStmt, items_hidden-the_row-TStmt-0}
use Rattle.vcp_typed.specs.declared.stmt.TStmt.{items_shown-the_row-TStmt-0, back-TStmt-If-1, If, Case, For}
use Rattle.vcp_typed.specs.declared.stmt.TStmt.TheBlock.{Row_of-TArm, end_of-TArm, more_of-TArm, items-the_row-TArm, Row_of-TBranch, end_of-TBranch}
use Rattle.vcp_typed.specs.declared.stmt.TStmt.TheBlock.{more_of-TBranch, items-the_row-TBranch, hidden-the_row-TStmt-0, struct-TArms, struct-TBranches}
use Rattle.vcp_typed.specs.declared.stmt.TStmt.TheBlock.{items_shown-the_row-TArm-1, items_shown-the_row-TBranch-2}
use Rattle.vcp_typed.specs.TExprTree.{TExprTrees, call, and_texpr}
use Rattle.vcp_typed.specs.TExprViews.{texpr_tree, texpr_trees, row_of_texprs}
use Rattle.vcp_typed.specs.Items.{tarm_items, tbranch_items}
use Rattle.vcp_typed.specs.TStmtTree.{TStmtTrees, if_, case, for_, and_tstmt, and_tarm, and_tbranch, tother}
use Rattle.vcp_typed.specs.TStmtViews.{tstmt_tree, tstmt_trees, tarm_trees, tbranch_trees, tother_tree, row_of_tstmts, row_of_tarms, row_of_tbranches, tarms_of}
use Rattle.vcp_typed.specs.TStmtViews.{tbranches_of, tother_of}

row-exprs : (n : _) (k : Row_of-TExpr n) → row_of_texprs k ≡ texpr_trees (items-the_row-TExpr n k)
row-exprs _ end_of-TExpr = refl
row-exprs _ (more_of-TExpr e rest) = ap (λ (t : TExprTrees). and_texpr (texpr_tree e) t) (row-exprs _ rest)

pub exprs-are : (v : Vec TExpr Global) → row_of_texprs (hidden-the_row-TExpr-0 v) ≡ texpr_trees v.items
exprs-are v = row-exprs _ (hidden-the_row-TExpr-0 v) ∙ ap texpr_trees (items_hidden-the_row-TExpr-0 v)

pub tree-call : (f : Fun) (t : Ty) (es : TExprs) (s : Spot) → texpr_tree (Call f t es s) ≡ call f t (texpr_trees es.items.items) s
tree-call f t es s = ap (λ (x : TExprTrees). call f t x s) (exprs-are es.items)

row-stmts : (n : _) (k : Row_of-TStmt n) → row_of_tstmts k ≡ tstmt_trees (items-the_row-TStmt n k)
row-stmts _ end_of-TStmt = refl
row-stmts _ (more_of-TStmt s rest) = ap (λ (t : TStmtTrees). and_tstmt (tstmt_tree s) t) (row-stmts _ rest)

pub stmts-are : (v : Vec TStmt Global) → row_of_tstmts (hidden-the_row-TStmt-0 v) ≡ tstmt_trees v.items
stmts-are v = row-stmts _ (hidden-the_row-TStmt-0 v) ∙ ap tstmt_trees (items_hidden-the_row-TStmt-0 v)

row-arms : (n : _) (k : Row_of-TArm n) → row_of_tarms k ≡ tarm_trees (items-the_row-TArm n k)
row-arms _ end_of-TArm = refl
row-arms _ (more_of-TArm c shape body s rest) =
    λ i. and_tarm (texpr_tree c) ((row-stmts _ body ∙ ap tstmt_trees (sym (items_shown-the_row-TStmt-0 shape body))) i) s (row-arms _ rest i)

pub arms-are : (arms : TArms) → tarms_of arms ≡ tarm_trees (tarm_items arms)
unfolding out-TArms denote.Hole.Carrier.out Rattle.vcp_typed.specs.declared.stmt.TStmt.TheBlock.shown-the_row-TArm-1
arms-are (struct-TArms shape arms) = row-arms _ arms ∙ ap tarm_trees (sym (items_shown-the_row-TArm-1 shape arms))

row-branches : (n : _) (k : Row_of-TBranch n) → row_of_tbranches k ≡ tbranch_trees (items-the_row-TBranch n k)
row-branches _ end_of-TBranch = refl
row-branches _ (more_of-TBranch l shape body rest) =
    λ i. and_tbranch l.items.items ((row-stmts _ body ∙ ap tstmt_trees (sym (items_shown-the_row-TStmt-0 shape body))) i) (row-branches _ rest i)

pub branches-are : (branches : TBranches) → tbranches_of branches ≡ tbranch_trees (tbranch_items branches)
unfolding out-TBranches denote.Hole.Carrier.out Rattle.vcp_typed.specs.declared.stmt.TStmt.TheBlock.shown-the_row-TBranch-2
branches-are (struct-TBranches shape branches) = row-branches _ branches ∙ ap tbranch_trees (sym (items_shown-the_row-TBranch-2 shape branches))

pub other-is : (o : Option TStmts) → tother_of (back-TStmt-If-1 o) ≡ tother_tree o
other-is None = refl
other-is (Some ss) = ap (λ (t : TStmtTrees). tother t) (stmts-are ss.items)

pub tree-if : (arms : TArms) (o : Option TStmts) → tstmt_tree (If arms o) ≡ if_ (tarm_trees (tarm_items arms)) (tother_tree o)
tree-if arms o = λ i. if_ (arms-are arms i) (other-is o i)

pub tree-case : (e : TExpr) (branches : TBranches) (o : Option TStmts) (s : Spot)
    → tstmt_tree (Case e branches o s) ≡ case (texpr_tree e) (tbranch_trees (tbranch_items branches)) (tother_tree o) s
tree-case e branches o s = λ i. case (texpr_tree e) (branches-are branches i) (other-is o i) s

pub tree-for : (slot : ℕ) (first by : ℤ) (turns : ℕ) (body : TStmts) (s : Spot)
    → tstmt_tree (For slot first by turns body s) ≡ for_ slot first by turns (tstmt_trees body.items.items) s
tree-for slot first by turns body s = ap (λ (t : TStmtTrees). for_ slot first by turns t s) (stmts-are body.items)
