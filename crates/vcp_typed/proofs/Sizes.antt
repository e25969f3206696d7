-- The Size of the nodes that hold lists.
use Rattle.std.proofs.Common.{◌≡◌, ℕ, zero, suc, ◌+◌, ◌*◌, ◌<◌, ◌≤◌, ℤ, List, [], ◌∷◌, length, get_or, drop, Option, refl, sym, ap, ◌∙◌, arith, inl, inr}
use Rattle.std.proofs.lemmas.List.{at_drop_more, drop_all}
use Rattle.std.proofs.str.Laws.{order}
use Rattle.vcp_base.specs.declared.spot.Spot.{Spot}
use Rattle.vcp_base.specs.declared.ty.Ty.{Ty}
use Rattle.vcp_typed.specs.declared.expr.Fun.{Fun}
use Rattle.vcp_typed.specs.declared.expr.TExprs.{TExprs}
use Rattle.vcp_typed.specs.declared.expr.TExpr.{TExpr, Call}
use Rattle.vcp_typed.specs.declared.stmt.TArm.{TArm}
use Rattle.vcp_typed.specs.declared.stmt.TArms.{TArms}
use Rattle.vcp_typed.specs.declared.stmt.TBranch.{TBranch}
use Rattle.vcp_typed.specs.declared.stmt.TBranches.{TBranches}
use Rattle.vcp_typed.specs.declared.stmt.TStmts.{TStmts}
use Rattle.vcp_typed.specs.declared.stmt.TStmt.{TStmt, If, Case, For}
use Rattle.vcp_typed.specs.Items.{tarm_items, tbranch_items}
use Rattle.vcp_typed.specs.TExprViews.{texpr_tree, texpr_trees}
use Rattle.vcp_typed.specs.TStmtTree.{TStmtTrees, for_}
use Rattle.vcp_typed.specs.TStmtViews.{tstmt_tree, tstmt_trees, tarm_trees, tbranch_trees, tother_tree}
use Rattle.st_tree.specs.declared.program.Section.{Section}
use Rattle.st_tree.specs.declared.program.Section.TheVariants as section
use Rattle.vcp_typed.specs.Size.{cut, function_size, expr_size, exprs_size, stmt_size, stmts_size, arms_size, branches_size, other_size, section_size}
use Rattle.vcp_typed.proofs.Rows.{tree-call, tree-if, tree-case, tree-for}

pub size-call : (e : TExpr) (f : Fun) (t : Ty) (es : TExprs) (s : Spot) → e ≡ Call f t es s
    → expr_size (texpr_tree e) ≡ function_size f + exprs_size (texpr_trees es.items.items)
size-call e f t es s is = ap (λ (x : TExpr). expr_size (texpr_tree x)) is ∙ ap expr_size (tree-call f t es s)

pub size-if : (d : TStmt) (arms : TArms) (o : Option TStmts) (xs : List TArm) → d ≡ If arms o → xs ≡ tarm_items arms
    → stmt_size (tstmt_tree d) ≡ arms_size (tarm_trees xs) + other_size (tother_tree o)
size-if d arms o xs is same =
    ap (λ (x : TStmt). stmt_size (tstmt_tree x)) is ∙ ap stmt_size (tree-if arms o)
    ∙ sym (ap (λ (x : List TArm). arms_size (tarm_trees x) + other_size (tother_tree o)) same)

pub size-case : (d : TStmt) (e : TExpr) (branches : TBranches) (o : Option TStmts) (s : Spot) (xs : List TBranch)
    → d ≡ Case e branches o s → xs ≡ tbranch_items branches
    → stmt_size (tstmt_tree d) ≡ expr_size (texpr_tree e) + branches_size (tbranch_trees xs) + other_size (tother_tree o)
size-case d e branches o s xs is same =
    ap (λ (x : TStmt). stmt_size (tstmt_tree x)) is ∙ ap stmt_size (tree-case e branches o s)
    ∙ sym (ap (λ (x : List TBranch). expr_size (texpr_tree e) + branches_size (tbranch_trees x) + other_size (tother_tree o)) same)

cut-times : (n a : ℕ) → 0 < n → cut (n * cut a) ≡ cut (n * a)
cut-times zero a h = absurd (omega arith)
cut-times (suc k) a h = elim (order a 65537) [
  | inl low ↦ let e : cut a ≡ a = omega (arith, low) in ap (λ x. cut (suc k * x)) e
  | inr high ↦
      let e : cut a ≡ 65537 = omega (arith, high) in
      let l : cut (suc k * 65537) ≡ 65537 = omega arith in
      let r : cut (suc k * a) ≡ 65537 = omega (arith, high) in
      ap (λ x. cut (suc k * x)) e ∙ l ∙ sym r
]

cut-two : (r d e : ℕ) → d ≡ cut e → r ≡ cut (2 + d) → r ≡ cut (2 + e)
cut-two r d e h k = omega arith

for-size : (slot : ℕ) (first by : ℤ) (n : ℕ) (b : TStmtTrees) (s : Spot) (r d : ℕ) → (n ≡ 0 → r ≡ 2) → (0 < n → r ≡ cut (n * cut (2 + d)))
    → d ≡ cut (stmts_size b) → r ≡ cut (stmt_size (for_ slot first by n b s))
for-size slot first by zero b s r d none some h = none refl
for-size slot first by (suc k) b s r d none some h =
    some (omega arith) ∙ ap (λ x. cut (suc k * x)) (cut-two (cut (2 + d)) d (stmts_size b) h refl) ∙ cut-times (suc k) (2 + stmts_size b) (omega arith)

-- the Size of a FOR, of its turns or of none
pub size-for : (d : TStmt) (slot : ℕ) (first by : ℤ) (turns : ℕ) (body : TStmts) (s : Spot) → d ≡ For slot first by turns body s → (r m : ℕ)
    → (turns ≡ 0 → r ≡ 2) → (0 < turns → r ≡ cut (turns * cut (2 + m))) → m ≡ cut (stmts_size (tstmt_trees body.items.items))
    → r ≡ cut (stmt_size (tstmt_tree d))
size-for d slot first by turns body s is r m none some h =
    for-size slot first by turns (tstmt_trees body.items.items) s r m none some h
    ∙ sym (ap (λ (x : TStmt). cut (stmt_size (tstmt_tree x))) is ∙ ap (λ x. cut (stmt_size x)) (tree-for slot first by turns body s))

-- a sum of cut Sizes is cut as that of the Sizes
pub sum-right : (r a b y : ℕ) → b ≡ cut y → r ≡ cut (a + b) → r ≡ cut (a + y)
sum-right r a b y h k = omega arith
