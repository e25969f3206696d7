-- Lists of statements, and statements as their parts say.
use Rattle.std.proofs.Common.{◌≡◌, ℕ, suc, List, [], ◌∷◌, ◌++◌, Option, refl, sym, ap, ◌∙◌}
use Rattle.std.proofs.lemmas.List.{append_assoc}
use Rattle.vcp_base.specs.declared.spot.Spot.{Spot}
use Rattle.st_lexer.specs.declared.token.Key.{Key}
use Rattle.st_lexer.specs.declared.token.Key.TheVariants as keys
use Rattle.st_lexer.specs.declared.token.Sym.TheVariants as symbols
use Rattle.st_tree.specs.declared.stmt.Label.{Label}
use Rattle.vcp_base.specs.declared.text.Text.{Text}
use Rattle.st_tree.specs.declared.expr.Expr.{Expr}
use Rattle.st_tree.specs.declared.stmt.Stmt.{Stmt, If, Case, For}
use Rattle.st_tree.specs.declared.stmt.Stmts.{Stmts}
use Rattle.st_tree.specs.declared.stmt.Arm.{Arm}
use Rattle.st_tree.specs.declared.stmt.Arms.{Arms}
use Rattle.st_tree.specs.declared.stmt.Branch.{Branch}
use Rattle.st_tree.specs.declared.stmt.Branches.{Branches}
use Rattle.st_tree.specs.StmtTree.{if_, case, for_}
use Rattle.st_tree.specs.ExprViews.{expr_tree, expr_tree_or_none}
use Rattle.st_tree.specs.StmtViews.{label_tree, label_trees, stmt_tree, stmt_trees, arm_trees, branch_trees, other_tree}
use Rattle.st_tree.specs.Items.{arm_items, branch_items}
use Rattle.st_tree.specs.Operators.{any_level}
use Rattle.st_writer.specs.Lexemes as lexeme
use Rattle.st_writer.specs.Lexemes.{Lexeme}
use Rattle.st_writer.specs.CanonicalExpr.{expr}
use Rattle.st_writer.specs.CanonicalStmt.{label, labels, more_labels, stmt, stmts, arms_from, branches_of}
use Rattle.st_writer.specs.Adds.{separator, arm_key}
use Rattle.st_writer.proofs.Lists.{all}

-- a label, behind what separates it from the one before
abbrev pub label_at : ℕ → Label → List Lexeme
label_at i l = separator i ++ label (label_tree l)

more-labels-are : (ls : List Label) → all (λ i. label_at (suc i)) ls ≡ more_labels (label_trees ls)
more-labels-are [] = refl
more-labels-are (l ∷ ls) =
    ap (λ (t : List Lexeme). lexeme.symbol symbols.Comma ∷ lexeme.blank ∷ (label (label_tree l) ++ t)) (more-labels-are ls)

pub labels-are : (ls : List Label) → all label_at ls ≡ labels (label_trees ls)
labels-are [] = refl
labels-are (l ∷ ls) = ap (λ (t : List Lexeme). label (label_tree l) ++ t) (more-labels-are ls)

-- a statement of a list at level n
abbrev pub stmt_at : ℕ → ℕ → Stmt → List Lexeme
stmt_at n i s = stmt n (stmt_tree s)

pub stmts-are : (n : ℕ) (ss : List Stmt) → all (stmt_at n) ss ≡ stmts n (stmt_trees ss)
stmts-are n [] = refl
stmts-are n (s ∷ ss) = ap (λ (t : List Lexeme). stmt n (stmt_tree s) ++ t) (stmts-are n ss)

-- a condition of an IF at level n behind a keyword, with its body
abbrev pub arm_of : ℕ → Key → Arm → List Lexeme
arm_of n k a =
    lexeme.line n (lexeme.word k ∷ lexeme.blank ∷ (expr any_level (expr_tree a.cond) ++ lexeme.blank ∷ lexeme.word keys.Then ∷ []))
    ++ stmts (suc n) (stmt_trees a.body.items.items)

abbrev pub arm_at : ℕ → ℕ → Arm → List Lexeme
arm_at n i a = arm_of n (arm_key i) a

more-arms-are : (n : ℕ) (arms : List Arm) → all (λ i. arm_at n (suc i)) arms ≡ arms_from n keys.Elsif (arm_trees arms)
more-arms-are n [] = refl
more-arms-are n (a ∷ arms) = ap (λ (t : List Lexeme). arm_of n keys.Elsif a ++ t) (more-arms-are n arms)
    ∙ append_assoc _ (stmts (suc n) (stmt_trees a.body.items.items)) _

pub arms-are : (n : ℕ) (arms : List Arm) → all (arm_at n) arms ≡ arms_from n keys.If (arm_trees arms)
arms-are n [] = refl
arms-are n (a ∷ arms) = ap (λ (t : List Lexeme). arm_of n keys.If a ++ t) (more-arms-are n arms)
    ∙ append_assoc _ (stmts (suc n) (stmt_trees a.body.items.items)) _

-- a branch of a CASE, its labels at level n
abbrev pub branch_at : ℕ → ℕ → Branch → List Lexeme
branch_at n i b =
    lexeme.line n (labels (label_trees b.labels.items.items) ++ lexeme.symbol symbols.Colon ∷ [])
    ++ stmts (suc n) (stmt_trees b.body.items.items)

pub branches-are : (n : ℕ) (branches : List Branch) → all (branch_at (suc n)) branches ≡ branches_of n (branch_trees branches)
branches-are n [] = refl
branches-are n (b ∷ branches) = ap (λ (t : List Lexeme). branch_at (suc n) 0 b ++ t) (branches-are n branches)
    ∙ append_assoc (lexeme.line (suc n) (labels (label_trees b.labels.items.items) ++ lexeme.symbol symbols.Colon ∷ []))
    (stmts (suc (suc n)) (stmt_trees b.body.items.items)) (branches_of n (branch_trees branches))

-- what statements with lists hold, by the law of their nodes
pub tree-if : (a : Stmt) (arms : Arms) (o : Option Stmts) (xs : List Arm) → stmt_tree (If arms o) ≡ if_ (arm_trees (arm_items arms)) (other_tree o)
    → a ≡ If arms o → xs ≡ arm_items arms → stmt_tree a ≡ if_ (arm_trees xs) (other_tree o)
tree-if a arms o xs law e f = ap stmt_tree e ∙ law ∙ ap (λ (x : List Arm). if_ (arm_trees x) (other_tree o)) (sym f)

pub tree-case : (a : Stmt) (on : Expr) (branches : Branches) (o : Option Stmts) (s : Spot) (xs : List Branch)
    → stmt_tree (Case on branches o s) ≡ case (expr_tree on) (branch_trees (branch_items branches)) (other_tree o) s
    → a ≡ Case on branches o s → xs ≡ branch_items branches → stmt_tree a ≡ case (expr_tree on) (branch_trees xs) (other_tree o) s
tree-case a on branches o s xs law e f =
    ap stmt_tree e ∙ law ∙ ap (λ (x : List Branch). case (expr_tree on) (branch_trees x) (other_tree o) s) (sym f)

pub tree-for : (a : Stmt) (name : Text) (ns : Spot) (first last : Expr) (by : Option Expr) (body : Stmts) (s : Spot) (xs : List Stmt)
    → stmt_tree (For name ns first last by body s) ≡ for_ name ns (expr_tree first) (expr_tree last) (expr_tree_or_none by) (stmt_trees body.items.items) s
    → a ≡ For name ns first last by body s → xs ≡ body.items.items
    → stmt_tree a ≡ for_ name ns (expr_tree first) (expr_tree last) (expr_tree_or_none by) (stmt_trees xs) s
tree-for a name ns first last by body s xs law e f =
    ap stmt_tree e ∙ law ∙ ap (λ (x : List Stmt). for_ name ns (expr_tree first) (expr_tree last) (expr_tree_or_none by) (stmt_trees x) s) (sym f)
