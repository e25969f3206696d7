-- Statements that are equal bare.
use Rattle.std.proofs.Common.{◌≡◌, ℕ, ◌<◌, Bool, false, List, [], ◌∷◌, length, get_or, refl, sym, ap, ap₂, ◌∙◌, Option, Some, None}
use Rattle.std.specs.Prelude.{IsTrue, ◌↔◌, map}
use Rattle.vcp_base.specs.declared.spot.Spot.{Spot}
use Rattle.vcp_base.specs.declared.text.Text.{Text}
use Rattle.st_tree.specs.declared.expr.Expr.{Expr}
use Rattle.st_tree.specs.declared.stmt.Label.{Label}
use Rattle.st_tree.specs.declared.stmt.Arm.{Arm}
use Rattle.st_tree.specs.declared.stmt.Arms.{Arms}
use Rattle.st_tree.specs.declared.stmt.Branch.{Branch}
use Rattle.st_tree.specs.declared.stmt.Branches.{Branches}
use Rattle.st_tree.specs.declared.stmt.Stmts.{Stmts}
use Rattle.st_tree.specs.declared.stmt.Stmt.{Stmt, If, Case, For, roll-Stmt, roll-out-Stmt}
use Rattle.st_tree.specs.declared.stmt.Stmt.TheVariants.{Assign, If', Case', For', rolls-If, outs-If', rolls-Case, outs-Case', rolls-For, outs-For'}
use Rattle.st_tree.specs.ExprTree.{ExprTree}
use Rattle.st_tree.specs.StmtTree.{LabelTree, StmtTree, StmtTrees, ArmTrees, BranchTrees, OtherTree, assign, if_, case, for_, no_stmts, and_stmt, no_arms}
use Rattle.st_tree.specs.StmtTree.{and_arm, no_branches, and_branch, no_other, other}
use Rattle.st_tree.specs.ExprViews.{expr_tree, expr_tree_or_none}
use Rattle.st_tree.specs.StmtViews.{label_tree, label_trees, stmt_tree, stmt_trees, arm_trees, branch_trees, other_tree}
use Rattle.st_tree.specs.Items.{arm_items, branch_items}
use Rattle.st_tree.specs.Bare.{nowhere, bare_expr, bare_expr_or_none, bare_label, bare_stmt, bare_stmts, bare_arms, bare_branches, bare_other}
use Rattle.st_tree.proofs.Rows.{tree-if, tree-case, tree-for}
use Rattle.st_tree.proofs.Pointwise.{by-each, same-length, each, never}

-- nodes of the program, bare
abbrev pub bare_label_of : Label → LabelTree
bare_label_of l = bare_label (label_tree l)

abbrev label_from : ExprTree → Option ExprTree → LabelTree
label_from first last = record { first = first; last = last }

abbrev pub bare_stmt_of : Stmt → StmtTree
bare_stmt_of s = bare_stmt (stmt_tree s)

abbrev pub bare_body_of : Stmts → StmtTrees
bare_body_of ss = bare_stmts (stmt_trees ss.items.items)

abbrev pub bare_arm_of : Arm → ExprTree × StmtTrees
bare_arm_of a = (bare_expr (expr_tree a.cond), bare_body_of a.body)

abbrev pub bare_branch_of : Branch → List LabelTree × StmtTrees
bare_branch_of b = (map bare_label (label_trees b.labels.items.items), bare_body_of b.body)

-- labels are equal where their ends are

pub same-label : (r : Bool) (a b : Label) → bare_expr (expr_tree a.first) ≡ bare_expr (expr_tree b.first)
    → (IsTrue r ↔ (bare_expr_or_none (expr_tree_or_none a.last) ≡ bare_expr_or_none (expr_tree_or_none b.last)))
    → IsTrue r ↔ (bare_label_of a ≡ bare_label_of b)
same-label r a b e h = (
  λ t. ap₂ label_from e (h.0 t),
  λ q. h.1 (ap (λ (l : LabelTree). l.last) q),
)

pub other-label : (r : Bool) (a b : Label) → r ≡ false → (IsTrue r ↔ (bare_expr (expr_tree a.first) ≡ bare_expr (expr_tree b.first)))
    → IsTrue r ↔ (bare_label_of a ≡ bare_label_of b)
other-label r a b e h = (λ t. absurd cc, λ q. h.1 (ap (λ (l : LabelTree). l.first) q))

-- lists of statements

abbrev joined : List StmtTree → StmtTrees
joined [] = no_stmts
joined (s ∷ ss) = and_stmt s (joined ss)

abbrev split : StmtTrees → List StmtTree
split no_stmts = []
split (and_stmt s ss) = s ∷ split ss

joined-map : (ss : List Stmt) → joined (map bare_stmt_of ss) ≡ bare_stmts (stmt_trees ss)
joined-map [] = refl
joined-map (s ∷ ss) = ap (λ (t : StmtTrees). and_stmt (bare_stmt_of s) t) (joined-map ss)

split-map : (ss : List Stmt) → split (bare_stmts (stmt_trees ss)) ≡ map bare_stmt_of ss
split-map [] = refl
split-map (s ∷ ss) = ap (λ (t : List StmtTree). bare_stmt_of s ∷ t) (split-map ss)

as-lists : (xs ys : List Stmt) → bare_stmts (stmt_trees xs) ≡ bare_stmts (stmt_trees ys) → map bare_stmt_of xs ≡ map bare_stmt_of ys
as-lists xs ys e = sym (split-map xs) ∙ ap split e ∙ split-map ys

pub stmts-by-each : (xs ys : List Stmt) → length xs ≡ length ys
    → ((k : ℕ) (d : Stmt) → k < length xs → bare_stmt_of (get_or xs k d) ≡ bare_stmt_of (get_or ys k d))
    → bare_stmts (stmt_trees xs) ≡ bare_stmts (stmt_trees ys)
stmts-by-each xs ys e h = sym (joined-map xs) ∙ ap joined (by-each bare_stmt_of xs ys e h) ∙ joined-map ys

pub stmts-length : (xs ys : List Stmt) → bare_stmts (stmt_trees xs) ≡ bare_stmts (stmt_trees ys) → length xs ≡ length ys
stmts-length xs ys e = same-length bare_stmt_of xs ys (as-lists xs ys e)

pub stmts-each : (xs ys : List Stmt) → bare_stmts (stmt_trees xs) ≡ bare_stmts (stmt_trees ys)
    → (k : ℕ) (d : Stmt) → k < length xs → bare_stmt_of (get_or xs k d) ≡ bare_stmt_of (get_or ys k d)
stmts-each xs ys e = each bare_stmt_of xs ys (as-lists xs ys e)

-- lists of conditions with their bodies

abbrev joined_arms : List (ExprTree × StmtTrees) → ArmTrees
joined_arms [] = no_arms
joined_arms (a ∷ arms) = and_arm a.0 a.1 nowhere (joined_arms arms)

abbrev split_arms : ArmTrees → List (ExprTree × StmtTrees)
split_arms no_arms = []
split_arms (and_arm c body s arms) = (c, body) ∷ split_arms arms

joined_arms-map : (arms : List Arm) → joined_arms (map bare_arm_of arms) ≡ bare_arms (arm_trees arms)
joined_arms-map [] = refl
joined_arms-map (a ∷ arms) =
    ap (λ (t : ArmTrees). and_arm (bare_expr (expr_tree a.cond)) (bare_body_of a.body) nowhere t) (joined_arms-map arms)

split_arms-map : (arms : List Arm) → split_arms (bare_arms (arm_trees arms)) ≡ map bare_arm_of arms
split_arms-map [] = refl
split_arms-map (a ∷ arms) = ap (λ (t : List (ExprTree × StmtTrees)). bare_arm_of a ∷ t) (split_arms-map arms)

arms-as-lists : (xs ys : List Arm) → bare_arms (arm_trees xs) ≡ bare_arms (arm_trees ys) → map bare_arm_of xs ≡ map bare_arm_of ys
arms-as-lists xs ys e = sym (split_arms-map xs) ∙ ap split_arms e ∙ split_arms-map ys

pub arms-by-each : (xs ys : List Arm) → length xs ≡ length ys
    → ((k : ℕ) (d : Arm) → k < length xs → bare_arm_of (get_or xs k d) ≡ bare_arm_of (get_or ys k d))
    → bare_arms (arm_trees xs) ≡ bare_arms (arm_trees ys)
arms-by-each xs ys e h = sym (joined_arms-map xs) ∙ ap joined_arms (by-each bare_arm_of xs ys e h) ∙ joined_arms-map ys

pub arms-length : (xs ys : List Arm) → bare_arms (arm_trees xs) ≡ bare_arms (arm_trees ys) → length xs ≡ length ys
arms-length xs ys e = same-length bare_arm_of xs ys (arms-as-lists xs ys e)

pub arms-each : (xs ys : List Arm) → bare_arms (arm_trees xs) ≡ bare_arms (arm_trees ys)
    → (k : ℕ) (d : Arm) → k < length xs → bare_arm_of (get_or xs k d) ≡ bare_arm_of (get_or ys k d)
arms-each xs ys e = each bare_arm_of xs ys (arms-as-lists xs ys e)

-- lists of branches

abbrev joined_branches : List (List LabelTree × StmtTrees) → BranchTrees
joined_branches [] = no_branches
joined_branches (b ∷ branches) = and_branch b.0 b.1 (joined_branches branches)

abbrev split_branches : BranchTrees → List (List LabelTree × StmtTrees)
split_branches no_branches = []
split_branches (and_branch ls body branches) = (ls, body) ∷ split_branches branches

joined_branches-map : (branches : List Branch) → joined_branches (map bare_branch_of branches) ≡ bare_branches (branch_trees branches)
joined_branches-map [] = refl
joined_branches-map (b ∷ branches) =
    ap (λ (t : BranchTrees). and_branch (map bare_label (label_trees b.labels.items.items)) (bare_body_of b.body) t) (joined_branches-map branches)

split_branches-map : (branches : List Branch) → split_branches (bare_branches (branch_trees branches)) ≡ map bare_branch_of branches
split_branches-map [] = refl
split_branches-map (b ∷ branches) = ap (λ (t : List (List LabelTree × StmtTrees)). bare_branch_of b ∷ t) (split_branches-map branches)

branches-as-lists : (xs ys : List Branch) → bare_branches (branch_trees xs) ≡ bare_branches (branch_trees ys)
    → map bare_branch_of xs ≡ map bare_branch_of ys
branches-as-lists xs ys e = sym (split_branches-map xs) ∙ ap split_branches e ∙ split_branches-map ys

pub branches-by-each : (xs ys : List Branch) → length xs ≡ length ys
    → ((k : ℕ) (d : Branch) → k < length xs → bare_branch_of (get_or xs k d) ≡ bare_branch_of (get_or ys k d))
    → bare_branches (branch_trees xs) ≡ bare_branches (branch_trees ys)
branches-by-each xs ys e h =
    sym (joined_branches-map xs) ∙ ap joined_branches (by-each bare_branch_of xs ys e h) ∙ joined_branches-map ys

pub branches-length : (xs ys : List Branch) → bare_branches (branch_trees xs) ≡ bare_branches (branch_trees ys) → length xs ≡ length ys
branches-length xs ys e = same-length bare_branch_of xs ys (branches-as-lists xs ys e)

pub branches-each : (xs ys : List Branch) → bare_branches (branch_trees xs) ≡ bare_branches (branch_trees ys)
    → (k : ℕ) (d : Branch) → k < length xs → bare_branch_of (get_or xs k d) ≡ bare_branch_of (get_or ys k d)
branches-each xs ys e = each bare_branch_of xs ys (branches-as-lists xs ys e)

-- statements of the program, bare

pub bare-if : (a : Stmt) (arms : Arms) (o : Option Stmts) (xs : List Arm) → a ≡ If arms o → xs ≡ arm_items arms
    → bare_stmt_of a ≡ if_ (bare_arms (arm_trees xs)) (bare_other (other_tree o))
bare-if a arms o xs e f =
    ap bare_stmt_of e ∙ ap bare_stmt (tree-if arms o)
    ∙ sym (ap (λ (x : List Arm). if_ (bare_arms (arm_trees x)) (bare_other (other_tree o))) f)

pub bare-case : (a : Stmt) (on : Expr) (branches : Branches) (o : Option Stmts) (s : Spot) (xs : List Branch)
    → a ≡ Case on branches o s → xs ≡ branch_items branches
    → bare_stmt_of a ≡ case (bare_expr (expr_tree on)) (bare_branches (branch_trees xs)) (bare_other (other_tree o)) nowhere
bare-case a on branches o s xs e f =
    ap bare_stmt_of e ∙ ap bare_stmt (tree-case on branches o s)
    ∙ sym (ap (λ (x : List Branch). case (bare_expr (expr_tree on)) (bare_branches (branch_trees x)) (bare_other (other_tree o)) nowhere) f)

pub bare-for : (a : Stmt) (n : Text) (ns : Spot) (first last : Expr) (by : Option Expr) (body : Stmts) (s : Spot) (xs : List Stmt)
    → a ≡ For n ns first last by body s → xs ≡ body.items.items
    → bare_stmt_of a
    ≡ for_ n nowhere (bare_expr (expr_tree first)) (bare_expr (expr_tree last)) (bare_expr_or_none (expr_tree_or_none by))
    (bare_stmts (stmt_trees xs)) nowhere
bare-for a n ns first last by body s xs e f =
    ap bare_stmt_of e ∙ ap bare_stmt (tree-for n ns first last by body s)
    ∙ sym (ap (λ (x : List Stmt). for_ n nowhere (bare_expr (expr_tree first)) (bare_expr (expr_tree last)) (bare_expr_or_none (expr_tree_or_none by))
    (bare_stmts (stmt_trees x)) nowhere) f)

-- statements are equal where their parts are

if-parts : (x y : ArmTrees) (o p : OtherTree) → if_ x o ≡ if_ y p → (x ≡ y) × (o ≡ p)
if-parts x y o p e = (cc, cc)

pub same-if : (r : Bool) (x y : ArmTrees) (o p : OtherTree) (z : StmtTree) → x ≡ y → (IsTrue r ↔ (o ≡ p))
    → z ≡ if_ x o → IsTrue r ↔ (z ≡ if_ y p)
same-if r x y o p z e h f = (λ t. f ∙ (λ i. if_ (e i) (h.0 t i)), λ q. h.1 (if-parts x y o p (sym f ∙ q)).1)

pub other-if : (r : Bool) (x y : ArmTrees) (o p : OtherTree) (z : StmtTree) → r ≡ false → (IsTrue r ↔ (x ≡ y))
    → z ≡ if_ x o → IsTrue r ↔ (z ≡ if_ y p)
other-if r x y o p z e h f = (λ t. absurd cc, λ q. h.1 (if-parts x y o p (sym f ∙ q)).0)

case-parts : (a b : ExprTree) (x y : BranchTrees) (o p : OtherTree) → case a x o nowhere ≡ case b y p nowhere
    → (a ≡ b) × (x ≡ y) × (o ≡ p)
case-parts a b x y o p e = (cc, cc, cc)

pub same-case : (r : Bool) (a b : ExprTree) (x y : BranchTrees) (o p : OtherTree) (z : StmtTree) → a ≡ b → x ≡ y
    → (IsTrue r ↔ (o ≡ p)) → z ≡ case a x o nowhere → IsTrue r ↔ (z ≡ case b y p nowhere)
same-case r a b x y o p z d e h f =
    (λ t. f ∙ (λ i. case (d i) (e i) (h.0 t i) nowhere), λ q. h.1 (case-parts a b x y o p (sym f ∙ q)).2)

pub other-case : (r : Bool) (a b : ExprTree) (x y : BranchTrees) (o p : OtherTree) (z : StmtTree) → r ≡ false
    → (IsTrue r ↔ (x ≡ y)) → z ≡ case a x o nowhere → IsTrue r ↔ (z ≡ case b y p nowhere)
other-case r a b x y o p z e h f = (λ t. absurd cc, λ q. h.1 (case-parts a b x y o p (sym f ∙ q)).1)

for-parts : (n m : List ℕ) (f g l k : ExprTree) (by step : Option ExprTree) (x y : StmtTrees)
    → for_ n nowhere f l by x nowhere ≡ for_ m nowhere g k step y nowhere → x ≡ y
for-parts n m f g l k by step x y e = cc

pub same-for : (r : Bool) (n m : List ℕ) (f g l k : ExprTree) (by step : Option ExprTree) (x y : StmtTrees) (z : StmtTree)
    → n ≡ m → (f ≡ g) × (l ≡ k) × (by ≡ step) → (IsTrue r ↔ (x ≡ y))
    → z ≡ for_ n nowhere f l by x nowhere → IsTrue r ↔ (z ≡ for_ m nowhere g k step y nowhere)
same-for r n m f g l k by step x y z d e h w = (
  λ t. w ∙ (λ i. for_ (d i) nowhere (e.0 i) (e.1 i) (e.2 i) (h.0 t i) nowhere),
  λ q. h.1 (for-parts n m f g l k by step x y (sym w ∙ q)),
)

assign-parts : (n m : List ℕ) (x y : ExprTree) → assign n x nowhere ≡ assign m y nowhere → (n ≡ m) × (x ≡ y)
assign-parts n m x y e = (cc, cc)

pub same-assign : (r : Bool) (n m : List ℕ) (x y : ExprTree) (z : StmtTree) → n ≡ m → (IsTrue r ↔ (x ≡ y))
    → z ≡ assign n x nowhere → IsTrue r ↔ (z ≡ assign m y nowhere)
same-assign r n m x y z e h f = (
  λ t. f ∙ (λ i. assign (e i) (h.0 t i) nowhere),
  λ q. h.1 (assign-parts n m x y (sym f ∙ q)).1,
)

pub other-assign : (r : Bool) (n m : List ℕ) (x y : ExprTree) (z : StmtTree) → r ≡ false → (IsTrue r ↔ (n ≡ m))
    → z ≡ assign n x nowhere → IsTrue r ↔ (z ≡ assign m y nowhere)
other-assign r n m x y z e h f = (λ t. absurd cc, λ q. h.1 (assign-parts n m x y (sym f ∙ q)).0)

pub other-selector : (a b : ExprTree) (x y : BranchTrees) (o p : OtherTree) (z : StmtTree) → (a ≡ b → IsTrue false)
    → z ≡ case a x o nowhere → IsTrue false ↔ (z ≡ case b y p nowhere)
other-selector a b x y o p z h f = never (λ q. h (case-parts a b x y o p (sym f ∙ q)).0)

all-parts : (n m : List ℕ) (f g l k : ExprTree) (by step : Option ExprTree) (x y : StmtTrees)
    → for_ n nowhere f l by x nowhere ≡ for_ m nowhere g k step y nowhere
    → (n ≡ m) × ((f ≡ g) × (l ≡ k) × (by ≡ step))
all-parts n m f g l k by step x y e = (cc, (cc, cc, cc))

pub other-variable : (n m : List ℕ) (f g l k : ExprTree) (by step : Option ExprTree) (x y : StmtTrees) (z : StmtTree)
    → (n ≡ m → IsTrue false)
    → z ≡ for_ n nowhere f l by x nowhere → IsTrue false ↔ (z ≡ for_ m nowhere g k step y nowhere)
other-variable n m f g l k by step x y z h w = never (λ q. h (all-parts n m f g l k by step x y (sym w ∙ q)).0)

pub other-bounds : (r : Bool) (n m : List ℕ) (f g l k : ExprTree) (by step : Option ExprTree) (x y : StmtTrees) (z : StmtTree)
    → r ≡ false → (IsTrue r ↔ ((f ≡ g) × (l ≡ k) × (by ≡ step)))
    → z ≡ for_ n nowhere f l by x nowhere → IsTrue r ↔ (z ≡ for_ m nowhere g k step y nowhere)
other-bounds r n m f g l k by step x y z e h w =
    (λ t. absurd cc, λ q. h.1 (all-parts n m f g l k by step x y (sym w ∙ q)).1)

-- ---- statements of another kind

pub not-assign : (a : Stmt) (m : List ℕ) (v : ExprTree) → ((n : Text) (e : Expr) (s : Spot) → a ≡ Assign n e s → ⊥)
    → IsTrue false ↔ (bare_stmt_of a ≡ assign m v nowhere)
not-assign (Assign n e s) m v h = absurd (h n e s refl)
not-assign (If' arms held) m v h = never (λ q. absurd cc)
not-assign (Case' e branches held s) m v h = never (λ q. absurd cc)
not-assign (For' n ns f l by shape body s) m v h = never (λ q. absurd cc)

pub not-if : (a : Stmt) (x : ArmTrees) (o : OtherTree) → ((arms : Arms) (p : Option Stmts) → a ≡ If arms p → ⊥)
    → IsTrue false ↔ (bare_stmt_of a ≡ if_ x o)
not-if (Assign n e s) x o h = never (λ q. absurd cc)
not-if (If' arms held) x o h =
    absurd (h _ _ (sym (roll-out-Stmt (If' arms held)) ∙ ap roll-Stmt (outs-If' arms held) ∙ rolls-If _ _))
not-if (Case' e branches held s) x o h = never (λ q. absurd cc)
not-if (For' n ns f l by shape body s) x o h = never (λ q. absurd cc)

pub not-case : (a : Stmt) (v : ExprTree) (x : BranchTrees) (o : OtherTree)
    → ((e : Expr) (branches : Branches) (p : Option Stmts) (s : Spot) → a ≡ Case e branches p s → ⊥)
    → IsTrue false ↔ (bare_stmt_of a ≡ case v x o nowhere)
not-case (Assign n e s) v x o h = never (λ q. absurd cc)
not-case (If' arms held) v x o h = never (λ q. absurd cc)
not-case (Case' e branches held s) v x o h =
    absurd (h _ _ _ _ (sym (roll-out-Stmt (Case' e branches held s)) ∙ ap roll-Stmt (outs-Case' e branches held s) ∙ rolls-Case _ _ _ _))
not-case (For' n ns f l by shape body s) v x o h = never (λ q. absurd cc)

pub not-for : (a : Stmt) (m : List ℕ) (g k : ExprTree) (step : Option ExprTree) (x : StmtTrees)
    → ((n : Text) (ns : Spot) (f l : Expr) (by : Option Expr) (body : Stmts) (s : Spot) → a ≡ For n ns f l by body s → ⊥)
    → IsTrue false ↔ (bare_stmt_of a ≡ for_ m nowhere g k step x nowhere)
not-for (Assign n e s) m g k step x h = never (λ q. absurd cc)
not-for (If' arms held) m g k step x h = never (λ q. absurd cc)
not-for (Case' e branches held s) m g k step x h = never (λ q. absurd cc)
not-for (For' n ns f l by shape body s) m g k step x h =
    absurd (h _ _ _ _ _ _ _
    (sym (roll-out-Stmt (For' n ns f l by shape body s)) ∙ ap roll-Stmt (outs-For' n ns f l by shape body s) ∙ rolls-For _ _ _ _ _ _ _))

-- ---- bodies and labels behind their lists

abbrev pub bare_stmts_of : List Stmt → StmtTrees
bare_stmts_of ss = bare_stmts (stmt_trees ss)

abbrev pub bare_labels_of : List Label → List LabelTree
bare_labels_of ls = map bare_label (label_trees ls)

pub else-none : (a b : Option Stmts) (x : Stmts) → a ≡ Some x → b ≡ None
    → IsTrue false ↔ (bare_other (other_tree a) ≡ bare_other (other_tree b))
else-none a b x e f =
    never (λ q. absurd (apart _
    (sym (ap (λ (y : Option Stmts). bare_other (other_tree y)) e) ∙ q ∙ ap (λ (y : Option Stmts). bare_other (other_tree y)) f)))
  where
    apart : (y : StmtTrees) → other y ≡ no_other → ⊥
    apart y e = cc

pub else-same : (r : Bool) (a b : Option Stmts) (p q : Stmts) → a ≡ Some p → b ≡ Some q
    → (IsTrue r ↔ (bare_body_of p ≡ bare_body_of q)) → IsTrue r ↔ (bare_other (other_tree a) ≡ bare_other (other_tree b))
else-same r a b p q e f h = (
  λ t. ap (λ (y : Option Stmts). bare_other (other_tree y)) e ∙ ap (λ (y : StmtTrees). other y) (h.0 t)
      ∙ sym (ap (λ (y : Option Stmts). bare_other (other_tree y)) f),
  λ s. h.1 (bodies _ _
      (sym (ap (λ (y : Option Stmts). bare_other (other_tree y)) e) ∙ s ∙ ap (λ (y : Option Stmts). bare_other (other_tree y)) f)),
)
  where
    bodies : (x y : StmtTrees) → other x ≡ other y → x ≡ y
    bodies x y e = cc
