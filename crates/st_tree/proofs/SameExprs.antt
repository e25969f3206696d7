-- Expressions that are equal bare.
use Rattle.std.proofs.Common.{◌≡◌, ℕ, ℤ, ◌<◌, Bool, true, false, T, eqb, eqb→eq, SFits, w64, to_z, of_z, subst, List, [], ◌∷◌, length, get_or, refl, sym, ap, ◌∙◌, Option, Box, Global, rules}
use Rattle.std.specs.Prelude.{IsTrue, ◌↔◌, map}
use Rattle.std.specs.Option.{option_eq}
use Rattle.std.proofs.Math.Dec.{eqb_refl}
use Rattle.std.proofs.lemmas.Float.{T_from_true}
use Rattle.std.proofs.lemmas.Int.{to_z-of_z}
use Rattle.vcp_base.specs.declared.spot.Spot.{Spot}
use Rattle.vcp_base.specs.declared.text.Text.{Text}
use Rattle.vcp_base.specs.declared.ty.Ty.{Ty}
use Rattle.vcp_base.specs.contracts.ty.TyPartialEq.TheImpl.{eq-value}
use Rattle.st_tree.specs.declared.expr.UnOp.{UnOp}
use Rattle.st_tree.specs.declared.expr.BinOp.{BinOp}
use Rattle.st_tree.specs.declared.expr.Exprs.{Exprs}
use Rattle.st_tree.specs.declared.expr.Expr.{Expr, Unary, Binary, Call}
use Rattle.st_tree.specs.declared.expr.Expr.TheVariants.{Lit, Name, Unary', Binary', Call'}
use Rattle.st_tree.specs.ExprTree.{ExprTree, ExprTrees, no_exprs, and_expr, literal, name, unary, binary, call}
use Rattle.st_tree.specs.ExprViews.{expr_tree, expr_trees}
use Rattle.st_tree.specs.Bare.{nowhere, bare_expr, bare_exprs}
use Rattle.st_tree.proofs.Rows.{tree-call}
use Rattle.st_tree.proofs.Pointwise.{by-each, same-length, each, never}

-- an expression of the program, bare
abbrev pub bare_of : Expr → ExprTree
bare_of e = bare_expr (expr_tree e)

abbrev joined : List ExprTree → ExprTrees
joined [] = no_exprs
joined (e ∷ es) = and_expr e (joined es)

abbrev split : ExprTrees → List ExprTree
split no_exprs = []
split (and_expr e es) = e ∷ split es

joined-map : (es : List Expr) → joined (map bare_of es) ≡ bare_exprs (expr_trees es)
joined-map [] = refl
joined-map (e ∷ es) = ap (λ (t : ExprTrees). and_expr (bare_of e) t) (joined-map es)

split-map : (es : List Expr) → split (bare_exprs (expr_trees es)) ≡ map bare_of es
split-map [] = refl
split-map (e ∷ es) = ap (λ (t : List ExprTree). bare_of e ∷ t) (split-map es)

as-lists : (xs ys : List Expr) → bare_exprs (expr_trees xs) ≡ bare_exprs (expr_trees ys) → map bare_of xs ≡ map bare_of ys
as-lists xs ys e = sym (split-map xs) ∙ ap split e ∙ split-map ys

pub exprs-by-each : (xs ys : List Expr) → length xs ≡ length ys
    → ((k : ℕ) (d : Expr) → k < length xs → bare_of (get_or xs k d) ≡ bare_of (get_or ys k d))
    → bare_exprs (expr_trees xs) ≡ bare_exprs (expr_trees ys)
exprs-by-each xs ys e h = sym (joined-map xs) ∙ ap joined (by-each bare_of xs ys e h) ∙ joined-map ys

pub exprs-length : (xs ys : List Expr) → bare_exprs (expr_trees xs) ≡ bare_exprs (expr_trees ys) → length xs ≡ length ys
exprs-length xs ys e = same-length bare_of xs ys (as-lists xs ys e)

pub exprs-each : (xs ys : List Expr) → bare_exprs (expr_trees xs) ≡ bare_exprs (expr_trees ys)
    → (k : ℕ) (d : Expr) → k < length xs → bare_of (get_or xs k d) ≡ bare_of (get_or ys k d)
exprs-each xs ys e = each bare_of xs ys (as-lists xs ys e)

-- a call of the program, bare
pub bare-call : (a : Expr) (n : Text) (es : Exprs) (s : Spot) (xs : List Expr) → a ≡ Call n es s → xs ≡ es.items.items
    → bare_of a ≡ call n (bare_exprs (expr_trees xs)) nowhere
bare-call a n es s xs e f =
    ap bare_of e ∙ ap bare_expr (tree-call n es s) ∙ sym (ap (λ (x : List Expr). call n (bare_exprs (expr_trees x)) nowhere) f)

call-parts : (n m : List ℕ) (x y : ExprTrees) → call n x nowhere ≡ call m y nowhere → x ≡ y
call-parts n m x y e = cc

pub same-call : (r : Bool) (n m : List ℕ) (x y : ExprTrees) (z : ExprTree) → n ≡ m → (IsTrue r ↔ (x ≡ y))
    → z ≡ call n x nowhere → IsTrue r ↔ (z ≡ call m y nowhere)
same-call r n m x y z e h f = (
  λ t. f ∙ (λ i. call (e i) (h.0 t i) nowhere),
  λ q. h.1 (call-parts n m x y (sym f ∙ q)),
)

pub other-call : (r : Bool) (n m : List ℕ) (x y : ExprTrees) (z : ExprTree) → r ≡ false → (IsTrue r ↔ (n ≡ m))
    → z ≡ call n x nowhere → IsTrue r ↔ (z ≡ call m y nowhere)
other-call r n m x y z e h f = (λ t. absurd cc, λ q. h.1 (call-names n m x y (sym f ∙ q)))
  where
    call-names : (n m : List ℕ) (x y : ExprTrees) → call n x nowhere ≡ call m y nowhere → n ≡ m
    call-names n m x y e = cc

-- ---- expressions of one kind are equal where their parts are

-- numbers are one where their bits are
pub same-number : (v w : ℤ) → SFits w64 v → SFits w64 w → IsTrue (eqb (of_z w64 v) (of_z w64 w)) ↔ (v ≡ w)
same-number v w f g = (
  λ t. sym (to_z-of_z w64 v f) ∙ ap (to_z w64) (eqb→eq _ _ (T_from_true _ t)) ∙ to_z-of_z w64 w g,
  λ e. subst (λ z. IsTrue (eqb (of_z w64 v) (of_z w64 z))) e (true_from_T _ (eqb_refl (of_z w64 v))),
)
  where
    true_from_T : (b : Bool) → T b → IsTrue b
    true_from_T true h = refl
    true_from_T false h = absurd h

-- types that may be left out are one where the test says so
pub types-same : (r : Bool) (t u : Option Ty) → r ≡ option_eq (eq-value).it t u → r ≡ true → t ≡ u
types-same r t u e h = search rules

pub same-types : (r : Bool) (t u : Option Ty) → r ≡ option_eq (eq-value).it t u → t ≡ u → IsTrue r
same-types r t u e h = search rules

literal-parts : (t u : Option Ty) (v w : ℤ) → literal t v nowhere ≡ literal u w nowhere → (t ≡ u) × (v ≡ w)
literal-parts t u v w e = (cc, cc)

pub same-literal : (r : Bool) (t u : Option Ty) (v w : ℤ) (z : ExprTree) → t ≡ u → (IsTrue r ↔ (v ≡ w)) → z ≡ literal t v nowhere
    → IsTrue r ↔ (z ≡ literal u w nowhere)
same-literal r t u v w z e h f =
    (λ p. f ∙ (λ i. literal (e i) (h.0 p i) nowhere), λ q. h.1 (literal-parts t u v w (sym f ∙ q)).1)

pub other-literal : (r : Bool) (t u : Option Ty) (v w : ℤ) (z : ExprTree) → r ≡ false → (t ≡ u → IsTrue r) → z ≡ literal t v nowhere
    → IsTrue r ↔ (z ≡ literal u w nowhere)
other-literal r t u v w z e h f = (λ p. absurd cc, λ q. h (literal-parts t u v w (sym f ∙ q)).0)

pub same-name : (r : Bool) (n m : List ℕ) (z : ExprTree) → (IsTrue r ↔ (n ≡ m)) → z ≡ name n nowhere
    → IsTrue r ↔ (z ≡ name m nowhere)
same-name r n m z h f = (λ t. f ∙ ap (λ (x : List ℕ). name x nowhere) (h.0 t), λ q. h.1 (names n m (sym f ∙ q)))
  where
    names : (n m : List ℕ) → name n nowhere ≡ name m nowhere → n ≡ m
    names n m e = cc

pub bare-unary : (a : Expr) (o : UnOp) (b : Box Expr Global) (s : Spot) (x : Expr) → a ≡ Unary o b s → x ≡ b.value
    → bare_of a ≡ unary o (bare_of x) nowhere
bare-unary a o b s x e f = ap bare_of e ∙ sym (ap (λ (y : Expr). unary o (bare_of y) nowhere) f)

unary-parts : (o p : UnOp) (x y : ExprTree) → unary o x nowhere ≡ unary p y nowhere → (o ≡ p) × (x ≡ y)
unary-parts o p x y e = (cc, cc)

pub same-unary : (r : Bool) (o p : UnOp) (x y : ExprTree) (z : ExprTree) → o ≡ p → (IsTrue r ↔ (x ≡ y))
    → z ≡ unary o x nowhere → IsTrue r ↔ (z ≡ unary p y nowhere)
same-unary r o p x y z e h f =
    (λ t. f ∙ (λ i. unary (e i) (h.0 t i) nowhere), λ q. h.1 (unary-parts o p x y (sym f ∙ q)).1)

pub other-unary : (r : Bool) (o p : UnOp) (x y : ExprTree) (z : ExprTree) → r ≡ false → (o ≡ p → IsTrue r)
    → z ≡ unary o x nowhere → IsTrue r ↔ (z ≡ unary p y nowhere)
other-unary r o p x y z e h f = (λ t. absurd cc, λ q. h (unary-parts o p x y (sym f ∙ q)).0)

pub bare-binary : (a : Expr) (o : BinOp) (b d : Box Expr Global) (s : Spot) (x y : Expr) → a ≡ Binary o b d s
    → x ≡ b.value → y ≡ d.value → bare_of a ≡ binary o (bare_of x) (bare_of y) nowhere
bare-binary a o b d s x y e f g = ap bare_of e ∙ sym (λ i. binary o (bare_of (f i)) (bare_of (g i)) nowhere)

binary-parts : (o p : BinOp) (x y v w : ExprTree) → binary o x v nowhere ≡ binary p y w nowhere
    → (o ≡ p) × (x ≡ y) × (v ≡ w)
binary-parts o p x y v w e = (cc, cc, cc)

pub same-binary : (r : Bool) (o p : BinOp) (x y v w : ExprTree) (z : ExprTree) → o ≡ p → x ≡ y → (IsTrue r ↔ (v ≡ w))
    → z ≡ binary o x v nowhere → IsTrue r ↔ (z ≡ binary p y w nowhere)
same-binary r o p x y v w z d e h f = (
  λ t. f ∙ (λ i. binary (d i) (e i) (h.0 t i) nowhere),
  λ q. h.1 (binary-parts o p x y v w (sym f ∙ q)).2,
)

pub other-left : (r : Bool) (o p : BinOp) (x y v w : ExprTree) (z : ExprTree) → r ≡ false → (IsTrue r ↔ (x ≡ y))
    → z ≡ binary o x v nowhere → IsTrue r ↔ (z ≡ binary p y w nowhere)
other-left r o p x y v w z e h f = (λ t. absurd cc, λ q. h.1 (binary-parts o p x y v w (sym f ∙ q)).1)

pub other-operator : (o p : BinOp) (x y v w : ExprTree) (z : ExprTree) → (o ≡ p → IsTrue false)
    → z ≡ binary o x v nowhere → IsTrue false ↔ (z ≡ binary p y w nowhere)
other-operator o p x y v w z h f = never (λ q. h (binary-parts o p x y v w (sym f ∙ q)).0)

-- ---- expressions of another kind

pub not-literal : (a : Expr) (ty : Option Ty) (v : ℤ) → ((t : _) (w : _) (s : Spot) → a ≡ Lit t w s → ⊥)
    → IsTrue false ↔ (bare_of a ≡ literal ty v nowhere)
not-literal (Lit t w s) ty v h = absurd (h t w s refl)
not-literal (Name n s) ty v h = never (λ e. absurd cc)
not-literal (Unary' o p x s) ty v h = never (λ e. absurd cc)
not-literal (Binary' o p x q y s) ty v h = never (λ e. absurd cc)
not-literal (Call' n shape args s) ty v h = never (λ e. absurd cc)

pub not-name : (a : Expr) (m : List ℕ) → ((n : Text) (s : Spot) → a ≡ Name n s → ⊥)
    → IsTrue false ↔ (bare_of a ≡ name m nowhere)
not-name (Lit t w s) m h = never (λ e. absurd cc)
not-name (Name n s) m h = absurd (h n s refl)
not-name (Unary' o p x s) m h = never (λ e. absurd cc)
not-name (Binary' o p x q y s) m h = never (λ e. absurd cc)
not-name (Call' n shape args s) m h = never (λ e. absurd cc)

pub not-unary : (a : Expr) (u : UnOp) (b : ExprTree) → ((o : UnOp) (x : Box Expr Global) (s : Spot) → a ≡ Unary o x s → ⊥)
    → IsTrue false ↔ (bare_of a ≡ unary u b nowhere)
not-unary (Lit t w s) u b h = never (λ e. absurd cc)
not-unary (Name n s) u b h = never (λ e. absurd cc)
not-unary (Unary' o p x s) u b h = absurd (h o (record { ptr = p.ptr; alloc = p.alloc; value = x }) s refl)
not-unary (Binary' o p x q y s) u b h = never (λ e. absurd cc)
not-unary (Call' n shape args s) u b h = never (λ e. absurd cc)

pub not-binary : (a : Expr) (u : BinOp) (b d : ExprTree)
    → ((o : BinOp) (x y : Box Expr Global) (s : Spot) → a ≡ Binary o x y s → ⊥)
    → IsTrue false ↔ (bare_of a ≡ binary u b d nowhere)
not-binary (Lit t w s) u b d h = never (λ e. absurd cc)
not-binary (Name n s) u b d h = never (λ e. absurd cc)
not-binary (Unary' o p x s) u b d h = never (λ e. absurd cc)
not-binary (Binary' o p x q y s) u b d h =
    absurd (h o (record { ptr = p.ptr; alloc = p.alloc; value = x }) (record { ptr = q.ptr; alloc = q.alloc; value = y }) s refl)
not-binary (Call' n shape args s) u b d h = never (λ e. absurd cc)
