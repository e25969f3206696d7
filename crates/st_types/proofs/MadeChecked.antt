-- MadeChecked: what typing makes keeps the rules of checked programs.
use Rattle.std.proofs.Common.{◌≡◌, ℕ, ℤ, pos, negsuc, neg_ℤ, int_le, Bool, true, false, cond, not, ◌&&◌, ◌==◌, map, List, [], ◌∷◌, ◌++◌, All, slice_get, Option}
use Rattle.std.proofs.Common.{Some, None, option_map, option_and_then, IfSome, refl, sym, ap, ap₂, ◌∙◌, subst, arith}
use Rattle.std.specs.List.{list_any}
use Rattle.std.proofs.lemmas.Bool.Decides.{nat_tests}
use Rattle.std.proofs.lemmas.Int.{ints}
use Rattle.std.proofs.lemmas.List.Elements.{All-nil, All-cons}
use Rattle.vcp_base.specs.declared.spot.Spot.{Spot}
use Rattle.vcp_base.specs.declared.ty.Ty.{Ty}
use Rattle.vcp_base.specs.declared.ty.Ty.TheVariants as ty
use Rattle.vcp_base.specs.Types.{fits, is_bool, within}
use Rattle.vcp_base.specs.Kinds.{same}
use Rattle.st_tree.specs.declared.expr.UnOp.{UnOp}
use Rattle.st_tree.specs.declared.expr.UnOp.TheVariants as un
use Rattle.st_tree.specs.declared.expr.BinOp.{BinOp}
use Rattle.st_tree.specs.declared.expr.BinOp.TheVariants as bin
use Rattle.st_tree.specs.declared.program.Section.{Section}
use Rattle.st_tree.specs.declared.program.Section.TheVariants as section
use Rattle.st_tree.specs.ExprTree.{ExprTree, ExprTrees, literal, name, unary, binary, call, no_exprs, and_expr}
use Rattle.st_tree.specs.StmtTree.{LabelTree, StmtTree, StmtTrees, ArmTrees, BranchTrees, OtherTree, assign, if_, case, for_, no_stmts, and_stmt, no_arms}
use Rattle.st_tree.specs.StmtTree.{and_arm, no_branches, and_branch, no_other, other}
use Rattle.vcp_typed.specs.declared.expr.Fun.{Fun}
use Rattle.vcp_typed.specs.declared.slot.Slot.{Slot}
use Rattle.vcp_typed.specs.declared.stmt.TLabel.{TLabel}
use Rattle.vcp_typed.specs.TExprTree as typed
use Rattle.vcp_typed.specs.TStmtTree as checked
use Rattle.vcp_typed.specs.Rules.{widens, joined, both_bool, joined_or_bool, common, signed, arguments}
use Rattle.vcp_typed.specs.Checked.{ty_of, tys_of, is_set, IsExpr, AreExprs, MaySet, IsLabel, IsStmt, AreStmts, AreArms, AreBranches, IsOther}
use Rattle.st_types.specs.Scope.{Entry, find}
use Rattle.st_types.specs.ExprTyping.{both, sized, literal_type, Untyped, negated, called, function_type, sign_type, type_of, got, as_type, widened}
use Rattle.st_types.specs.ExprTyping.{widened_all, sign_of}
use Rattle.st_types.specs.ExprTyping.{operation_of, call_of, expr_of, exprs_of}
use Rattle.st_types.specs.ExprTyping as typing
use Rattle.st_types.specs.StmtTyping.{is_constant, Known, Form, form_of_entry, form_of_negated, form, known_form, constant, is_form_bool, form_number}
use Rattle.st_types.specs.StmtTyping.{number_in, is_free}
use Rattle.st_types.specs.StmtTyping.{entry_type, not_zero, label_ends, label_of, held_in, assign_of, test_of, selector_of, turns_of, step_of, for_of, arm_of}
use Rattle.st_types.specs.StmtTyping.{branch_of, case_of}
use Rattle.st_types.specs.StmtTyping.{labels_of, stmt_of, stmts_of, arms_of, branches_of, other_of, spot_of}
use Rattle.st_types.proofs.ConstantLaws.{number-by}
use Rattle.st_types.proofs.ExprLaws.{none-some, same-value, AllTaken, Takes, takes, type-is}
use Rattle.st_types.proofs.TurnsFit.{turns-fit}

-- ---- a scope over slots

-- an entry's slot is there, with its type and section
abbrev pub HasSlot : List Slot → Entry → Type 0
HasSlot slots e = (s : Slot) × (slice_get slots e.slot ≡ Some s) × (s.ty ≡ e.ty) × (s.section ≡ e.section)

-- a constant's value is in its type, and another entry has its slot
abbrev pub IsEntry : List Slot → Entry → Section → Type 0
IsEntry slots e section.Constant = fits e.ty e.value ≡ true
IsEntry slots e section.Input = HasSlot slots e
IsEntry slots e section.Output = HasSlot slots e
IsEntry slots e section.Local = HasSlot slots e
IsEntry slots e section.Retain = HasSlot slots e

-- each name that is declared stands for an entry over these slots
abbrev pub IsScope : List Slot → List Entry → Type 0
IsScope slots es = (n : List ℕ) (e : Entry) → find es n ≡ Some e → IsEntry slots e e.section

-- ---- values in their types

pub within-fits : (t u : Ty) (v : ℤ) → within t u ≡ true → fits t v ≡ true → fits u v ≡ true
within-fits ty.Bool ty.Bool v w h = h
within-fits ty.Bool ty.Int v w h = absurd cc
within-fits ty.Bool ty.Dint v w h = absurd cc
within-fits ty.Bool ty.Lint v w h = absurd cc
within-fits ty.Int ty.Bool v w h = absurd cc
within-fits ty.Int ty.Int v w h = h
within-fits ty.Int ty.Dint (pos n) w h = grind (arith, nat_tests)
within-fits ty.Int ty.Dint (negsuc n) w h = grind (arith, nat_tests)
within-fits ty.Int ty.Lint (pos n) w h = grind (arith, nat_tests)
within-fits ty.Int ty.Lint (negsuc n) w h = grind (arith, nat_tests)
within-fits ty.Dint ty.Bool v w h = absurd cc
within-fits ty.Dint ty.Int v w h = absurd cc
within-fits ty.Dint ty.Dint v w h = h
within-fits ty.Dint ty.Lint (pos n) w h = grind (arith, nat_tests)
within-fits ty.Dint ty.Lint (negsuc n) w h = grind (arith, nat_tests)
within-fits ty.Lint ty.Bool v w h = absurd cc
within-fits ty.Lint ty.Int v w h = absurd cc
within-fits ty.Lint ty.Dint v w h = absurd cc
within-fits ty.Lint ty.Lint v w h = h

-- a value of the type that stands in an option
abbrev FitsTo : ℤ → Option Ty → Type 0
FitsTo v o = IfSome o (λ t. fits t v ≡ true)

cond-fits : (t : Ty) (v : ℤ) (b : Bool) (o : Option Ty) → fits t v ≡ b → FitsTo v o → FitsTo v (cond b (Some t) o)
cond-fits t v true o e h = e
cond-fits t v false o e h = h

sized-fits : (v : ℤ) → FitsTo v (sized v)
sized-fits v =
    cond-fits ty.Int v (fits ty.Int v) (cond (fits ty.Dint v) (Some ty.Dint) (cond (fits ty.Lint v) (Some ty.Lint) None)) refl
    (cond-fits ty.Dint v (fits ty.Dint v) (cond (fits ty.Lint v) (Some ty.Lint) None) refl
    (cond-fits ty.Lint v (fits ty.Lint v) None refl tt))

pub literal-fits : (t : Option Ty) (v : ℤ) → FitsTo v (literal_type t v)
literal-fits None v = sized-fits v
literal-fits (Some t) v = cond-fits t v (fits t v) None refl tt

-- ---- expressions

abbrev pub IsMade : List Slot → Option typed.TExprTree → Type 0
IsMade slots o = IfSome o (IsExpr slots)

literal-made : (slots : List Slot) (v : ℤ) (spot : Spot) (o : Option Ty) → FitsTo v o → IsMade slots (option_map (λ u. typed.literal u v spot) o)
literal-made slots v spot None h = tt
literal-made slots v spot (Some t) h = h

got-made : (slots : List Slot) (spot : Spot) (e : Entry) (c : Section) → IsEntry slots e c → IsExpr slots (got spot e c)
got-made slots spot e section.Constant h = h
got-made slots spot e section.Input h = (h.0, h.1, h.2)
got-made slots spot e section.Output h = (h.0, h.1, h.2)
got-made slots spot e section.Local h = (h.0, h.1, h.2)
got-made slots spot e section.Retain h = (h.0, h.1, h.2)

name-made : (slots : List Slot) (spot : Spot) (o : Option Entry) → ((e : Entry) → o ≡ Some e → IsEntry slots e e.section)
    → IsMade slots (option_map (λ e. got spot e e.section) o)
name-made slots spot None h = tt
name-made slots spot (Some e) h = got-made slots spot e e.section (h e refl)

widens-within : (u t : Ty) → widens u t ≡ true → within u t ≡ true
widens-within ty.Bool ty.Bool w = absurd cc
widens-within ty.Bool ty.Int w = absurd cc
widens-within ty.Bool ty.Dint w = absurd cc
widens-within ty.Bool ty.Lint w = absurd cc
widens-within ty.Int ty.Bool w = absurd cc
widens-within ty.Int ty.Int w = absurd cc
widens-within ty.Int ty.Dint w = refl
widens-within ty.Int ty.Lint w = refl
widens-within ty.Dint ty.Bool w = absurd cc
widens-within ty.Dint ty.Int w = absurd cc
widens-within ty.Dint ty.Dint w = absurd cc
widens-within ty.Dint ty.Lint w = refl
widens-within ty.Lint ty.Bool w = absurd cc
widens-within ty.Lint ty.Int w = absurd cc
widens-within ty.Lint ty.Dint w = absurd cc
widens-within ty.Lint ty.Lint w = absurd cc

same-type : (u t : Ty) → widens u t ≡ false → within u t ≡ true → u ≡ t
same-type ty.Bool ty.Bool w h = refl
same-type ty.Bool ty.Int w h = absurd cc
same-type ty.Bool ty.Dint w h = absurd cc
same-type ty.Bool ty.Lint w h = absurd cc
same-type ty.Int ty.Bool w h = absurd cc
same-type ty.Int ty.Int w h = refl
same-type ty.Int ty.Dint w h = absurd cc
same-type ty.Int ty.Lint w h = absurd cc
same-type ty.Dint ty.Bool w h = absurd cc
same-type ty.Dint ty.Int w h = absurd cc
same-type ty.Dint ty.Dint w h = refl
same-type ty.Dint ty.Lint w h = absurd cc
same-type ty.Lint ty.Bool w h = absurd cc
same-type ty.Lint ty.Int w h = absurd cc
same-type ty.Lint ty.Dint w h = absurd cc
same-type ty.Lint ty.Lint w h = refl

as-made : (slots : List Slot) (t u : Ty) (a : typed.TExprTree) → ty_of a ≡ u → widens u t ≡ true → IsExpr slots a
    → IsExpr slots (as_type t a) × (ty_of (as_type t a) ≡ t)
as-made slots t u (typed.literal x v spot) e w h = (within-fits x t v (ap (λ y. within y t) e ∙ widens-within u t w) h, refl)
as-made slots t u (typed.get slot x) e w h = ((h, ap (λ y. widens y t) e ∙ w), refl)
as-made slots t u (typed.widen x a) e w h = ((h, ap (λ y. widens y t) e ∙ w), refl)
as-made slots t u (typed.unary op x a spot) e w h = ((h, ap (λ y. widens y t) e ∙ w), refl)
as-made slots t u (typed.binary op x a b spot) e w h = ((h, ap (λ y. widens y t) e ∙ w), refl)
as-made slots t u (typed.call f x es spot) e w h = ((h, ap (λ y. widens y t) e ∙ w), refl)

widened-if : (slots : List Slot) (t u : Ty) (a : typed.TExprTree) (b : Bool) → widens u t ≡ b → ty_of a ≡ u → within u t ≡ true → IsExpr slots a
    → IsExpr slots (cond b (as_type t a) a) × (ty_of (cond b (as_type t a) a) ≡ t)
widened-if slots t u a true c e w h = as-made slots t u a e c h
widened-if slots t u a false c e w h = (h, e ∙ same-type u t c w)

pub widened-made : (slots : List Slot) (t u : Ty) (a : typed.TExprTree) → ty_of a ≡ u → within u t ≡ true → IsExpr slots a
    → IsExpr slots (widened t u a) × (ty_of (widened t u a) ≡ t)
widened-made slots t u a e w h = widened-if slots t u a (widens u t) refl e w h

-- values of both types are taken where the third is wanted, which is the common type of two of its own
abbrev Meets : (Ty → Ty → Option Ty) → Ty → Ty → Ty → Type 0
Meets g x y t = (within x t ≡ true) × (within y t ≡ true) × (g t t ≡ Some t)

joined-meets : (x y : Ty) → IfSome (joined x y) (Meets joined x y)
joined-meets ty.Bool y = tt
joined-meets ty.Int ty.Bool = tt
joined-meets ty.Int ty.Int = (refl, refl, refl)
joined-meets ty.Int ty.Dint = (refl, refl, refl)
joined-meets ty.Int ty.Lint = (refl, refl, refl)
joined-meets ty.Dint ty.Bool = tt
joined-meets ty.Dint ty.Int = (refl, refl, refl)
joined-meets ty.Dint ty.Dint = (refl, refl, refl)
joined-meets ty.Dint ty.Lint = (refl, refl, refl)
joined-meets ty.Lint ty.Bool = tt
joined-meets ty.Lint ty.Int = (refl, refl, refl)
joined-meets ty.Lint ty.Dint = (refl, refl, refl)
joined-meets ty.Lint ty.Lint = (refl, refl, refl)

bool-meets : (x y : Ty) → IfSome (both_bool x y) (Meets both_bool x y)
bool-meets ty.Bool ty.Bool = (refl, refl, refl)
bool-meets ty.Bool ty.Int = tt
bool-meets ty.Bool ty.Dint = tt
bool-meets ty.Bool ty.Lint = tt
bool-meets ty.Int y = tt
bool-meets ty.Dint y = tt
bool-meets ty.Lint y = tt

either-meets : (x y : Ty) → IfSome (joined_or_bool x y) (Meets joined_or_bool x y)
either-meets ty.Bool ty.Bool = (refl, refl, refl)
either-meets ty.Bool ty.Int = tt
either-meets ty.Bool ty.Dint = tt
either-meets ty.Bool ty.Lint = tt
either-meets ty.Int ty.Bool = tt
either-meets ty.Int ty.Int = (refl, refl, refl)
either-meets ty.Int ty.Dint = (refl, refl, refl)
either-meets ty.Int ty.Lint = (refl, refl, refl)
either-meets ty.Dint ty.Bool = tt
either-meets ty.Dint ty.Int = (refl, refl, refl)
either-meets ty.Dint ty.Dint = (refl, refl, refl)
either-meets ty.Dint ty.Lint = (refl, refl, refl)
either-meets ty.Lint ty.Bool = tt
either-meets ty.Lint ty.Int = (refl, refl, refl)
either-meets ty.Lint ty.Dint = (refl, refl, refl)
either-meets ty.Lint ty.Lint = (refl, refl, refl)

pub common-meets : (op : BinOp) (x y : Ty) → IfSome (common op x y) (Meets (common op) x y)
common-meets bin.Mul x y = joined-meets x y
common-meets bin.Div x y = joined-meets x y
common-meets bin.Mod x y = joined-meets x y
common-meets bin.Add x y = joined-meets x y
common-meets bin.Sub x y = joined-meets x y
common-meets bin.Lt x y = joined-meets x y
common-meets bin.Gt x y = joined-meets x y
common-meets bin.Le x y = joined-meets x y
common-meets bin.Ge x y = joined-meets x y
common-meets bin.Eq x y = either-meets x y
common-meets bin.Ne x y = either-meets x y
common-meets bin.And x y = bool-meets x y
common-meets bin.Xor x y = bool-meets x y
common-meets bin.Or x y = bool-meets x y

operation-made : (slots : List Slot) (op : BinOp) (spot : Spot) (a b : typed.TExprTree) (o : Option Ty) → IfSome o (Meets (common op) (ty_of a) (ty_of b))
    → IsExpr slots a → IsExpr slots b → IsMade slots (option_map (λ t. typed.binary op t (widened t (ty_of a) a) (widened t (ty_of b) b) spot) o)
operation-made slots op spot a b None c h k = tt
operation-made slots op spot a b (Some t) c h k =
    let x = widened-made slots t (ty_of a) a refl c.0 h in
    let y = widened-made slots t (ty_of b) b refl c.1 k in
    (x.0, y.0, x.1, y.1, c.2)

both-made : (slots : List Slot) (op : BinOp) (spot : Spot) (a b : Option typed.TExprTree) → IsMade slots a → IsMade slots b
    → IsMade slots (both (operation_of op spot) a b)
both-made slots op spot None b h k = tt
both-made slots op spot (Some a) None h k = tt
both-made slots op spot (Some a) (Some b) h k = operation-made slots op spot a b (common op (ty_of a) (ty_of b)) (common-meets op (ty_of a) (ty_of b)) h k

abbrev Signs : UnOp → Ty → Ty → Type 0
Signs op x t = (x ≡ t) × (signed op t ≡ Some t)

signs : (op : UnOp) (x : Ty) → IfSome (signed op x) (Signs op x)
signs un.Neg ty.Bool = tt
signs un.Neg ty.Int = (refl, refl)
signs un.Neg ty.Dint = (refl, refl)
signs un.Neg ty.Lint = (refl, refl)
signs un.Not ty.Bool = (refl, refl)
signs un.Not ty.Int = tt
signs un.Not ty.Dint = tt
signs un.Not ty.Lint = tt

signed-made : (slots : List Slot) (op : UnOp) (spot : Spot) (x : typed.TExprTree) (o : Option Ty) → IfSome o (Signs op (ty_of x)) → IsExpr slots x
    → IsMade slots (option_map (λ t. typed.unary op t x spot) o)
signed-made slots op spot x None c h = tt
signed-made slots op spot x (Some t) c h = (h, c.0, c.1)

sign-made : (slots : List Slot) (op : UnOp) (l : Option Untyped) (spot : Spot) (a : Option typed.TExprTree) → IsMade slots a
    → IsMade slots (sign_of op l spot a)
sign-made slots op (Some l) spot a h = literal-made slots (neg_ℤ l.value) l.spot (sized (neg_ℤ l.value)) (sized-fits (neg_ℤ l.value))
sign-made slots op None spot None h = tt
sign-made slots op None spot (Some x) h = signed-made slots op spot x (signed op (ty_of x)) (signs op (ty_of x)) h

-- the arguments of a call
abbrev AreAll : List Slot → List typed.TExprTree → Type 0
AreAll slots [] = Unit {0}
AreAll slots (e ∷ es) = IsExpr slots e × AreAll slots es

abbrev AllMade : List Slot → Option (List typed.TExprTree) → Type 0
AllMade slots o = IfSome o (AreAll slots)

more-made : (slots : List Slot) (a : Option typed.TExprTree) (es : Option (List typed.TExprTree)) → IsMade slots a → AllMade slots es
    → AllMade slots (both (λ x xs. Some (x ∷ xs)) a es)
more-made slots None es h k = tt
more-made slots (Some a) None h k = tt
more-made slots (Some a) (Some es) h k = (h, k)

all-widened : (slots : List Slot) (ts : List Ty) (es : List typed.TExprTree) → AreAll slots es → AllTaken (map ty_of es) ts
    → AreExprs slots (widened_all ts es) × (tys_of (widened_all ts es) ≡ ts)
all-widened slots [] [] h k = (tt, refl)
all-widened slots [] (e ∷ es) h k = absurd k
all-widened slots (t ∷ ts) [] h k = absurd k
all-widened slots (t ∷ ts) (e ∷ es) h k =
    let a = widened-made slots t (ty_of e) e refl k.0 h.0 in
    let b = all-widened slots ts es h.1 k.1 in
    ((a.0, b.0), ap₂ (λ u us. u ∷ us) a.1 b.1)

called-made : (slots : List Slot) (f : Fun) (t : Ty) (spot : Spot) (es : List typed.TExprTree) (ts : List Ty) (o : Option (List Ty)) → arguments f t ≡ o
    → o ≡ Some ts → AllTaken (map ty_of es) ts → AreAll slots es → IsMade slots (option_map (λ us. typed.call f t (widened_all us es) spot) o)
called-made slots f t spot es ts None e g k h = absurd (none-some ts g)
called-made slots f t spot es ts (Some us) e g k h =
    let w = all-widened slots us es h (subst (λ x. AllTaken (map ty_of es) x) (sym (same-value us ts g)) k) in
    (w.0, e ∙ ap (λ x. Some x) (sym w.1))

call-made : (slots : List Slot) (f : Fun) (spot : Spot) (es : List typed.TExprTree) (o : Option Ty) → IfSome o (Takes f (map ty_of es)) → AreAll slots es
    → IsMade slots (option_and_then (λ t. option_map (λ ts. typed.call f t (widened_all ts es) spot) (arguments f t)) o)
call-made slots f spot es None k h = tt
call-made slots f spot es (Some t) k h = called-made slots f t spot es k.0 (arguments f t) refl k.1 k.2 h

calls-made : (slots : List Slot) (o : Option Fun) (spot : Spot) (es : Option (List typed.TExprTree)) → AllMade slots es
    → IsMade slots (option_and_then (λ f. option_and_then (call_of f spot) es) o)
calls-made slots None spot es h = tt
calls-made slots (Some f) spot None h = tt
calls-made slots (Some f) spot (Some es) h = call-made slots f spot es (function_type f (map ty_of es)) (takes f (map ty_of es)) h

mutual
  pub expr-made : (slots : List Slot) (s : List Entry) (e : ExprTree) → IsScope slots s → IsMade slots (expr_of s e)
  expr-made slots s (literal t v spot) h = literal-made slots v spot (literal_type t v) (literal-fits t v)
  expr-made slots s (name n spot) h = name-made slots spot (find s n) (h n)
  expr-made slots s (unary op a spot) h = sign-made slots op (negated op a) spot (expr_of s a) (expr-made slots s a h)
  expr-made slots s (binary op a b spot) h = both-made slots op spot (expr_of s a) (expr_of s b) (expr-made slots s a h) (expr-made slots s b h)
  expr-made slots s (call n es spot) h = calls-made slots (called n (typing.count es)) spot (exprs_of s es) (exprs-made slots s es h)

  pub exprs-made : (slots : List Slot) (s : List Entry) (es : ExprTrees) → IsScope slots s → AllMade slots (exprs_of s es)
  exprs-made slots s no_exprs h = tt
  exprs-made slots s (and_expr x xs) h = more-made slots (expr_of s x) (exprs_of s xs) (expr-made slots s x h) (exprs-made slots s xs h)

pub if-some : {A : Type 0} (P : A → Type 0) (o : Option A) (x : A) → IfSome o P → o ≡ Some x → P x
if-some P o x h e = subst (λ y. IfSome y P) e h

-- ---- constants

abbrev pub KnownFits : Option Known → Type 0
KnownFits o = IfSome o (λ k. fits k.ty k.value ≡ true)

known-literal : (v : ℤ) (t o : Option Ty) → FitsTo v o → KnownFits (both known_form (Some (record { ty = t; value = v })) o)
known-literal v t None h = tt
known-literal v t (Some u) h = h

entry-known : (slots : List Slot) (e : Entry) (c : Section) → IsEntry slots e c
    → KnownFits (both known_form (cond (is_constant c) (Some (record { ty = Some e.ty; value = e.value })) None) (Some e.ty))
entry-known slots e section.Constant h = h
entry-known slots e section.Input h = tt
entry-known slots e section.Output h = tt
entry-known slots e section.Local h = tt
entry-known slots e section.Retain h = tt

name-known : (slots : List Slot) (o : Option Entry) → ((e : Entry) → o ≡ Some e → IsEntry slots e e.section)
    → KnownFits (both known_form (option_and_then form_of_entry o) (option_map (λ e. e.ty) o))
name-known slots None h = tt
name-known slots (Some e) h = entry-known slots e e.section (h e refl)

negated-known : (op : UnOp) (o : Option Untyped) (t : Option Ty) → KnownFits (both known_form (option_map form_of_negated o) (sign_type op o t))
negated-known op None t = tt
negated-known op (Some l) t = known-literal (neg_ℤ l.value) None (sized (neg_ℤ l.value)) (sized-fits (neg_ℤ l.value))

-- a constant's value is in its type
pub constant-fits : (slots : List Slot) (s : List Entry) (e : ExprTree) → IsScope slots s → KnownFits (constant s e)
constant-fits slots s (literal t v spot) h = known-literal v t (literal_type t v) (literal-fits t v)
constant-fits slots s (name n spot) h = name-known slots (find s n) (h n)
constant-fits slots s (unary op a spot) h = negated-known op (negated op a) (type_of s a)
constant-fits slots s (binary op a b spot) h = tt
constant-fits slots s (call n es spot) h = tt

number-if : (t : Ty) (w : ℤ) (b c : Bool) → fits t w ≡ c → IfSome (cond b None (cond c (Some w) None)) (λ v. fits t v ≡ true)
number-if t w true c e = tt
number-if t w false false e = tt
number-if t w false true e = e

form-made : (t : Ty) (k : Option Form) → IfSome (form_number (Some t) k) (λ v. fits t v ≡ true)
form-made t None = tt
form-made t (Some k) = number-if t k.value (is_form_bool k.ty) (fits t k.value) refl

number-made : (s : List Entry) (t : Ty) (e : ExprTree) → IfSome (number_in s (Some t) e) (λ v. fits t v ≡ true)
number-made s t e = number-by (λ (o : Option ℤ). IfSome o (λ v. fits t v ≡ true)) s (Some t) e tt (form-made t (form s e))

pub number-fits : (s : List Entry) (t : Ty) (e : ExprTree) (v : ℤ) → number_in s (Some t) e ≡ Some v → fits t v ≡ true
number-fits s t e v is = if-some (λ x. fits t x ≡ true) (number_in s (Some t) e) v (number-made s t e) is

-- ---- statements

abbrev StmtMade : List Slot → List ℕ → Option checked.TStmtTree → Type 0
StmtMade slots held o = IfSome o (IsStmt slots held)

abbrev StmtsMade : List Slot → List ℕ → Option checked.TStmtTrees → Type 0
StmtsMade slots held o = IfSome o (AreStmts slots held)

abbrev ArmsMade : List Slot → List ℕ → Option checked.TArmTrees → Type 0
ArmsMade slots held o = IfSome o (AreArms slots held)

abbrev BranchesMade : List Slot → List ℕ → Ty → Option checked.TBranchTrees → Type 0
BranchesMade slots held t o = IfSome o (AreBranches slots held t)

abbrev OtherMade : List Slot → List ℕ → Option checked.TOtherTree → Type 0
OtherMade slots held o = IfSome o (IsOther slots held)

has-slot : (slots : List Slot) (e : Entry) (c : Section) → IsEntry slots e c → is_set c ≡ true → HasSlot slots e
has-slot slots e section.Constant h k = absurd cc
has-slot slots e section.Input h k = absurd cc
has-slot slots e section.Output h k = h
has-slot slots e section.Local h k = h
has-slot slots e section.Retain h k = h

free-parts : (a h : Bool) → a && not h ≡ true → (a ≡ true) × (h ≡ false)
free-parts true false e = (refl, refl)
free-parts true true e = absurd cc
free-parts false h e = absurd cc

two-parts : (a b : Bool) → a && b ≡ true → (a ≡ true) × (b ≡ true)
two-parts true true e = (refl, refl)
two-parts true false e = absurd cc
two-parts false b e = absurd cc

may-set : (slots : List Slot) (held : List ℕ) (e : Entry) (t : Ty) → e.ty ≡ t → IsEntry slots e e.section → is_free held e ≡ true → MaySet slots held e.slot t
may-set slots held e t is h k =
    let f = free-parts (is_set e.section) (list_any (λ n. n == e.slot) held) k in
    let s = has-slot slots e e.section h f.0 in
    record { of = s.0; there = s.1; ty = s.2 ∙ is; set = ap is_set s.3 ∙ f.0; free = f.1 }

assign-if : (slots : List Slot) (held : List ℕ) (spot : Spot) (e : Entry) (x : typed.TExprTree) (b : Bool) → is_free held e && within (ty_of x) e.ty ≡ b
    → IsEntry slots e e.section → IsExpr slots x → StmtMade slots held (cond b (Some (checked.assign e.slot (widened e.ty (ty_of x) x) spot)) None)
assign-if slots held spot e x false k h i = tt
assign-if slots held spot e x true k h i =
    let p = two-parts (is_free held e) (within (ty_of x) e.ty) k in
    let w = widened-made slots e.ty (ty_of x) x refl p.1 i in
    (may-set slots held e (ty_of (widened e.ty (ty_of x) x)) (sym w.1) h p.0, w.0)

assign-made : (slots : List Slot) (held : List ℕ) (spot : Spot) (o : Option Entry) (x : Option typed.TExprTree)
    → ((e : Entry) → o ≡ Some e → IsEntry slots e e.section) → IsMade slots x → StmtMade slots held (both (assign_of held spot) o x)
assign-made slots held spot None x h i = tt
assign-made slots held spot (Some e) None h i = tt
assign-made slots held spot (Some e) (Some x) h i = assign-if slots held spot e x (is_free held e && within (ty_of x) e.ty) refl (h e refl) i

if-made : (slots : List Slot) (held : List ℕ) (a : Option checked.TArmTrees) (o : Option checked.TOtherTree) → ArmsMade slots held a → OtherMade slots held o
    → StmtMade slots held (both (λ x y. Some (checked.if_ x y)) a o)
if-made slots held None o h k = tt
if-made slots held (Some a) None h k = tt
if-made slots held (Some a) (Some o) h k = (h, k)

number-joins : (t : Ty) → is_bool t ≡ false → joined t t ≡ Some t
number-joins ty.Bool e = absurd cc
number-joins ty.Int e = refl
number-joins ty.Dint e = refl
number-joins ty.Lint e = refl

bool-is : (t : Ty) → is_bool t ≡ true → t ≡ ty.Bool
bool-is ty.Bool e = refl
bool-is ty.Int e = absurd cc
bool-is ty.Dint e = absurd cc
bool-is ty.Lint e = absurd cc

case-if : (slots : List Slot) (held : List ℕ) (spot : Spot) (x : typed.TExprTree) (c : Bool) (b : Option checked.TBranchTrees) (o : Option checked.TOtherTree)
    → is_bool (ty_of x) ≡ c → IsExpr slots x → BranchesMade slots held (ty_of x) b → OtherMade slots held o
    → StmtMade slots held (case_of spot (cond c None (Some x)) b o)
case-if slots held spot x true b o e h i j = tt
case-if slots held spot x false None o e h i j = tt
case-if slots held spot x false (Some b) None e h i j = tt
case-if slots held spot x false (Some b) (Some o) e h i j = (h, number-joins (ty_of x) e, i, j)

case-made : (slots : List Slot) (held : List ℕ) (spot : Spot) (x : Option typed.TExprTree) (t : Option Ty) (b : Option checked.TBranchTrees)
    (o : Option checked.TOtherTree) → t ≡ option_map ty_of x → IsMade slots x → ((u : Ty) → t ≡ Some u → BranchesMade slots held u b) → OtherMade slots held o
    → StmtMade slots held (case_of spot (option_and_then selector_of x) b o)
case-made slots held spot None t b o e h i j = tt
case-made slots held spot (Some x) t b o e h i j = case-if slots held spot x (is_bool (ty_of x)) b o refl h (i (ty_of x) e) j

-- a variable that may be set is no constant
set-variable : (c : Section) → is_set c ≡ true → is_constant c ≡ false
set-variable section.Input e = refl
set-variable section.Output e = refl
set-variable section.Local e = refl
set-variable section.Retain e = refl
set-variable section.Constant e = absurd cc

-- the FORs round the body of one over a variable that may be set
held-free : (slots : List Slot) (held : List ℕ) (e : Entry) (body : checked.TStmtTrees) → is_free held e ≡ true → AreStmts slots (held_in held (Some e)) body
    → AreStmts slots (held ++ e.slot ∷ []) body
held-free slots held e body f h =
    let set = (two-parts (is_set e.section) (not (list_any (λ n. n == e.slot) held)) f).0 in
    subst (λ (b : Bool). AreStmts slots (cond b held (held ++ e.slot ∷ [])) body) (set-variable e.section set) h

held-made : (slots : List Slot) (held : List ℕ) (spot : Spot) (e : Entry) (v w q : ℤ) (body : checked.TStmtTrees) (b : Bool)
    → is_free held e && not (is_bool e.ty) ≡ b → IsEntry slots e e.section → fits e.ty v ≡ true → fits e.ty w ≡ true → (q ≡ pos 0 → ⊥)
    → AreStmts slots (held_in held (Some e)) body → StmtMade slots held (cond b (Some (checked.for_ e.slot v q (turns_of v w q) body spot)) None)
held-made slots held spot e v w q body false k h f g i j = tt
held-made slots held spot e v w q body true k h f g i j =
    let p = free-parts (is_free held e) (is_bool e.ty) k in
    (e.ty, may-set slots held e e.ty refl h p.0, number-joins e.ty p.1, f, turns-fit e.ty v w q i f g, held-free slots held e body p.0 j)

for-made : (slots : List Slot) (held : List ℕ) (spot : Spot) (s : List Entry) (o : Option Entry) (first last : ExprTree) (v w q : Option ℤ)
    (body : Option checked.TStmtTrees) → ((e : Entry) → o ≡ Some e → IsEntry slots e e.section) → number_in s (entry_type o) first ≡ v
    → number_in s (entry_type o) last ≡ w → IfSome q (λ x. x ≡ pos 0 → ⊥) → StmtsMade slots (held_in held o) body
    → StmtMade slots held (for_of held spot o v w q body)
for-made slots held spot s None first last v w q body h f g i j = tt
for-made slots held spot s (Some e) first last None w q body h f g i j = tt
for-made slots held spot s (Some e) first last (Some v) None q body h f g i j = tt
for-made slots held spot s (Some e) first last (Some v) (Some w) None body h f g i j = tt
for-made slots held spot s (Some e) first last (Some v) (Some w) (Some q) None h f g i j = tt
for-made slots held spot s (Some e) first last (Some v) (Some w) (Some q) (Some body) h f g i j =
    held-made slots held spot e v w q body (is_free held e && not (is_bool e.ty)) refl (h e refl) (number-fits s e.ty first v f)
    (number-fits s e.ty last w g) i j

no-zero : (v : ℤ) (b : Bool) → same v (pos 0) ≡ b → IfSome (cond b None (Some v)) (λ x. x ≡ pos 0 → ⊥)
no-zero v true e = tt
no-zero v false e = λ z. absurd (let k : same v (pos 0) ≡ true = ap (λ x. same x (pos 0)) z in cc)

pub not-zero-made : (o : Option ℤ) → IfSome (option_and_then not_zero o) (λ x. x ≡ pos 0 → ⊥)
not-zero-made None = tt
not-zero-made (Some v) = no-zero v (same v (pos 0)) refl

one-not-zero : pos 1 ≡ pos 0 → ⊥
one-not-zero e = absurd cc

step-made : (s : List Entry) (t : Option Ty) (by : Option ExprTree) → IfSome (step_of s t by) (λ x. x ≡ pos 0 → ⊥)
step-made s t None = one-not-zero
step-made s t (Some e) = not-zero-made (number_in s t e)

-- ---- labels

order-self : (v : ℤ) → int_le v v ≡ true
order-self v = grind (arith, ints)

range-if : (t : Ty) (spot : Spot) (a b : ℤ) (c : Bool) → int_le a b ≡ c → fits t a ≡ true → fits t b ≡ true
    → IfSome (cond c (Some (record { first = a; last = b; range = true; spot = spot })) None) (IsLabel t)
range-if t spot a b false e f g = tt
range-if t spot a b true e f g = record { first = f; last = g; order = e; one = λ z. absurd cc }

ends-made : (t : Ty) (spot : Spot) (a : Option ℤ) (b : Option (Option ℤ)) → IfSome a (λ v. fits t v ≡ true) → IfSome b (λ o. IfSome o (λ v. fits t v ≡ true))
    → IfSome (label_ends spot a b) (IsLabel t)
ends-made t spot None b h k = tt
ends-made t spot (Some a) None h k = record { first = h; last = h; order = order-self a; one = λ z. refl }
ends-made t spot (Some a) (Some None) h k = tt
ends-made t spot (Some a) (Some (Some b)) h k = range-if t spot a b (int_le a b) refl h k

last-made : (s : List Entry) (t : Ty) (last : Option ExprTree) → IfSome (option_map (number_in s (Some t)) last) (λ o. IfSome o (λ v. fits t v ≡ true))
last-made s t None = tt
last-made s t (Some e) = number-made s t e

label-made : (s : List Entry) (t : Ty) (l : LabelTree) → IfSome (label_of s (Some t) l) (IsLabel t)
label-made s t l =
    ends-made t (spot_of l.first) (number_in s (Some t) l.first) (option_map (number_in s (Some t)) l.last) (number-made s t l.first) (last-made s t l.last)

label-more : (t : Ty) (x : Option TLabel) (xs : Option (List TLabel)) → IfSome x (IsLabel t) → IfSome xs (All (IsLabel t))
    → IfSome (both (λ y ys. Some (y ∷ ys)) x xs) (All (IsLabel t))
label-more t None xs h k = tt
label-more t (Some x) None h k = tt
label-more t (Some x) (Some xs) h k = All-cons (IsLabel t) x xs h k

pub labels-made : (s : List Entry) (t : Ty) (ls : List LabelTree) → IfSome (labels_of s (Some t) ls) (All (IsLabel t))
labels-made s t [] = All-nil (IsLabel t)
labels-made s t (l ∷ ls) = label-more t (label_of s (Some t) l) (labels_of s (Some t) ls) (label-made s t l) (labels-made s t ls)

labels-for : (s : List Entry) (t : Option Ty) (u : Ty) (ls : List LabelTree) → t ≡ Some u → IfSome (labels_of s t ls) (All (IsLabel u))
labels-for s t u ls e = subst (λ x. IfSome (labels_of s x ls) (All (IsLabel u))) (sym e) (labels-made s u ls)

-- ---- lists of statements, arms and branches

stmt-more : (slots : List Slot) (held : List ℕ) (x : Option checked.TStmtTree) (xs : Option checked.TStmtTrees) → StmtMade slots held x
    → StmtsMade slots held xs → StmtsMade slots held (both (λ y ys. Some (checked.and_tstmt y ys)) x xs)
stmt-more slots held None xs h k = tt
stmt-more slots held (Some x) None h k = tt
stmt-more slots held (Some x) (Some xs) h k = (h, k)

arm-if : (slots : List Slot) (held : List ℕ) (spot : Spot) (x : typed.TExprTree) (c : Bool) (body : Option checked.TStmtTrees) (arms : Option checked.TArmTrees)
    → is_bool (ty_of x) ≡ c → IsExpr slots x → StmtsMade slots held body → ArmsMade slots held arms
    → ArmsMade slots held (arm_of spot (cond c (Some x) None) body arms)
arm-if slots held spot x false body arms e h i j = tt
arm-if slots held spot x true None arms e h i j = tt
arm-if slots held spot x true (Some body) None e h i j = tt
arm-if slots held spot x true (Some body) (Some arms) e h i j = (h, bool-is (ty_of x) e, i, j)

arm-made : (slots : List Slot) (held : List ℕ) (spot : Spot) (x : Option typed.TExprTree) (body : Option checked.TStmtTrees) (arms : Option checked.TArmTrees)
    → IsMade slots x → StmtsMade slots held body → ArmsMade slots held arms → ArmsMade slots held (arm_of spot (option_and_then test_of x) body arms)
arm-made slots held spot None body arms h i j = tt
arm-made slots held spot (Some x) body arms h i j = arm-if slots held spot x (is_bool (ty_of x)) body arms refl h i j

branch-made : (slots : List Slot) (held : List ℕ) (t : Ty) (ls : Option (List TLabel)) (body : Option checked.TStmtTrees)
    (branches : Option checked.TBranchTrees) → IfSome ls
    (All (IsLabel t)) → StmtsMade slots held body → BranchesMade slots held t branches → BranchesMade slots held t (branch_of ls body branches)
branch-made slots held t None body branches h i j = tt
branch-made slots held t (Some ls) None branches h i j = tt
branch-made slots held t (Some ls) (Some body) None h i j = tt
branch-made slots held t (Some ls) (Some body) (Some branches) h i j = (h, i, j)

other-made : (slots : List Slot) (held : List ℕ) (body : Option checked.TStmtTrees) → StmtsMade slots held body
    → OtherMade slots held (option_map (λ x. checked.tother x) body)
other-made slots held None h = tt
other-made slots held (Some body) h = h

mutual
  pub stmt-made : (slots : List Slot) (s : List Entry) (held : List ℕ) (x : StmtTree) → IsScope slots s → StmtMade slots held (stmt_of s held x)
  stmt-made slots s held (assign n e spot) h = assign-made slots held spot (find s n) (expr_of s e) (h n) (expr-made slots s e h)
  stmt-made slots s held (if_ arms o) h =
      if-made slots held (arms_of s held arms) (other_of s held o) (arms-made slots s held arms h) (others-made slots s held o h)
  stmt-made slots s held (case e branches o spot) h =
      case-made slots held spot (expr_of s e) (type_of s e) (branches_of s held (type_of s e) branches) (other_of s held o) (type-is s e)
      (expr-made slots s e h) (λ u is. branches-made slots s held (type_of s e) u branches is h) (others-made slots s held o h)
  stmt-made slots s held (for_ n name_spot first last by body spot) h =
      for-made slots held name_spot s (find s n) first last (number_in s (entry_type (find s n)) first) (number_in s (entry_type (find s n)) last)
      (step_of s (entry_type (find s n)) by) (stmts_of s (held_in held (find s n)) body) (h n) refl refl (step-made s (entry_type (find s n)) by)
      (stmts-made slots s (held_in held (find s n)) body h)

  pub stmts-made : (slots : List Slot) (s : List Entry) (held : List ℕ) (xs : StmtTrees) → IsScope slots s → StmtsMade slots held (stmts_of s held xs)
  stmts-made slots s held no_stmts h = tt
  stmts-made slots s held (and_stmt x xs) h =
      stmt-more slots held (stmt_of s held x) (stmts_of s held xs) (stmt-made slots s held x h) (stmts-made slots s held xs h)

  pub arms-made : (slots : List Slot) (s : List Entry) (held : List ℕ) (arms : ArmTrees) → IsScope slots s → ArmsMade slots held (arms_of s held arms)
  arms-made slots s held no_arms h = tt
  arms-made slots s held (and_arm e body spot arms) h =
      arm-made slots held spot (expr_of s e) (stmts_of s held body) (arms_of s held arms) (expr-made slots s e h) (stmts-made slots s held body h)
      (arms-made slots s held arms h)

  pub branches-made : (slots : List Slot) (s : List Entry) (held : List ℕ) (t : Option Ty) (u : Ty) (branches : BranchTrees) → t ≡ Some u → IsScope slots s
      → BranchesMade slots held u (branches_of s held t branches)
  branches-made slots s held t u no_branches is h = tt
  branches-made slots s held t u (and_branch ls body branches) is h =
      branch-made slots held u (labels_of s t ls) (stmts_of s held body) (branches_of s held t branches) (labels-for s t u ls is)
      (stmts-made slots s held body h) (branches-made slots s held t u branches is h)

  pub others-made : (slots : List Slot) (s : List Entry) (held : List ℕ) (o : OtherTree) → IsScope slots s → OtherMade slots held (other_of s held o)
  others-made slots s held no_other h = tt
  others-made slots s held (other body) h = other-made slots held (stmts_of s held body) (stmts-made slots s held body h)

-- checked statements over a scope over slots keep the rules of statements
pub stmts-checked : (slots : List Slot) (s : List Entry) (held : List ℕ) (xs : StmtTrees) (ts : checked.TStmtTrees) → IsScope slots s
    → stmts_of s held xs ≡ Some ts → AreStmts slots held ts
stmts-checked slots s held xs ts h is = if-some (AreStmts slots held) (stmts_of s held xs) ts (stmts-made slots s held xs h) is
