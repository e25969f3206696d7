-- Codes: the types that a code has words of, and the expressions that stand in it.
use Rattle.std.proofs.Common.{◌≡◌, ℕ, zero, suc, Bool, true, false, List, [], ◌∷◌, Some, slice_get, refl, sym, ap, ◌∙◌, subst}
use Rattle.std.specs.Prelude.{◌||◌}
use Rattle.std.specs.List.{list_any}
use Rattle.vcp_base.specs.declared.code.Profile.{Profile}
use Rattle.vcp_base.specs.declared.ty.Ty.{Ty}
use Rattle.vcp_base.specs.declared.ty.Ty.TheVariants as ty
use Rattle.vcp_base.specs.Code.{admits, is_wide}
use Rattle.st_tree.specs.declared.expr.BinOp.{BinOp}
use Rattle.st_tree.specs.declared.expr.BinOp.TheVariants as bin
use Rattle.vcp_typed.specs.declared.slot.Slot.{Slot}
use Rattle.vcp_typed.specs.declared.expr.Fun.{Fun}
use Rattle.vcp_typed.specs.declared.expr.Fun.TheVariants as fun
use Rattle.vcp_typed.specs.TExprTree.{TExprTree, TExprTrees, literal, get, widen, unary, binary, call, no_texprs, and_texpr}
use Rattle.vcp_typed.specs.declared.expr.TExpr.{TExpr}
use Rattle.vcp_typed.specs.TExprViews.{texpr_tree, texpr_trees}
use Rattle.vcp_typed.specs.Checked.{ty_of, tys_of}
use Rattle.vcp_typed.specs.Rules.{result, arguments}
use Rattle.vcp_typed.specs.SourceRun.{Program}
use Rattle.vcp_typed.specs.Wide.{is_lint, expr_is_wide, exprs_are_wide, wide, stmts_are_wide}
use Rattle.flat_expr.specs.State.{Allows, SlotsAllowed, last_type}

-- a code has the words that an equal one has
pub still : (p q : Profile) (t : Ty) → q ≡ p → admits p t ≡ true → admits q t ≡ true
still p q t e h = ap (λ x. admits x t) e ∙ h

pub allows_at : (p q : Profile) (b : Bool) → q ≡ p → Allows p b → Allows q b
allows_at p q b e h = λ narrow. h (sym (ap is_wide e) ∙ narrow)

-- ---- parts

first_false : (a b : Bool) → (a || b) ≡ false → a ≡ false
first_false true b h = absurd cc
first_false false b h = refl

second_false : (a b : Bool) → (a || b) ≡ false → b ≡ false
second_false true b h = absurd cc
second_false false b h = h

pub allows_first : (p : Profile) (a b : Bool) → Allows p (a || b) → Allows p a
allows_first p a b h = λ narrow. first_false a b (h narrow)

pub allows_second : (p : Profile) (a b : Bool) → Allows p (a || b) → Allows p b
allows_second p a b h = λ narrow. second_false a b (h narrow)

three_false : (a b c : Bool) → (a || b || c) ≡ false → (a ≡ false) × (b ≡ false) × (c ≡ false)
three_false true b c h = absurd cc
three_false false true c h = absurd cc
three_false false false c h = (refl, refl, h)

pub allows_three : (p : Profile) (a b c : Bool) → Allows p (a || b || c) → Allows p a × Allows p b × Allows p c
allows_three p a b c h =
    ((λ narrow. (three_false a b c (h narrow)).0), (λ narrow. (three_false a b c (h narrow)).1), (λ narrow. (three_false a b c (h narrow)).2))

-- ---- types

lint_wide : (w : Bool) → (w ≡ false → true ≡ false) → w ≡ true
lint_wide true h = refl
lint_wide false h = absurd (let e : true ≡ false = h refl in cc)

pub admitted : (p : Profile) (t : Ty) → Allows p (is_lint t) → admits p t ≡ true
admitted p ty.Bool h = refl
admitted p ty.Int h = refl
admitted p ty.Dint h = refl
admitted p ty.Lint h = lint_wide (is_wide p) h

-- the operator's value
pub result_admitted : (p : Profile) (op : BinOp) (t : Ty) → admits p t ≡ true → admits p (result op t) ≡ true
result_admitted p bin.Mul t h = h
result_admitted p bin.Div t h = h
result_admitted p bin.Mod t h = h
result_admitted p bin.Add t h = h
result_admitted p bin.Sub t h = h
result_admitted p bin.Lt t h = refl
result_admitted p bin.Gt t h = refl
result_admitted p bin.Le t h = refl
result_admitted p bin.Ge t h = refl
result_admitted p bin.Eq t h = refl
result_admitted p bin.Ne t h = refl
result_admitted p bin.And t h = refl
result_admitted p bin.Xor t h = refl
result_admitted p bin.Or t h = refl

-- an expression's value
pub value_admitted : (p : Profile) (e : TExprTree) → Allows p (expr_is_wide e) → admits p (ty_of e) ≡ true
value_admitted p (literal t v spot) h = admitted p t h
value_admitted p (get slot t) h = admitted p t h
value_admitted p (widen t a) h = admitted p t (allows_first p (is_lint t) (expr_is_wide a) h)
value_admitted p (unary op t a spot) h = admitted p t (allows_first p (is_lint t) (expr_is_wide a) h)
value_admitted p (binary op t a b spot) h = result_admitted p op t (admitted p t (allows_three p (is_lint t) (expr_is_wide a) (expr_is_wide b) h).0)
value_admitted p (call f t es spot) h = admitted p t (allows_first p (is_lint t) (exprs_are_wide es) h)

-- ---- slots

slots_narrow : (slots : List Slot) → list_any (λ (s : Slot). is_lint s.ty) slots ≡ false → (i : ℕ) (x : Slot) → slice_get slots i ≡ Some x
    → is_lint x.ty ≡ false
slots_narrow [] h i x e = absurd cc
slots_narrow (s ∷ slots) h zero x e = let same : s ≡ x = cc in
    subst (λ (y : Slot). is_lint y.ty ≡ false) same (first_false (is_lint s.ty) (list_any (λ (y : Slot). is_lint y.ty) slots) h)
slots_narrow (s ∷ slots) h (suc i) x e = slots_narrow slots (second_false (is_lint s.ty) (list_any (λ (y : Slot). is_lint y.ty) slots) h) i x e

pub slots_allowed : (p : Profile) (program : Program) → is_wide p ≡ wide program → SlotsAllowed p program.slots
slots_allowed p program e = λ i x there.
    admitted p x.ty (λ narrow.
    slots_narrow program.slots (first_false (list_any (λ (s : Slot). is_lint s.ty) program.slots) (stmts_are_wide program.body) (sym e ∙ narrow)) i x there)

-- ---- arguments

abbrev pub AllAdmitted : Profile → List Ty → Type 0
AllAdmitted p [] = Unit {0}
AllAdmitted p (t ∷ ts) = (admits p t ≡ true) × AllAdmitted p ts

arguments_admitted : (p : Profile) (es : TExprTrees) → Allows p (exprs_are_wide es) → AllAdmitted p (tys_of es)
arguments_admitted p no_texprs h = tt
arguments_admitted p (and_texpr e es) h = (
  value_admitted p e (allows_first p (expr_is_wide e) (exprs_are_wide es) h),
  arguments_admitted p es (allows_second p (expr_is_wide e) (exprs_are_wide es) h),
)

same_types : (p : Profile) (ts us : List Ty) → Some ts ≡ Some us → AllAdmitted p us → AllAdmitted p ts
same_types p ts us e h = let same : us ≡ ts = cc in subst (AllAdmitted p) same h

last_admitted : (p : Profile) (f : Fun) (t : Ty) (ts : List Ty) → admits p t ≡ true → arguments f t ≡ Some ts → AllAdmitted p ts
    → admits p (last_type f t) ≡ true
last_admitted p fun.Abs t ts h e all = h
last_admitted p fun.Min t ts h e all = h
last_admitted p fun.Max t ts h e all = h
last_admitted p fun.Limit t ts h e all = h
last_admitted p fun.Sel t ts h e all = h
last_admitted p fun.IntToDint t ts h e all = refl
last_admitted p fun.IntToLint t ts h e all = refl
last_admitted p fun.DintToInt t ts h e all = refl
last_admitted p fun.DintToLint t ts h e all = refl
last_admitted p fun.LintToInt ty.Bool ts h e all = absurd cc
last_admitted p fun.LintToInt ty.Int ts h e all = (same_types p (ty.Lint ∷ []) ts e all).0
last_admitted p fun.LintToInt ty.Dint ts h e all = absurd cc
last_admitted p fun.LintToInt ty.Lint ts h e all = absurd cc
last_admitted p fun.LintToDint ty.Bool ts h e all = absurd cc
last_admitted p fun.LintToDint ty.Int ts h e all = absurd cc
last_admitted p fun.LintToDint ty.Dint ts h e all = (same_types p (ty.Lint ∷ []) ts e all).0
last_admitted p fun.LintToDint ty.Lint ts h e all = absurd cc
last_admitted p fun.BoolToInt t ts h e all = refl

-- the types of a call
pub call_admitted : (p : Profile) (f : Fun) (t : Ty) (es : TExprTrees) → arguments f t ≡ Some (tys_of es) → Allows p (is_lint t || exprs_are_wide es)
    → (admits p t ≡ true) × (admits p (last_type f t) ≡ true)
call_admitted p f t es e h =
    let own = admitted p t (allows_first p (is_lint t) (exprs_are_wide es) h) in
    (own, last_admitted p f t (tys_of es) own e (arguments_admitted p es (allows_second p (is_lint t) (exprs_are_wide es) h)))

-- an argument, by its number
pub argument_code : (p : Profile) (es : List TExpr) (i : ℕ) (e : TExpr) → slice_get es i ≡ Some e → Allows p (exprs_are_wide (texpr_trees es))
    → Allows p (expr_is_wide (texpr_tree e))
argument_code p [] i e h all = absurd cc
argument_code p (x ∷ es) zero e h all = let same : x ≡ e = cc in
    subst (λ y. Allows p (expr_is_wide (texpr_tree y))) same (allows_first p (expr_is_wide (texpr_tree x)) (exprs_are_wide (texpr_trees es)) all)
argument_code p (x ∷ es) (suc i) e h all = argument_code p es i e h (allows_second p (expr_is_wide (texpr_tree x)) (exprs_are_wide (texpr_trees es)) all)
