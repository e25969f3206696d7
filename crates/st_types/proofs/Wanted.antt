-- Wanted: the arguments of a function widened one after another.
use Rattle.std.proofs.Common.{◌≡◌, suc, Bool, true, false, cond, List, [], ◌∷◌, ◌++◌, length, map, Option, Some, None, IfSome, option_map, option_and_then}
use Rattle.std.proofs.Common.{refl, sym, ap, ap₂, ◌∙◌, subst, append_assoc, append-nil}
use Rattle.vcp_base.specs.declared.spot.Spot.{Spot}
use Rattle.vcp_base.specs.declared.ty.Ty.{Ty}
use Rattle.vcp_base.specs.declared.ty.Ty.TheVariants as ty
use Rattle.vcp_base.specs.Types.{same_type}
use Rattle.st_tree.specs.declared.expr.Expr.{Expr}
use Rattle.st_tree.specs.ExprViews.{expr_trees}
use Rattle.vcp_typed.specs.declared.expr.Fun.{Fun}
use Rattle.vcp_typed.specs.declared.expr.Fun.TheVariants as fun
use Rattle.vcp_typed.specs.Rules.{of_numbers, arguments}
use Rattle.vcp_typed.specs.TExprTree.{TExprTree, TExprTrees, no_texprs, and_texpr, call}
use Rattle.vcp_typed.specs.TExprViews.{texprs_and}
use Rattle.vcp_typed.specs.Checked.{ty_of}
use Rattle.st_types.specs.declared.fault.Fault.{Fault}
use Rattle.st_types.specs.ExprTyping.{both, count, widened, widened_all, function_type, call_of}
use Rattle.st_types.specs.ExprSteps.{Applies, first_wanted, widened_to}
use Rattle.st_types.proofs.ExprLaws.{none-some, AllTaken, Takes, takes}
use Rattle.st_types.proofs.ExprNodes.{cons, glue}
use Rattle.st_types.proofs.NoteLaws.{quiet}

-- a list, and another behind it
abbrev pub behind : TExprTrees → TExprTrees → TExprTrees
behind no_texprs ys = ys
behind (and_texpr x xs) ys = and_texpr x (behind xs ys)

pub behind-none : (xs : TExprTrees) → behind xs no_texprs ≡ xs
behind-none no_texprs = refl
behind-none (and_texpr x xs) = ap (and_texpr x) (behind-none xs)

behind-and : (xs ys : TExprTrees) (x : TExprTree) → behind (texprs_and xs x) ys ≡ behind xs (and_texpr x ys)
behind-and no_texprs ys x = refl
behind-and (and_texpr z xs) ys x = ap (and_texpr z) (behind-and xs ys x)

-- one argument more is widened
pub widened-more : (a b : Ty) (out next : TExprTrees) (x w : TExprTree) (xs : List TExprTree) → w ≡ widened a (ty_of x) x → next ≡ texprs_and out w
    → behind next (widened_to b b xs) ≡ behind out (widened_to a b (x ∷ xs))
widened-more a b out next x w xs made pushed =
    ap (λ z. behind z (widened_to b b xs)) pushed
    ∙ behind-and out (widened_to b b xs) w
    ∙ ap (λ z. behind out (and_texpr z (widened_to b b xs))) made

-- ---- the types that are wanted

-- the first of these types is a, and all behind it are b
abbrev AreWanted : Ty → Ty → List Ty → Type 0
AreWanted a b [] = Unit {0}
AreWanted a b (t ∷ ts) = (t ≡ a) × AreWanted b b ts

same-types : (ts us : List Ty) → Some ts ≡ Some us → ts ≡ us
same-types ts us e = cc

numbers-wanted : (t : Ty) (ts us : List Ty) → AreWanted t t ts → of_numbers ts t ≡ Some us → AreWanted t t us
numbers-wanted ty.Bool ts us w e = absurd cc
numbers-wanted ty.Int ts us w e = subst (AreWanted ty.Int ty.Int) (same-types ts us e) w
numbers-wanted ty.Dint ts us w e = subst (AreWanted ty.Dint ty.Dint) (same-types ts us e) w
numbers-wanted ty.Lint ts us w e = subst (AreWanted ty.Lint ty.Lint) (same-types ts us e) w

conversion-wanted : (source t : Ty) (b : Bool) (us : List Ty) → cond b (Some (source ∷ [])) None ≡ Some us → AreWanted source t us
conversion-wanted source t false us e = absurd cc
conversion-wanted source t true us e = subst (AreWanted source t) (same-types (source ∷ []) us e) (refl, tt)

wanted : (f : Fun) (t : Ty) (ts : List Ty) → arguments f t ≡ Some ts → AreWanted (first_wanted f t) t ts
wanted fun.Abs t ts e = numbers-wanted t (t ∷ []) ts (refl, tt) e
wanted fun.Min t ts e = numbers-wanted t (t ∷ t ∷ []) ts (refl, (refl, tt)) e
wanted fun.Max t ts e = numbers-wanted t (t ∷ t ∷ []) ts (refl, (refl, tt)) e
wanted fun.Limit t ts e = numbers-wanted t (t ∷ t ∷ t ∷ []) ts (refl, (refl, (refl, tt))) e
wanted fun.Sel t ts e = subst (AreWanted ty.Bool t) (same-types (ty.Bool ∷ t ∷ t ∷ []) ts e) (refl, (refl, (refl, tt)))
wanted fun.IntToDint t ts e = conversion-wanted ty.Int t (same_type t ty.Dint) ts e
wanted fun.IntToLint t ts e = conversion-wanted ty.Int t (same_type t ty.Lint) ts e
wanted fun.DintToInt t ts e = conversion-wanted ty.Dint t (same_type t ty.Int) ts e
wanted fun.DintToLint t ts e = conversion-wanted ty.Dint t (same_type t ty.Lint) ts e
wanted fun.LintToInt t ts e = conversion-wanted ty.Lint t (same_type t ty.Int) ts e
wanted fun.LintToDint t ts e = conversion-wanted ty.Lint t (same_type t ty.Dint) ts e
wanted fun.BoolToInt t ts e = conversion-wanted ty.Bool t (same_type t ty.Int) ts e

-- as many arguments as types
widened-as : (a b : Ty) (ts : List Ty) (es : List TExprTree) → AllTaken (map ty_of es) ts → AreWanted a b ts → widened_all ts es ≡ widened_to a b es
widened-as a b [] [] h w = refl
widened-as a b [] (e ∷ es) h w = absurd h
widened-as a b (t ∷ ts) [] h w = absurd h
widened-as a b (t ∷ ts) (e ∷ es) h w = ap₂ (λ u xs. and_texpr (widened u (ty_of e) e) xs) w.0 (widened-as b b ts es h.1 w.1)

-- a function whose value has the type t is applied to its arguments
applied-is : (f : Fun) (p : Spot) (es : List TExprTree) (t : Ty) → function_type f (map ty_of es) ≡ Some t
    → call_of f p es ≡ Some (call f t (widened_to (first_wanted f t) t es) p)
applied-is f p es t is =
    let k : Takes f (map ty_of es) t = subst (λ (o : Option Ty). IfSome o (Takes f (map ty_of es))) is (takes f (map ty_of es)) in
    ap (option_and_then (λ u. option_map (λ ts. call f u (widened_all ts es) p) (arguments f u))) is
    ∙ ap (option_map (λ ts. call f t (widened_all ts es) p)) k.1
    ∙ ap (λ xs. Some (call f t xs p)) (widened-as (first_wanted f t) t k.0 es k.2 (wanted f t k.0 k.1))

pub applied : (f : Fun) (p : Spot) (es : List TExprTree) (t u : Ty) (xs : TExprTrees) (r : TExprTree) (o : Option Fault)
    → Some t ≡ function_type f (map ty_of es) → u ≡ first_wanted f t → xs ≡ widened_to u t es → r ≡ call f t xs p
    → Applies f p (Some es) o o (Some r)
applied f p es t u xs r o is at wide made = record {
  notes = quiet o _ (λ g h. none-some t (sym h.1.2 ∙ sym (ap (function_type f) (same-types _ _ h.1.1)) ∙ sym is));
  gives = ap Some (made ∙ ap (λ z. call f t z p) (wide ∙ ap (λ v. widened_to v t es) at)) ∙ sym (applied-is f p es t (sym is));
}

-- ---- arguments one after another

pub glue-cons : {A : Type 0} (a b : Option (List A)) (x : Option A) (r : Option (List A)) → b ≡ both (λ xs y. Some (xs ++ y ∷ [])) a x
    → both glue a (both cons x r) ≡ both glue b r
glue-cons None b x r e = sym (ap (λ y. both glue y r) e)
glue-cons (Some xs) b None r e = sym (ap (λ y. both glue y r) e)
glue-cons (Some xs) b (Some x) None e = sym (ap (λ y. both glue y None) e)
glue-cons (Some xs) b (Some x) (Some ys) e = ap Some (sym (append_assoc xs (x ∷ []) ys)) ∙ sym (ap (λ y. both glue y (Some ys)) e)

pub glue-none : {A : Type 0} (a : Option (List A)) → both glue a (Some []) ≡ a
glue-none None = refl
glue-none (Some xs) = ap Some (append-nil xs)

pub count-trees : (es : List Expr) → count (expr_trees es) ≡ length es
count-trees [] = refl
count-trees (e ∷ es) = ap suc (count-trees es)
