-- ConstantLaws: the number that an expression is, is that of its form, unless the expression has a fault.
use Rattle.std.proofs.Common.{◌≡◌, ◌⊎◌, inl, inr, ℤ, neg_ℤ, List, Option, Some, None, option_map, option_and_then, refl, sym, ap, ◌∙◌}
use Rattle.vcp_base.specs.declared.ty.Ty.{Ty}
use Rattle.st_tree.specs.declared.expr.UnOp.{UnOp}
use Rattle.st_tree.specs.ExprTree.{ExprTree}
use Rattle.vcp_typed.specs.Checked.{ty_of}
use Rattle.st_types.specs.declared.fault.Fault.{Fault}
use Rattle.st_types.specs.Scope.{Entry}
use Rattle.st_types.specs.ExprTyping.{both, sized, Untyped, sign_type, type_of, ExprFault, expr_of}
use Rattle.st_types.specs.StmtTyping.{Known, Form, form_of_entry, form_of_negated, form, known_form, form_number, number_in, LastFault}
use Rattle.st_types.proofs.ExprLaws.{none-some, some-none, map-none, type-is, no-expr, fault-no-expr}

-- ---- types

no-type : (s : List Entry) (e : ExprTree) → type_of s e ≡ None → (f : Fault) × ExprFault s e f
no-type s e h = no-expr s e (map-none ty_of (expr_of s e) (sym (type-is s e) ∙ h))

fault-no-type : (s : List Entry) (e : ExprTree) (f : Fault) → ExprFault s e f → type_of s e ≡ None
fault-no-type s e f h = type-is s e ∙ ap (option_map ty_of) (fault-no-expr s e f h)

-- ---- numbers

-- the number of an expression is that of its form, or the expression has a fault
abbrev pub NumberOr : Option ℤ → Option ℤ → (Fault → Type 0) → Type 0
NumberOr a b F = (a ≡ b) ⊎ ((a ≡ None) × ((f : Fault) × F f))

number-if : (t : Ty) (k : Option Form) (u : Option Ty) (F : Fault → Type 0) → (u ≡ None → (f : Fault) × F f)
    → NumberOr (both (λ x y. form_number (Some x) k) (Some t) u) (form_number (Some t) k) F
number-if t k None F h = inr (refl, h refl)
number-if t k (Some u) F h = inl refl

pub number-or : (s : List Entry) (t : Option Ty) (u : Ty) (e : ExprTree) → t ≡ Some u
    → NumberOr (number_in s t e) (form_number t (form s e)) (ExprFault s e)
number-or s None u e is = absurd (none-some u is)
number-or s (Some t) u e is = number-if t (form s e) (type_of s e) (ExprFault s e) (no-type s e)

-- the last end of a range
pub last-or : (s : List Entry) (t : Option Ty) (u : Ty) (last : Option ExprTree) → t ≡ Some u
    → (option_map (number_in s t) last ≡ option_map (λ e. form_number t (form s e)) last)
    ⊎ ((option_map (number_in s t) last ≡ Some None) × ((f : Fault) × LastFault s last f))
last-or s t u None is = inl refl
last-or s t u (Some e) is = elim (number-or s t u e is) [ inl same ↦ inl (ap Some same) | inr g ↦ inr (ap Some g.0, g.1) ]

-- a form as a number of the first of two types
abbrev number_as : Option Form → Ty → Ty → Option ℤ
number_as k x y = form_number (Some x) k

no-second : (k : Option Form) (t : Option Ty) → both (number_as k) t None ≡ None
no-second k None = refl
no-second k (Some t) = refl

-- an expression with a fault is no number
pub fault-no-number : (s : List Entry) (t : Option Ty) (e : ExprTree) (f : Fault) → ExprFault s e f → number_in s t e ≡ None
fault-no-number s t e f h = ap (both (number_as (form s e)) t) (fault-no-type s e f h) ∙ no-second (form s e) t

number-of : (P : Option ℤ → Type 0) (t : Ty) (k : Option Form) (u : Option Ty) → P None → P (form_number (Some t) k)
    → P (both (λ x y. form_number (Some x) k) (Some t) u)
number-of P t k None h i = h
number-of P t k (Some u) h i = i

-- what holds of no number and of the form's holds of the expression's
pub number-by : (P : Option ℤ → Type 0) (s : List Entry) (t : Option Ty) (e : ExprTree) → P None → P (form_number t (form s e)) → P (number_in s t e)
number-by P s None e h i = h
number-by P s (Some t) e h i = number-of P t (form s e) (type_of s e) h i

-- ---- constants

-- a form whose type is known is a constant
no-known : (k : Option Form) (t : Ty) → both known_form k (Some t) ≡ None → k ≡ None
no-known None t e = refl
no-known (Some k) t e = let x : Known = record { ty = t; value = k.value } in absurd (some-none x e)

pub name-known : (o : Option Entry)
    → option_and_then (λ e. both known_form (form_of_entry e) (Some e.ty)) o ≡ both known_form (option_and_then form_of_entry o) (option_map (λ e. e.ty) o)
name-known None = refl
name-known (Some e) = refl

pub name-form : (o : Option Entry) → both known_form (option_and_then form_of_entry o) (option_map (λ e. e.ty) o) ≡ None
    → option_and_then form_of_entry o ≡ None
name-form None e = refl
name-form (Some x) e = no-known (form_of_entry x) x.ty e

pub sign-known : (op : UnOp) (l : Option Untyped) (t : Option Ty)
    → option_and_then (λ x. both known_form (Some (form_of_negated x)) (sized (neg_ℤ x.value))) l
    ≡ both known_form (option_map form_of_negated l) (sign_type op l t)
sign-known op None t = refl
sign-known op (Some l) t = refl

pub sign-form : (l : Option Untyped) → option_map form_of_negated l ≡ None → l ≡ None
sign-form None e = refl
sign-form (Some l) e = absurd (some-none (form_of_negated l) e)
