-- ExprNodes: one lemma for each node of an expression: the faults of its parts, then its own.
use Rattle.std.proofs.Common.{◌≡◌, ℕ, ◌⊎◌, Option, Some, None, List, [], ◌∷◌, ◌++◌, map, option_map, option_and_then, refl, sym, ap, ap₂, ◌∙◌, subst}
use Rattle.vcp_base.specs.declared.spot.Spot.{Spot}
use Rattle.st_tree.specs.declared.expr.UnOp.{UnOp}
use Rattle.st_tree.specs.declared.expr.BinOp.{BinOp}
use Rattle.st_tree.specs.ExprTree.{ExprTree, ExprTrees, unary, binary, call, no_exprs, and_expr}
use Rattle.vcp_typed.specs.declared.expr.Fun.{Fun}
use Rattle.vcp_typed.specs.TExprTree as typed
use Rattle.vcp_typed.specs.Checked.{ty_of}
use Rattle.st_types.specs.declared.fault.Fault.{Fault}
use Rattle.st_types.specs.declared.fault.Rule.TheVariants as rule
use Rattle.st_types.specs.Faults.{fault}
use Rattle.st_types.specs.Notes.{Notes}
use Rattle.st_types.specs.Scope.{Entry}
use Rattle.st_types.specs.ExprTyping.{both, negated, count, called, type_of, types_of, Clash, Clashes, Misfits, SignFault, CallFault, ExprFault}
use Rattle.st_types.specs.ExprTyping.{ExprsFault, sign_of, operation_of, call_of, expr_of, exprs_of}
use Rattle.st_types.specs.ExprSteps.{Types, TypesAll, Signs, Operates, Applies}
use Rattle.st_types.proofs.NoteLaws.{quiet, pair}
use Rattle.st_types.proofs.ExprLaws.{typed-is, typed-all}

-- the type of what typing gave is the type
own-type : (s : List Entry) (e : ExprTree) (x : Option typed.TExprTree) → x ≡ expr_of s e → option_map ty_of x ≡ type_of s e
own-type s e x is = ap (option_map ty_of) is ∙ typed-is s e

own-types : (s : List Entry) (es : ExprTrees) (xs : Option (List typed.TExprTree)) → xs ≡ exprs_of s es → option_map (map ty_of) xs ≡ types_of s es
own-types s es xs is = ap (option_map (map ty_of)) is ∙ typed-all s es

pub binary-types : (s : List Entry) (op : BinOp) (p : Spot) (l r : ExprTree) (a b c d : Option Fault) (x y z : Option typed.TExprTree) → Types s l a b x
    → Types s r b c y → Operates op p x y c d z → Types s (binary op l r p) a d z
binary-types s op p l r a b c d x y z t u v =
    let own = subst (λ h. Notes c d (λ f. (f ≡ fault rule.Mismatch p) × Clashes op h (type_of s r))) (own-type s l x t.gives)
    (subst (λ h. Notes c d (λ f. (f ≡ fault rule.Mismatch p) × Clashes op (option_map ty_of x) h)) (own-type s r y u.gives) v.notes) in
    record {
      notes = pair a b d _ _ t.notes (pair b c d _ _ u.notes own);
      gives = v.gives ∙ ap₂ (both (operation_of op p)) t.gives u.gives;
    }

pub unary-types : (s : List Entry) (op : UnOp) (p : Spot) (l : ExprTree) (a b c : Option Fault) (x z : Option typed.TExprTree) → negated op l ≡ None
    → Types s l a b x → Signs op p x b c z → Types s (unary op l p) a c z
unary-types s op p l a b c x z plain t v =
    let own = subst (λ h. Notes b c (λ f. (f ≡ fault rule.Mismatch p) × Clash op h)) (own-type s l x t.gives) v.notes in
    record {
      notes = subst (λ o. Notes a c (SignFault op o (type_of s l) p (ExprFault s l))) (sym plain) (pair a b c _ _ t.notes own);
      gives = v.gives ∙ ap (sign_of op None p) t.gives ∙ sym (ap (λ o. sign_of op o p (expr_of s l)) plain);
    }

pub call-types : (s : List Entry) (n : List ℕ) (es : ExprTrees) (p : Spot) (g : Fun) (a b c : Option Fault) (xs : Option (List typed.TExprTree))
    (z : Option typed.TExprTree) → called n (count es) ≡ Some g → TypesAll s es a b xs → Applies g p xs b c z → Types s (call n es p) a c z
call-types s n es p g a b c xs z is t v =
    let own = subst (λ h. Notes b c (λ f. (f ≡ fault rule.Mismatch p) × Misfits g h)) (own-types s es xs t.gives) v.notes in
    record {
      notes = subst (λ o. Notes a c (λ f. ExprsFault s es f ⊎ CallFault o (types_of s es) p f)) (sym is) (pair a b c _ _ t.notes own);
      gives = v.gives ∙ ap (option_and_then (call_of g p)) t.gives ∙ sym (ap (option_and_then (λ h. option_and_then (call_of h p) (exprs_of s es))) is);
    }

pub unknown-call : (s : List Entry) (n : List ℕ) (es : ExprTrees) (p : Spot) (a b c : Option Fault) (xs : Option (List typed.TExprTree))
    → called n (count es) ≡ None → TypesAll s es a b xs → Notes b c (λ f. f ≡ fault rule.Call p) → Types s (call n es p) a c None
unknown-call s n es p a b c xs is t v = record {
  notes = subst (λ o. Notes a c (λ f. ExprsFault s es f ⊎ CallFault o (types_of s es) p f)) (sym is) (pair a b c _ _ t.notes v);
  gives = sym (ap (option_and_then (λ h. option_and_then (call_of h p) (exprs_of s es))) is);
}

abbrev pub cons : {A : Type 0} → A → List A → Option (List A)
cons x xs = Some (x ∷ xs)

-- a list, and another behind it
abbrev pub glue : {A : Type 0} → List A → List A → Option (List A)
glue xs ys = Some (xs ++ ys)

pub more-types : (s : List Entry) (e : ExprTree) (es : ExprTrees) (a b c : Option Fault) (x : Option typed.TExprTree) (xs : Option (List typed.TExprTree))
    → Types s e a b x → TypesAll s es b c xs → TypesAll s (and_expr e es) a c (both cons x xs)
more-types s e es a b c x xs t v = record {
  notes = pair a b c _ _ t.notes v.notes;
  gives = ap₂ (both cons) t.gives v.gives;
}

pub none-left : (s : List Entry) (a : Option Fault) → TypesAll s no_exprs a a (Some [])
none-left s a = record { notes = quiet a (ExprsFault s no_exprs) (λ f h. h); gives = refl }
