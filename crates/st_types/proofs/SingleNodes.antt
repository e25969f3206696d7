-- SingleNodes: what a step gives where a part is missing, where the parts don't fit, and where they do.
use Rattle.std.proofs.Common.{◌≡◌, ℕ, List, Bool, true, false, ◌&&◌, cond, Option, Some, None, option_map, option_and_then, refl, sym, ap, ap₂, ◌∙◌, subst}
use Rattle.vcp_base.specs.declared.spot.Spot.{Spot}
use Rattle.vcp_base.specs.declared.ty.Ty.{Ty}
use Rattle.vcp_base.specs.Types.{is_bool, within}
use Rattle.st_tree.specs.declared.expr.BinOp.{BinOp}
use Rattle.st_tree.specs.declared.expr.UnOp.{UnOp}
use Rattle.vcp_typed.specs.declared.expr.TExpr.{TExpr}
use Rattle.vcp_typed.specs.Rules.{common, signed}
use Rattle.vcp_typed.specs.TExprTree as typed
use Rattle.vcp_typed.specs.TStmtTree as checked
use Rattle.vcp_typed.specs.TExprViews.{texpr_tree}
use Rattle.vcp_typed.specs.Checked.{ty_of}
use Rattle.st_types.specs.declared.fault.Fault.{Fault}
use Rattle.st_types.specs.declared.fault.Rule.{Rule}
use Rattle.st_types.specs.declared.fault.Rule.TheVariants as rule
use Rattle.st_types.specs.Faults.{fault, IsLeast}
use Rattle.st_types.specs.Notes.{Notes}
use Rattle.st_types.specs.Scope.{Entry}
use Rattle.st_types.specs.ExprTyping.{both, widened}
use Rattle.st_types.specs.ExprSteps.{Operates, Signs}
use Rattle.st_types.specs.StmtTyping.{entry_type, is_free, Narrows, NoTest, IsBool, assign_of, test_of, selector_of}
use Rattle.st_types.specs.StmtSteps.{Gives}
use Rattle.st_types.proofs.NoteLaws.{quiet, note-always}

none-some : {X : Type 0} (x : X) → None ≡ Some x → ⊥
none-some x e = absurd cc

true-false : true ≡ false → ⊥
true-false e = absurd cc

-- the least fault, by its rule
pub least-as : (F : Fault → Type 0) (f : Fault) (r : Rule) → f.rule ≡ r → IsLeast F f → IsLeast F (fault r f.spot)
least-as F f r e h = subst (λ x. IsLeast F (fault x f.spot)) e h

-- ---- two tests

both-hold : {X : Type 0} (a b : Bool) (s n : X) → a ≡ true → b ≡ true → cond (a && b) s n ≡ s
both-hold a b s n p q = ap₂ (λ x y. cond (x && y) s n) p q

first-fails : {X : Type 0} (a b : Bool) (s n : X) → a ≡ false → cond (a && b) s n ≡ n
first-fails a b s n p = ap (λ x. cond (x && b) s n) p

second-fails : {X : Type 0} (a b : Bool) (s n : X) → b ≡ false → cond (a && b) s n ≡ n
second-fails true b s n q = ap (λ y. cond y s n) q
second-fails false b s n q = refl

-- ---- an assignment

abbrev pub Assigns : List ℕ → Spot → Option Entry → Option typed.TExprTree → Option Fault → Option Fault → Option checked.TStmtTree → Type 0
Assigns held p x e a b r =
    Gives (λ f. (f ≡ fault rule.Mismatch p) × Narrows (entry_type x) (option_map ty_of e)) (both (assign_of held p) x e) a b r

-- a value that widens to the variable's type
no-narrow : (t u : Ty) → within u t ≡ true → Narrows (Some t) (Some u) → ⊥
no-narrow t u w h =
    let e : Some t ≡ Some h.0 = h.2 in
    let d : Some u ≡ Some h.1 = h.3 in
    let t_is : t ≡ h.0 = cc in
    let u_is : u ≡ h.1 = cc in
    true-false (sym w ∙ ap₂ within u_is t_is ∙ h.4)

no-entry : (held : List ℕ) (p : Spot) (e : Option typed.TExprTree) (a : Option Fault) → Assigns held p None e a a None
no-entry held p e a = record { notes = quiet a _ (λ f h. none-some _ h.1.2); gives = refl }

no-expr : (held : List ℕ) (p : Spot) (y : Entry) (a : Option Fault) → Assigns held p (Some y) None a a None
no-expr held p y a = record { notes = quiet a _ (λ f h. none-some _ h.1.3); gives = refl }

narrows : (held : List ℕ) (p : Spot) (y : Entry) (v : typed.TExprTree) (a b : Option Fault) → within (ty_of v) y.ty ≡ false
    → Notes a b (λ f. f ≡ fault rule.Mismatch p) → Assigns held p (Some y) (Some v) a b None
narrows held p y v a b w n = record {
  notes = note-always a b _ _ n (y.ty, ty_of v, refl, refl, w);
  gives = sym (second-fails (is_free held y) _ _ _ w);
}

is-held : (held : List ℕ) (p : Spot) (y : Entry) (v : typed.TExprTree) (a : Option Fault) → within (ty_of v) y.ty ≡ true → is_free held y ≡ false
    → Assigns held p (Some y) (Some v) a a None
is-held held p y v a w free = record {
  notes = quiet a _ (λ f h. no-narrow y.ty (ty_of v) w h.1);
  gives = sym (first-fails _ _ _ _ free);
}

is-set : (held : List ℕ) (p : Spot) (y : Entry) (v : typed.TExprTree) (a : Option Fault) → within (ty_of v) y.ty ≡ true → is_free held y ≡ true
    → Assigns held p (Some y) (Some v) a a (Some (checked.assign y.slot (widened y.ty (ty_of v) v) p))
is-set held p y v a w free = record {
  notes = quiet a _ (λ f h. no-narrow y.ty (ty_of v) w h.1);
  gives = sym (both-hold _ _ _ _ free w);
}

-- The same of what was found and of a value that the program holds. The type u is the one that was found of the value.

abbrev pub AssignsTo : {X : Type 0} → (X → Entry) → List ℕ → Spot → Option X → Option TExpr → Option Fault → Option Fault → Option checked.TStmtTree → Type 0
AssignsTo f held p x e a b r = Assigns held p (option_map f x) (option_map texpr_tree e) a b r

to-parts : {X : Type 0} (f : X → Entry) (held : List ℕ) (p : Spot) (x o : Option X) (e d : Option TExpr) (a b : Option Fault)
    (r : Option checked.TStmtTree) → x ≡ o → e ≡ d → AssignsTo f held p o d a b r → AssignsTo f held p x e a b r
to-parts f held p x o e d a b r is_x is_e h =
    subst (λ z. AssignsTo f held p z e a b r) (sym is_x) (subst (λ z. AssignsTo f held p o z a b r) (sym is_e) h)

pub no-variable : {X : Type 0} (f : X → Entry) (held : List ℕ) (p : Spot) (x : Option X) (e : Option TExpr) (a : Option Fault) → x ≡ None
    → AssignsTo f held p x e a a None
no-variable f held p x e a is = to-parts f held p x None e e a a None is refl (no-entry held p (option_map texpr_tree e) a)

pub no-value : {X : Type 0} (f : X → Entry) (held : List ℕ) (p : Spot) (x : Option X) (y : X) (e : Option TExpr) (a : Option Fault) → x ≡ Some y
    → e ≡ None → AssignsTo f held p x e a a None
no-value f held p x y e a is_x is_e = to-parts f held p x (Some y) e None a a None is_x is_e (no-expr held p (f y) a)

pub narrowing : {X : Type 0} (f : X → Entry) (held : List ℕ) (p : Spot) (x : Option X) (y : X) (e : Option TExpr) (v : TExpr) (u : Ty) (a b : Option Fault)
    → x ≡ Some y → e ≡ Some v → u ≡ ty_of (texpr_tree v) → false ≡ within u (f y).ty → Notes a b (λ g. g ≡ fault rule.Mismatch p)
    → AssignsTo f held p x e a b None
narrowing f held p x y e v u a b is_x is_e is_u w n = to-parts f held p x (Some y) e (Some v) a b None is_x is_e
    (narrows held p (f y) (texpr_tree v) a b (sym (ap (λ t. within t (f y).ty) is_u) ∙ sym w) n)

pub not-free : {X : Type 0} (f : X → Entry) (held : List ℕ) (p : Spot) (x : Option X) (y : X) (e : Option TExpr) (v : TExpr) (u : Ty) (a : Option Fault)
    → x ≡ Some y → e ≡ Some v → u ≡ ty_of (texpr_tree v) → true ≡ within u (f y).ty → false ≡ is_free held (f y) → AssignsTo f held p x e a a None
not-free f held p x y e v u a is_x is_e is_u w free = to-parts f held p x (Some y) e (Some v) a a None is_x is_e
    (is-held held p (f y) (texpr_tree v) a (sym (ap (λ t. within t (f y).ty) is_u) ∙ sym w) (sym free))

pub assigned : {X : Type 0} (f : X → Entry) (held : List ℕ) (p : Spot) (x : Option X) (y : X) (e : Option TExpr) (v : TExpr) (u : Ty) (a : Option Fault)
    (w : typed.TExprTree) (s : checked.TStmtTree) → x ≡ Some y → e ≡ Some v → u ≡ ty_of (texpr_tree v) → true ≡ within u (f y).ty
    → true ≡ is_free held (f y) → w ≡ widened (f y).ty (ty_of (texpr_tree v)) (texpr_tree v) → s ≡ checked.assign (f y).slot w p
    → AssignsTo f held p x e a a (Some s)
assigned f held p x y e v u a w s is_x is_e is_u fits free wide made =
    subst (λ z. AssignsTo f held p x e a a (Some z)) (sym (made ∙ ap (λ z. checked.assign (f y).slot z p) wide))
    (to-parts f held p x (Some y) e (Some v) a a _ is_x is_e
    (is-set held p (f y) (texpr_tree v) a (sym (ap (λ t. within t (f y).ty) is_u) ∙ sym fits) (sym free)))

-- ---- a condition and a selector

same-type : (t u : Ty) → Some t ≡ Some u → t ≡ u
same-type t u e = cc

-- what has another type isn't BOOL
pub not-bool : (t u : Ty) → false ≡ is_bool t → Some t ≡ Some u → is_bool u ≡ true → ⊥
not-bool t u other same is = true-false (sym is ∙ sym (ap is_bool (same-type t u same)) ∙ sym other)

-- the type of the value itself
own-type : (v : TExpr) (u : Ty) (b : Bool) → u ≡ ty_of (texpr_tree v) → b ≡ is_bool u → is_bool (ty_of (texpr_tree v)) ≡ b
own-type v u b is_u w = sym (w ∙ ap is_bool is_u)

abbrev pub Tests : Spot → Option TExpr → Option Fault → Option Fault → Option typed.TExprTree → Type 0
Tests p e a b r = Gives (λ f. (f ≡ fault rule.Mismatch p) × NoTest (option_map ty_of (option_map texpr_tree e)))
    (option_and_then test_of (option_map texpr_tree e)) a b r

pub no-test : (p : Spot) (e : Option TExpr) (a : Option Fault) → e ≡ None → Tests p e a a None
no-test p e a is = subst (λ z. Tests p z a a None) (sym is) (record { notes = quiet a _ (λ f h. none-some _ h.1.1); gives = refl })

pub is-no-test : (p : Spot) (e : Option TExpr) (v : TExpr) (u : Ty) (a b : Option Fault) → e ≡ Some v → u ≡ ty_of (texpr_tree v) → false ≡ is_bool u
    → Notes a b (λ f. f ≡ fault rule.Mismatch p) → Tests p e a b None
is-no-test p e v u a b is is_u w n = subst (λ z. Tests p z a b None) (sym is) (record {
  notes = note-always a b _ _ n (ty_of (texpr_tree v), refl, own-type v u false is_u w);
  gives = sym (ap (λ c. cond c (Some (texpr_tree v)) None) (own-type v u false is_u w));
})

pub is-test : (p : Spot) (e : Option TExpr) (v : TExpr) (u : Ty) (a : Option Fault) → e ≡ Some v → u ≡ ty_of (texpr_tree v) → true ≡ is_bool u
    → Tests p e a a (Some (texpr_tree v))
is-test p e v u a is is_u w = subst (λ z. Tests p z a a (Some (texpr_tree v))) (sym is) (record {
  notes = quiet a _ (λ f h. true-false (sym (own-type v u true is_u w) ∙ ap is_bool (same-type _ h.1.0 h.1.1) ∙ h.1.2));
  gives = sym (ap (λ c. cond c (Some (texpr_tree v)) None) (own-type v u true is_u w));
})

abbrev pub Selects : Spot → Option TExpr → Option Fault → Option Fault → Option typed.TExprTree → Type 0
Selects p e a b r = Gives (λ f. (f ≡ fault rule.Mismatch p) × IsBool (option_map ty_of (option_map texpr_tree e)))
    (option_and_then selector_of (option_map texpr_tree e)) a b r

pub no-selector : (p : Spot) (e : Option TExpr) (a : Option Fault) → e ≡ None → Selects p e a a None
no-selector p e a is = subst (λ z. Selects p z a a None) (sym is) (record { notes = quiet a _ (λ f h. none-some _ h.1.1); gives = refl })

pub is-bool : (p : Spot) (e : Option TExpr) (v : TExpr) (u : Ty) (a b : Option Fault) → e ≡ Some v → u ≡ ty_of (texpr_tree v) → true ≡ is_bool u
    → Notes a b (λ f. f ≡ fault rule.Mismatch p) → Selects p e a b None
is-bool p e v u a b is is_u w n = subst (λ z. Selects p z a b None) (sym is) (record {
  notes = note-always a b _ _ n (ty_of (texpr_tree v), refl, own-type v u true is_u w);
  gives = sym (ap (λ c. cond c None (Some (texpr_tree v))) (own-type v u true is_u w));
})

pub is-number : (p : Spot) (e : Option TExpr) (v : TExpr) (u : Ty) (a : Option Fault) → e ≡ Some v → u ≡ ty_of (texpr_tree v) → false ≡ is_bool u
    → Selects p e a a (Some (texpr_tree v))
is-number p e v u a is is_u w = subst (λ z. Selects p z a a (Some (texpr_tree v))) (sym is) (record {
  notes = quiet a _ (λ f h. true-false (sym h.1.2 ∙ sym (ap is_bool (same-type _ h.1.0 h.1.1)) ∙ own-type v u false is_u w));
  gives = sym (ap (λ c. cond c None (Some (texpr_tree v))) (own-type v u false is_u w));
})

-- ---- an operator before its operand

abbrev pub SignsOf : UnOp → Spot → Option TExpr → Option Fault → Option Fault → Option typed.TExprTree → Type 0
SignsOf op p e a b r = Signs op p (option_map texpr_tree e) a b r

-- u is the type that was found of the operand
own-signed : (op : UnOp) (v : TExpr) (u : Ty) (t : Option Ty) → u ≡ ty_of (texpr_tree v) → t ≡ signed op u → signed op (ty_of (texpr_tree v)) ≡ t
own-signed op v u t is_u is = sym (is ∙ ap (signed op) is_u)

pub no-operand : (op : UnOp) (p : Spot) (e : Option TExpr) (a : Option Fault) → e ≡ None → SignsOf op p e a a None
no-operand op p e a is = subst (λ z. SignsOf op p z a a None) (sym is) (record { notes = quiet a _ (λ f h. none-some _ h.1.1); gives = refl })

pub sign-clashes : (op : UnOp) (p : Spot) (e : Option TExpr) (v : TExpr) (u : Ty) (a b : Option Fault) → e ≡ Some v → u ≡ ty_of (texpr_tree v)
    → None ≡ signed op u → Notes a b (λ f. f ≡ fault rule.Mismatch p) → SignsOf op p e a b None
sign-clashes op p e v u a b is is_u clash n = subst (λ z. SignsOf op p z a b None) (sym is) (record {
  notes = note-always a b _ _ n (ty_of (texpr_tree v), refl, own-signed op v u None is_u clash);
  gives = sym (ap (option_map (λ t. typed.unary op t (texpr_tree v) p)) (own-signed op v u None is_u clash));
})

pub signed-is : (op : UnOp) (p : Spot) (e : Option TExpr) (v : TExpr) (u t : Ty) (z : typed.TExprTree) (a : Option Fault) → e ≡ Some v
    → u ≡ ty_of (texpr_tree v) → Some t ≡ signed op u → z ≡ typed.unary op t (texpr_tree v) p → SignsOf op p e a a (Some z)
signed-is op p e v u t z a is is_u fits made = subst (λ y. SignsOf op p y a a (Some z)) (sym is) (record {
  notes = quiet a _ (λ f h. none-some t (sym h.1.2 ∙ sym (ap (signed op) (same-type _ h.1.0 h.1.1)) ∙ own-signed op v u (Some t) is_u fits));
  gives = ap (λ x. Some x) made ∙ sym (ap (option_map (λ s. typed.unary op s (texpr_tree v) p)) (own-signed op v u (Some t) is_u fits));
})

-- ---- an operator between its operands

abbrev pub OperatesOn : BinOp → Spot → Option TExpr → Option TExpr → Option Fault → Option Fault → Option typed.TExprTree → Type 0
OperatesOn op p x y a b r = Operates op p (option_map texpr_tree x) (option_map texpr_tree y) a b r

operands : (op : BinOp) (p : Spot) (x y v w : Option TExpr) (a b : Option Fault) (r : Option typed.TExprTree) → x ≡ v → y ≡ w
    → OperatesOn op p v w a b r → OperatesOn op p x y a b r
operands op p x y v w a b r is_x is_y h = subst (λ z. OperatesOn op p z y a b r) (sym is_x) (subst (λ z. OperatesOn op p v z a b r) (sym is_y) h)

pub no-left : (op : BinOp) (p : Spot) (x y : Option TExpr) (a : Option Fault) → x ≡ None → OperatesOn op p x y a a None
no-left op p x y a is = operands op p x y None y a a None is refl (record { notes = quiet a _ (λ f h. none-some _ h.1.2); gives = refl })

pub no-right : (op : BinOp) (p : Spot) (x y : Option TExpr) (v : TExpr) (a : Option Fault) → x ≡ Some v → y ≡ None → OperatesOn op p x y a a None
no-right op p x y v a is_x is_y =
    operands op p x y (Some v) None a a None is_x is_y (record { notes = quiet a _ (λ f h. none-some _ h.1.3); gives = refl })

-- the operator between the operands, widened to the type s
abbrev operation : BinOp → Spot → TExpr → TExpr → Ty → typed.TExprTree
operation op p v w s = typed.binary op s (widened s (ty_of (texpr_tree v)) (texpr_tree v)) (widened s (ty_of (texpr_tree w)) (texpr_tree w)) p

-- t and u are the types that were found of the operands
own-common : (op : BinOp) (v w : TExpr) (t u : Ty) (c : Option Ty) → t ≡ ty_of (texpr_tree v) → u ≡ ty_of (texpr_tree w) → c ≡ common op t u
    → common op (ty_of (texpr_tree v)) (ty_of (texpr_tree w)) ≡ c
own-common op v w t u c is_t is_u is = sym (is ∙ ap₂ (common op) is_t is_u)

pub clashing : (op : BinOp) (p : Spot) (x y : Option TExpr) (v w : TExpr) (t u : Ty) (a b : Option Fault) → x ≡ Some v → y ≡ Some w
    → t ≡ ty_of (texpr_tree v) → u ≡ ty_of (texpr_tree w) → None ≡ common op t u → Notes a b (λ f. f ≡ fault rule.Mismatch p)
    → OperatesOn op p x y a b None
clashing op p x y v w t u a b is_x is_y is_t is_u clash n =
    let none = own-common op v w t u None is_t is_u clash in
    operands op p x y (Some v) (Some w) a b None is_x is_y (record {
      notes = note-always a b _ _ n (ty_of (texpr_tree v), ty_of (texpr_tree w), refl, refl, none);
      gives = sym (ap (option_map (operation op p v w)) none);
    })

no-clash : (op : BinOp) (t u s : Ty) → common op t u ≡ Some s → (x y : Ty) → Some t ≡ Some x → Some u ≡ Some y → common op x y ≡ None → ⊥
no-clash op t u s is x y e d clash = none-some s (sym clash ∙ sym (ap₂ (common op) (same-type t x e) (same-type u y d)) ∙ is)

pub operated : (op : BinOp) (p : Spot) (x y : Option TExpr) (v w : TExpr) (t u s : Ty) (l r z : typed.TExprTree) (a : Option Fault)
    → x ≡ Some v → y ≡ Some w → t ≡ ty_of (texpr_tree v) → u ≡ ty_of (texpr_tree w) → Some s ≡ common op t u
    → l ≡ widened s (ty_of (texpr_tree v)) (texpr_tree v) → r ≡ widened s (ty_of (texpr_tree w)) (texpr_tree w) → z ≡ typed.binary op s l r p
    → OperatesOn op p x y a a (Some z)
operated op p x y v w t u s l r z a is_x is_y is_t is_u is is_l is_r made =
    let some = own-common op v w t u (Some s) is_t is_u is in
    operands op p x y (Some v) (Some w) a a (Some z) is_x is_y (record {
      notes = quiet a _ (λ f h. no-clash op (ty_of (texpr_tree v)) (ty_of (texpr_tree w)) s some h.1.0 h.1.1 h.1.2 h.1.3 h.1.4);
      gives = ap (λ e. Some e) made ∙ ap₂ (λ m n. Some (typed.binary op s m n p)) is_l is_r
          ∙ sym (ap (option_map (operation op p v w)) some);
    })
