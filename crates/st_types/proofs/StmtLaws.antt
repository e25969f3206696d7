-- StmtLaws: statements have checked statements exactly where they have no fault.
use Rattle.std.proofs.Common.{◌≡◌, ℕ, ℤ, ◌⊎◌, inl, inr, Bool, true, false, cond, not, ◌&&◌, List, [], ◌∷◌, Option, Some, None, option_map}
use Rattle.std.proofs.Common.{option_and_then, refl, sym, ap, ap₂, ◌∙◌}
use Rattle.vcp_base.specs.declared.spot.Spot.{Spot}
use Rattle.vcp_base.specs.declared.ty.Ty.{Ty}
use Rattle.vcp_base.specs.Types.{is_bool, within}
use Rattle.st_tree.specs.ExprTree.{ExprTree}
use Rattle.st_tree.specs.StmtTree.{LabelTree, StmtTree, StmtTrees, ArmTrees, BranchTrees, OtherTree, assign, if_, case, for_, no_stmts, and_stmt, no_arms}
use Rattle.st_tree.specs.StmtTree.{and_arm, no_branches, and_branch, no_other, other}
use Rattle.vcp_typed.specs.declared.stmt.TLabel.{TLabel}
use Rattle.vcp_typed.specs.TExprTree as typed
use Rattle.vcp_typed.specs.TStmtTree as checked
use Rattle.vcp_typed.specs.Checked.{ty_of}
use Rattle.st_types.specs.declared.fault.Fault.{Fault}
use Rattle.st_types.specs.declared.fault.Rule.TheVariants as rule
use Rattle.st_types.specs.Faults.{fault}
use Rattle.st_types.specs.Scope.{Entry, find}
use Rattle.st_types.specs.ExprTyping.{both, type_of, ExprFault, expr_of, widened}
use Rattle.st_types.specs.StmtTyping.{spot_of, number_in, is_free, NameFault, entry_type, Narrows, NoTest}
use Rattle.st_types.specs.StmtTyping.{IsBool, BoundFault, not_zero, StepFault, label_ends, form_label, label_of, LastFault, LabelFault}
use Rattle.st_types.specs.StmtTyping.{LabelsFault, held_in, StmtFault, StmtsFault, ArmsFault, BranchesFault, OtherFault, assign_of, test_of, selector_of}
use Rattle.st_types.specs.StmtTyping.{turns_of, step_of, for_of, arm_of, branch_of, case_of, labels_of, stmt_of, stmts_of, arms_of, branches_of, other_of}
use Rattle.st_types.proofs.ConstantLaws.{number-or, last-or, fault-no-number, number-by}
use Rattle.st_types.proofs.ExprLaws.{none-some, some-none, same-value, map-none, pair-none, pair-fault, typed-is, no-expr, fault-no-expr}

-- ---- conditions

both-conds : {A : Type 0} (a b : Bool) (x : A) → cond (a && b) (Some x) None ≡ None → (a ≡ false) ⊎ (b ≡ false)
both-conds false b x e = inl refl
both-conds true false x e = inr refl
both-conds true true x e = absurd (some-none x e)

first-false : {A : Type 0} (a b : Bool) (x : A) → a ≡ false → cond (a && b) (Some x) None ≡ None
first-false false b x e = refl
first-false true b x e = absurd cc

last-false : {A : Type 0} (a b : Bool) (x : A) → b ≡ false → cond (a && b) (Some x) None ≡ None
last-false false b x e = refl
last-false true false x e = refl
last-false true true x e = absurd cc

one-cond : {A : Type 0} (b : Bool) (x : A) → cond b (Some x) None ≡ None → b ≡ false
one-cond false x e = refl
one-cond true x e = absurd (some-none x e)

one-false : {A : Type 0} (b : Bool) (x : A) → b ≡ false → cond b (Some x) None ≡ None
one-false false x e = refl
one-false true x e = absurd cc

other-cond : {A : Type 0} (b : Bool) (x : A) → cond b None (Some x) ≡ None → b ≡ true
other-cond true x e = refl
other-cond false x e = absurd (some-none x e)

other-true : {A : Type 0} (b : Bool) (x : A) → b ≡ true → cond b None (Some x) ≡ None
other-true true x e = refl
other-true false x e = absurd cc

not-false : (b : Bool) → not b ≡ false → b ≡ true
not-false true e = refl
not-false false e = absurd cc

-- ---- bounds and labels

bound-none : (s : List Entry) (t : Option Ty) (u : Ty) (e : ExprTree) → t ≡ Some u → number_in s t e ≡ None → (f : Fault) × BoundFault s t e f
bound-none s t u e is h = elim (number-or s t u e is) [
  | inl same ↦ (fault rule.Bound (spot_of e), inr (refl, sym same ∙ h))
  | inr g ↦ (g.1.0, inl g.1.1)
]

bound-fault : (s : List Entry) (t : Option Ty) (e : ExprTree) (f : Fault) → BoundFault s t e f → number_in s t e ≡ None
bound-fault s t e f (inl h) = fault-no-number s t e f h
bound-fault s t e f (inr h) = number-by (λ (o : Option ℤ). o ≡ None) s t e refl h.1

step-none : (s : List Entry) (t : Option Ty) (u : Ty) (by : Option ExprTree) → t ≡ Some u → step_of s t by ≡ None → (f : Fault) × StepFault s t by f
step-none s t u None is h = absurd cc
step-none s t u (Some e) is h = elim (number-or s t u e is) [
  | inl same ↦ (fault rule.Bound (spot_of e), inr (refl, sym (ap (option_and_then not_zero) same) ∙ h))
  | inr g ↦ (g.1.0, inl g.1.1)
]

step-fault : (s : List Entry) (t : Option Ty) (by : Option ExprTree) (f : Fault) → StepFault s t by f → step_of s t by ≡ None
step-fault s t None f h = absurd h
step-fault s t (Some e) f (inl h) = ap (option_and_then not_zero) (fault-no-number s t e f h)
step-fault s t (Some e) f (inr h) = number-by (λ (o : Option ℤ). option_and_then not_zero o ≡ None) s t e refl h.1

no-last : (spot : Spot) (a : Option ℤ) → label_ends spot a (Some None) ≡ None
no-last spot None = refl
no-last spot (Some a) = refl

last-fault : (s : List Entry) (t : Option Ty) (spot : Spot) (a : Option ℤ) (last : Option ExprTree) (f : Fault) → LastFault s last f
    → label_ends spot a (option_map (number_in s t) last) ≡ None
last-fault s t spot a None f h = absurd h
last-fault s t spot a (Some e) f h = ap (λ k. label_ends spot a (Some k)) (fault-no-number s t e f h) ∙ no-last spot a

-- where the forms of the ends are no label, there is none
no-label : (s : List Entry) (t : Option Ty) (l : LabelTree) → form_label s t l ≡ None → label_of s t l ≡ None
no-label s None l h = refl
no-label s (Some t) l h = elim (number-or s (Some t) t l.first refl) [
  | inr g ↦ ap (λ k. label_ends (spot_of l.first) k (option_map (number_in s (Some t)) l.last)) g.0
  | inl same ↦ elim (last-or s (Some t) t l.last refl) [
    | inr g ↦ ap (label_ends (spot_of l.first) (number_in s (Some t) l.first)) g.0 ∙ no-last (spot_of l.first) (number_in s (Some t) l.first)
    | inl also ↦ (λ i. label_ends (spot_of l.first) (same i) (also i)) ∙ h
  ]
]

label-fault : (s : List Entry) (t : Option Ty) (l : LabelTree) (f : Fault) → LabelFault s t l f → label_of s t l ≡ None
label-fault s t l f (inl h) = ap (λ k. label_ends (spot_of l.first) k (option_map (number_in s t) l.last)) (fault-no-number s t l.first f h)
label-fault s t l f (inr (inl h)) = last-fault s t (spot_of l.first) (number_in s t l.first) l.last f h
label-fault s t l f (inr (inr h)) = no-label s t l h.1

label-none : (s : List Entry) (t : Option Ty) (u : Ty) (l : LabelTree) → t ≡ Some u → label_of s t l ≡ None → (f : Fault) × LabelFault s t l f
label-none s t u l is h = elim (number-or s t u l.first is) [
  | inr g ↦ (g.1.0, inl g.1.1)
  | inl same ↦ elim (last-or s t u l.last is) [
    | inr g ↦ (g.1.0, inr (inl g.1.1))
    | inl also ↦ (fault rule.Label (spot_of l.first), inr (inr (refl, sym (λ i. label_ends (spot_of l.first) (same i) (also i)) ∙ h)))
  ]
]

pub labels-none : (s : List Entry) (t : Option Ty) (u : Ty) (ls : List LabelTree) → t ≡ Some u → labels_of s t ls ≡ None
    → (f : Fault) × LabelsFault s t ls f
labels-none s t u [] is h = let none : List TLabel = [] in absurd (some-none none h)
labels-none s t u (l ∷ ls) is h =
    pair-none (λ x xs. x ∷ xs) (label_of s t l) (labels_of s t ls) (LabelFault s t l) (LabelsFault s t ls) (label-none s t u l is) (labels-none s t u ls is) h

pub labels-fault : (s : List Entry) (t : Option Ty) (ls : List LabelTree) (f : Fault) → LabelsFault s t ls f → labels_of s t ls ≡ None
labels-fault s t [] f h = absurd h
labels-fault s t (l ∷ ls) f h =
    pair-fault (λ x xs. x ∷ xs) (label_of s t l) (labels_of s t ls) (LabelFault s t l) (LabelsFault s t ls) f (label-fault s t l f) (labels-fault s t ls f) h

-- ---- where a statement isn't made, it has a fault

assign-none : (held : List ℕ) (spot : Spot) (o : Option Entry) (x : Option typed.TExprTree) (t : Option Ty) (F : Fault → Type 0)
    → (x ≡ None → (f : Fault) × F f) → option_map ty_of x ≡ t → both (assign_of held spot) o x ≡ None
    → (f : Fault) × (NameFault held o spot f ⊎ (F f ⊎ ((f ≡ fault rule.Mismatch spot) × Narrows (entry_type o) t)))
assign-none held spot None x t F h e k = (fault rule.Unknown spot, inl refl)
assign-none held spot (Some y) None t F h e k = let g = h refl in (g.0, inr (inl g.1))
assign-none held spot (Some y) (Some x) t F h e k =
    elim (both-conds (is_free held y) (within (ty_of x) y.ty) (checked.assign y.slot (widened y.ty (ty_of x) x) spot) k) [
      | inl a ↦ (fault rule.Assign spot, inl (refl, a))
      | inr a ↦ (fault rule.Mismatch spot, inr (inr (refl, (y.ty, ty_of x, refl, sym e, a))))
    ]

test-none : (spot : Spot) (x : Option typed.TExprTree) (t : Option Ty) (F : Fault → Type 0) → (x ≡ None → (f : Fault) × F f) → option_map ty_of x ≡ t
    → option_and_then test_of x ≡ None → (f : Fault) × (F f ⊎ ((f ≡ fault rule.Mismatch spot) × NoTest t))
test-none spot None t F h e k = let g = h refl in (g.0, inl g.1)
test-none spot (Some x) t F h e k = (fault rule.Mismatch spot, inr (refl, (ty_of x, sym e, one-cond (is_bool (ty_of x)) x k)))

selector-none : (spot : Spot) (x : Option typed.TExprTree) (t : Option Ty) (F : Fault → Type 0) → (x ≡ None → (f : Fault) × F f) → option_map ty_of x ≡ t
    → option_and_then selector_of x ≡ None → (f : Fault) × (F f ⊎ ((f ≡ fault rule.Mismatch spot) × IsBool t))
selector-none spot None t F h e k = let g = h refl in (g.0, inl g.1)
selector-none spot (Some x) t F h e k = (fault rule.Mismatch spot, inr (refl, (ty_of x, sym e, other-cond (is_bool (ty_of x)) x k)))

-- a selector has a type
selected : (x : Option typed.TExprTree) (t : Option Ty) (y : typed.TExprTree) → option_map ty_of x ≡ t → option_and_then selector_of x ≡ Some y
    → (u : Ty) × (t ≡ Some u)
selected None t y e k = absurd (none-some y k)
selected (Some x) t y e k = (ty_of x, sym e)

-- the first two of a sum of faults stand in brackets of their own
regroup : (F M R : Type 0) → F ⊎ M → F ⊎ (M ⊎ R)
regroup F M R (inl a) = inl a
regroup F M R (inr b) = inr (inl b)

case-none : (spot : Spot) (x : Option typed.TExprTree) (b : Option checked.TBranchTrees) (o : Option checked.TOtherTree) (F M G H : Fault → Type 0)
    → (x ≡ None → (f : Fault) × (F f ⊎ M f)) → ((y : typed.TExprTree) → x ≡ Some y → b ≡ None → (f : Fault) × G f) → (o ≡ None → (f : Fault) × H f)
    → case_of spot x b o ≡ None
    → (f : Fault) × (F f ⊎ (M f ⊎ (G f ⊎ H f)))
case-none spot None b o F M G H h i j e = let g = h refl in (g.0, regroup (F g.0) (M g.0) (G g.0 ⊎ H g.0) g.1)
case-none spot (Some x) None o F M G H h i j e = let g = i x refl refl in (g.0, inr (inr (inl g.1)))
case-none spot (Some x) (Some b) None F M G H h i j e = let g = j refl in (g.0, inr (inr (inr g.1)))
case-none spot (Some x) (Some b) (Some o) F M G H h i j e = absurd cc

arm-none : (spot : Spot) (x : Option typed.TExprTree) (b : Option checked.TStmtTrees) (a : Option checked.TArmTrees) (F M G H : Fault → Type 0)
    → (x ≡ None → (f : Fault) × (F f ⊎ M f)) → (b ≡ None → (f : Fault) × G f) → (a ≡ None → (f : Fault) × H f) → arm_of spot x b a ≡ None
    → (f : Fault) × (F f ⊎ (M f ⊎ (G f ⊎ H f)))
arm-none spot None b a F M G H h i j e = let g = h refl in (g.0, regroup (F g.0) (M g.0) (G g.0 ⊎ H g.0) g.1)
arm-none spot (Some x) None a F M G H h i j e = let g = i refl in (g.0, inr (inr (inl g.1)))
arm-none spot (Some x) (Some b) None F M G H h i j e = let g = j refl in (g.0, inr (inr (inr g.1)))
arm-none spot (Some x) (Some b) (Some a) F M G H h i j e = absurd cc

branch-none : (ls : Option (List TLabel)) (b : Option checked.TStmtTrees) (r : Option checked.TBranchTrees) (F G H : Fault → Type 0)
    → (ls ≡ None → (f : Fault) × F f) → (b ≡ None → (f : Fault) × G f) → (r ≡ None → (f : Fault) × H f) → branch_of ls b r ≡ None
    → (f : Fault) × (F f ⊎ (G f ⊎ H f))
branch-none None b r F G H h i j e = let g = h refl in (g.0, inl g.1)
branch-none (Some ls) None r F G H h i j e = let g = i refl in (g.0, inr (inl g.1))
branch-none (Some ls) (Some b) None F G H h i j e = let g = j refl in (g.0, inr (inr g.1))
branch-none (Some ls) (Some b) (Some r) F G H h i j e = absurd cc

for-none : (held : List ℕ) (spot : Spot) (o : Option Entry) (v w q : Option ℤ) (b : Option checked.TStmtTrees) (F G H I : Fault → Type 0)
    → ((x : Entry) → o ≡ Some x → v ≡ None → (f : Fault) × F f) → ((x : Entry) → o ≡ Some x → w ≡ None → (f : Fault) × G f)
    → ((x : Entry) → o ≡ Some x → q ≡ None → (f : Fault) × H f) → (b ≡ None → (f : Fault) × I f) → for_of held spot o v w q b ≡ None
    → (f : Fault) × (NameFault held o spot f ⊎ (((f ≡ fault rule.Mismatch spot) × IsBool (entry_type o)) ⊎ (F f ⊎ (G f ⊎ (H f ⊎ I f)))))
for-none held spot None v w q b F G H I k l m n e = (fault rule.Unknown spot, inl refl)
for-none held spot (Some x) None w q b F G H I k l m n e = let g = k x refl refl in (g.0, inr (inr (inl g.1)))
for-none held spot (Some x) (Some v) None q b F G H I k l m n e = let g = l x refl refl in (g.0, inr (inr (inr (inl g.1))))
for-none held spot (Some x) (Some v) (Some w) None b F G H I k l m n e = let g = m x refl refl in (g.0, inr (inr (inr (inr (inl g.1)))))
for-none held spot (Some x) (Some v) (Some w) (Some q) None F G H I k l m n e = let g = n refl in (g.0, inr (inr (inr (inr (inr g.1)))))
for-none held spot (Some x) (Some v) (Some w) (Some q) (Some b) F G H I k l m n e =
    elim (both-conds (is_free held x) (not (is_bool x.ty)) (checked.for_ x.slot v q (turns_of v w q) b spot) e) [
      | inl a ↦ (fault rule.Assign spot, inl (refl, a))
      | inr a ↦ (fault rule.Mismatch spot, inr (inl (refl, (x.ty, refl, not-false (is_bool x.ty) a))))
    ]

mutual
  pub no-stmt : (s : List Entry) (held : List ℕ) (x : StmtTree) → stmt_of s held x ≡ None → (f : Fault) × StmtFault s held x f
  no-stmt s held (assign n e spot) k = assign-none held spot (find s n) (expr_of s e) (type_of s e) (ExprFault s e) (no-expr s e) (typed-is s e) k
  no-stmt s held (if_ arms o) k =
      pair-none (λ x y. checked.if_ x y) (arms_of s held arms) (other_of s held o) (ArmsFault s held arms) (OtherFault s held o) (no-arms s held arms)
      (no-other s held o) k
  no-stmt s held (case e branches o spot) k =
      case-none spot (option_and_then selector_of (expr_of s e)) (branches_of s held (type_of s e) branches) (other_of s held o)
      (ExprFault s e) (λ f. (f ≡ fault rule.Mismatch spot) × IsBool (type_of s e)) (BranchesFault s held (type_of s e) branches) (OtherFault s held o)
      (selector-none spot (expr_of s e) (type_of s e) (ExprFault s e) (no-expr s e) (typed-is s e))
      (λ y is. let t = selected (expr_of s e) (type_of s e) y (typed-is s e) is in no-branches s held (type_of s e) t.0 branches t.1)
      (no-other s held o) k
  no-stmt s held (for_ n name_spot first last by body spot) k =
      for-none held name_spot (find s n) (number_in s (entry_type (find s n)) first) (number_in s (entry_type (find s n)) last)
      (step_of s (entry_type (find s n)) by) (stmts_of s (held_in held (find s n)) body)
      (BoundFault s (entry_type (find s n)) first) (BoundFault s (entry_type (find s n)) last) (StepFault s (entry_type (find s n)) by)
      (StmtsFault s (held_in held (find s n)) body)
      (λ x is. bound-none s (entry_type (find s n)) x.ty first (ap entry_type is))
      (λ x is. bound-none s (entry_type (find s n)) x.ty last (ap entry_type is))
      (λ x is. step-none s (entry_type (find s n)) x.ty by (ap entry_type is))
      (no-stmts s (held_in held (find s n)) body) k

  -- statements that aren't made have a fault
  pub no-stmts : (s : List Entry) (held : List ℕ) (xs : StmtTrees) → stmts_of s held xs ≡ None → (f : Fault) × StmtsFault s held xs f
  no-stmts s held no_stmts k = absurd cc
  no-stmts s held (and_stmt x xs) k =
      pair-none (λ y ys. checked.and_tstmt y ys) (stmt_of s held x) (stmts_of s held xs) (StmtFault s held x) (StmtsFault s held xs) (no-stmt s held x)
      (no-stmts s held xs) k

  pub no-arms : (s : List Entry) (held : List ℕ) (arms : ArmTrees) → arms_of s held arms ≡ None → (f : Fault) × ArmsFault s held arms f
  no-arms s held no_arms k = absurd cc
  no-arms s held (and_arm e body spot arms) k =
      arm-none spot (option_and_then test_of (expr_of s e)) (stmts_of s held body) (arms_of s held arms)
      (ExprFault s e) (λ f. (f ≡ fault rule.Mismatch spot) × NoTest (type_of s e)) (StmtsFault s held body) (ArmsFault s held arms)
      (test-none spot (expr_of s e) (type_of s e) (ExprFault s e) (no-expr s e) (typed-is s e)) (no-stmts s held body) (no-arms s held arms) k

  pub no-branches : (s : List Entry) (held : List ℕ) (t : Option Ty) (u : Ty) (branches : BranchTrees) → t ≡ Some u → branches_of s held t branches ≡ None
      → (f : Fault) × BranchesFault s held t branches f
  no-branches s held t u no_branches is k = absurd cc
  no-branches s held t u (and_branch ls body branches) is k =
      branch-none (labels_of s t ls) (stmts_of s held body) (branches_of s held t branches)
      (LabelsFault s t ls) (StmtsFault s held body) (BranchesFault s held t branches)
      (labels-none s t u ls is) (no-stmts s held body) (no-branches s held t u branches is) k

  pub no-other : (s : List Entry) (held : List ℕ) (o : OtherTree) → other_of s held o ≡ None → (f : Fault) × OtherFault s held o f
  no-other s held no_other k = absurd cc
  no-other s held (other body) k = no-stmts s held body (map-none (λ x. checked.tother x) (stmts_of s held body) k)

-- ---- where a statement has a fault, it isn't made

assign-fault : (held : List ℕ) (spot : Spot) (o : Option Entry) (x : Option typed.TExprTree) (t : Option Ty) (F : Fault → Type 0) (f : Fault) → (F f → x ≡ None)
    → option_map ty_of x ≡ t → NameFault held o spot f ⊎ (F f ⊎ ((f ≡ fault rule.Mismatch spot) × Narrows (entry_type o) t))
    → both (assign_of held spot) o x ≡ None
assign-fault held spot None x t F f h e k = refl
assign-fault held spot (Some y) None t F f h e k = refl
assign-fault held spot (Some y) (Some x) t F f h e (inl n) =
    first-false (is_free held y) (within (ty_of x) y.ty) (checked.assign y.slot (widened y.ty (ty_of x) x) spot) n.1
assign-fault held spot (Some y) (Some x) t F f h e (inr (inl g)) = absurd (some-none x (h g))
assign-fault held spot (Some y) (Some x) t F f h e (inr (inr m)) =
    let a = same-value y.ty m.1.0 m.1.2 in
    let b = same-value (ty_of x) m.1.1 (e ∙ m.1.3) in
    last-false (is_free held y) (within (ty_of x) y.ty) (checked.assign y.slot (widened y.ty (ty_of x) x) spot) (ap₂ within b a ∙ m.1.4)

test-fault : (spot : Spot) (x : Option typed.TExprTree) (t : Option Ty) (f : Fault) → option_map ty_of x ≡ t → (f ≡ fault rule.Mismatch spot) × NoTest t
    → option_and_then test_of x ≡ None
test-fault spot None t f e m = refl
test-fault spot (Some x) t f e m = one-false (is_bool (ty_of x)) x (ap is_bool (same-value (ty_of x) m.1.0 (e ∙ m.1.1)) ∙ m.1.2)

selector-fault : (spot : Spot) (x : Option typed.TExprTree) (t : Option Ty) (f : Fault) → option_map ty_of x ≡ t → (f ≡ fault rule.Mismatch spot) × IsBool t
    → option_and_then selector_of x ≡ None
selector-fault spot None t f e m = refl
selector-fault spot (Some x) t f e m = other-true (is_bool (ty_of x)) x (ap is_bool (same-value (ty_of x) m.1.0 (e ∙ m.1.1)) ∙ m.1.2)

case-fault : (spot : Spot) (x : Option typed.TExprTree) (b : Option checked.TBranchTrees) (o : Option checked.TOtherTree) (F M G H : Type 0) → (F → x ≡ None)
    → (M → x ≡ None) → (G → b ≡ None) → (H → o ≡ None) → F ⊎ (M ⊎ (G ⊎ H)) → case_of spot x b o ≡ None
case-fault spot None b o F M G H h i j k e = refl
case-fault spot (Some x) None o F M G H h i j k e = refl
case-fault spot (Some x) (Some b) None F M G H h i j k e = refl
case-fault spot (Some x) (Some b) (Some o) F M G H h i j k (inl g) = absurd (some-none x (h g))
case-fault spot (Some x) (Some b) (Some o) F M G H h i j k (inr (inl g)) = absurd (some-none x (i g))
case-fault spot (Some x) (Some b) (Some o) F M G H h i j k (inr (inr (inl g))) = absurd (some-none b (j g))
case-fault spot (Some x) (Some b) (Some o) F M G H h i j k (inr (inr (inr g))) = absurd (some-none o (k g))

arm-fault : (spot : Spot) (x : Option typed.TExprTree) (b : Option checked.TStmtTrees) (a : Option checked.TArmTrees) (F M G H : Type 0) → (F → x ≡ None)
    → (M → x ≡ None) → (G → b ≡ None) → (H → a ≡ None) → F ⊎ (M ⊎ (G ⊎ H)) → arm_of spot x b a ≡ None
arm-fault spot None b a F M G H h i j k e = refl
arm-fault spot (Some x) None a F M G H h i j k e = refl
arm-fault spot (Some x) (Some b) None F M G H h i j k e = refl
arm-fault spot (Some x) (Some b) (Some a) F M G H h i j k (inl g) = absurd (some-none x (h g))
arm-fault spot (Some x) (Some b) (Some a) F M G H h i j k (inr (inl g)) = absurd (some-none x (i g))
arm-fault spot (Some x) (Some b) (Some a) F M G H h i j k (inr (inr (inl g))) = absurd (some-none b (j g))
arm-fault spot (Some x) (Some b) (Some a) F M G H h i j k (inr (inr (inr g))) = absurd (some-none a (k g))

branch-fault : (ls : Option (List TLabel)) (b : Option checked.TStmtTrees) (r : Option checked.TBranchTrees) (F G H : Type 0) → (F → ls ≡ None) → (G → b ≡ None)
    → (H → r ≡ None) → F ⊎ (G ⊎ H) → branch_of ls b r ≡ None
branch-fault None b r F G H h i j e = refl
branch-fault (Some ls) None r F G H h i j e = refl
branch-fault (Some ls) (Some b) None F G H h i j e = refl
branch-fault (Some ls) (Some b) (Some r) F G H h i j (inl g) = absurd (some-none ls (h g))
branch-fault (Some ls) (Some b) (Some r) F G H h i j (inr (inl g)) = absurd (some-none b (i g))
branch-fault (Some ls) (Some b) (Some r) F G H h i j (inr (inr g)) = absurd (some-none r (j g))

bool-not : (b : Bool) → b ≡ true → not b ≡ false
bool-not true e = refl
bool-not false e = absurd cc

for-fault : (held : List ℕ) (spot : Spot) (o : Option Entry) (v w q : Option ℤ) (b : Option checked.TStmtTrees) (f : Fault) (F G H I : Type 0) → (F → v ≡ None)
    → (G → w ≡ None) → (H → q ≡ None) → (I → b ≡ None)
    → NameFault held o spot f ⊎ (((f ≡ fault rule.Mismatch spot) × IsBool (entry_type o)) ⊎ (F ⊎ (G ⊎ (H ⊎ I)))) → for_of held spot o v w q b ≡ None
for-fault held spot None v w q b f F G H I k l m n e = refl
for-fault held spot (Some x) None w q b f F G H I k l m n e = refl
for-fault held spot (Some x) (Some v) None q b f F G H I k l m n e = refl
for-fault held spot (Some x) (Some v) (Some w) None b f F G H I k l m n e = refl
for-fault held spot (Some x) (Some v) (Some w) (Some q) None f F G H I k l m n e = refl
for-fault held spot (Some x) (Some v) (Some w) (Some q) (Some b) f F G H I k l m n (inl g) =
    first-false (is_free held x) (not (is_bool x.ty)) (checked.for_ x.slot v q (turns_of v w q) b spot) g.1
for-fault held spot (Some x) (Some v) (Some w) (Some q) (Some b) f F G H I k l m n (inr (inl g)) =
    last-false (is_free held x) (not (is_bool x.ty)) (checked.for_ x.slot v q (turns_of v w q) b spot)
    (bool-not (is_bool x.ty) (ap is_bool (same-value x.ty g.1.0 g.1.1) ∙ g.1.2))
for-fault held spot (Some x) (Some v) (Some w) (Some q) (Some b) f F G H I k l m n (inr (inr (inl g))) = absurd (some-none v (k g))
for-fault held spot (Some x) (Some v) (Some w) (Some q) (Some b) f F G H I k l m n (inr (inr (inr (inl g)))) = absurd (some-none w (l g))
for-fault held spot (Some x) (Some v) (Some w) (Some q) (Some b) f F G H I k l m n (inr (inr (inr (inr (inl g))))) = absurd (some-none q (m g))
for-fault held spot (Some x) (Some v) (Some w) (Some q) (Some b) f F G H I k l m n (inr (inr (inr (inr (inr g))))) = absurd (some-none b (n g))

fault-no-test : (s : List Entry) (e : ExprTree) (f : Fault) → ExprFault s e f → option_and_then test_of (expr_of s e) ≡ None
fault-no-test s e f h = ap (option_and_then test_of) (fault-no-expr s e f h)

fault-no-selector : (s : List Entry) (e : ExprTree) (f : Fault) → ExprFault s e f → option_and_then selector_of (expr_of s e) ≡ None
fault-no-selector s e f h = ap (option_and_then selector_of) (fault-no-expr s e f h)

mutual
  pub fault-no-stmt : (s : List Entry) (held : List ℕ) (x : StmtTree) (f : Fault) → StmtFault s held x f → stmt_of s held x ≡ None
  fault-no-stmt s held (assign n e spot) f k =
      assign-fault held spot (find s n) (expr_of s e) (type_of s e) (ExprFault s e) f (fault-no-expr s e f) (typed-is s e) k
  fault-no-stmt s held (if_ arms o) f k =
      pair-fault (λ x y. checked.if_ x y) (arms_of s held arms) (other_of s held o) (ArmsFault s held arms) (OtherFault s held o) f
      (fault-no-arms s held arms f) (fault-no-other s held o f) k
  fault-no-stmt s held (case e branches o spot) f k =
      case-fault spot (option_and_then selector_of (expr_of s e)) (branches_of s held (type_of s e) branches) (other_of s held o)
      (ExprFault s e f) ((f ≡ fault rule.Mismatch spot) × IsBool (type_of s e)) (BranchesFault s held (type_of s e) branches f) (OtherFault s held o f)
      (fault-no-selector s e f) (selector-fault spot (expr_of s e) (type_of s e) f (typed-is s e)) (fault-no-branches s held (type_of s e) branches f)
      (fault-no-other s held o f) k
  fault-no-stmt s held (for_ n name_spot first last by body spot) f k =
      for-fault held name_spot (find s n) (number_in s (entry_type (find s n)) first) (number_in s (entry_type (find s n)) last)
      (step_of s (entry_type (find s n)) by) (stmts_of s (held_in held (find s n)) body) f
      (BoundFault s (entry_type (find s n)) first f) (BoundFault s (entry_type (find s n)) last f) (StepFault s (entry_type (find s n)) by f)
      (StmtsFault s (held_in held (find s n)) body f)
      (bound-fault s (entry_type (find s n)) first f) (bound-fault s (entry_type (find s n)) last f) (step-fault s (entry_type (find s n)) by f)
      (fault-no-stmts s (held_in held (find s n)) body f) k

  -- statements that have a fault aren't made
  pub fault-no-stmts : (s : List Entry) (held : List ℕ) (xs : StmtTrees) (f : Fault) → StmtsFault s held xs f → stmts_of s held xs ≡ None
  fault-no-stmts s held no_stmts f k = absurd k
  fault-no-stmts s held (and_stmt x xs) f k =
      pair-fault (λ y ys. checked.and_tstmt y ys) (stmt_of s held x) (stmts_of s held xs) (StmtFault s held x) (StmtsFault s held xs) f
      (fault-no-stmt s held x f) (fault-no-stmts s held xs f) k

  pub fault-no-arms : (s : List Entry) (held : List ℕ) (arms : ArmTrees) (f : Fault) → ArmsFault s held arms f → arms_of s held arms ≡ None
  fault-no-arms s held no_arms f k = absurd k
  fault-no-arms s held (and_arm e body spot arms) f k =
      arm-fault spot (option_and_then test_of (expr_of s e)) (stmts_of s held body) (arms_of s held arms)
      (ExprFault s e f) ((f ≡ fault rule.Mismatch spot) × NoTest (type_of s e)) (StmtsFault s held body f) (ArmsFault s held arms f)
      (fault-no-test s e f) (test-fault spot (expr_of s e) (type_of s e) f (typed-is s e)) (fault-no-stmts s held body f) (fault-no-arms s held arms f) k

  pub fault-no-branches : (s : List Entry) (held : List ℕ) (t : Option Ty) (branches : BranchTrees) (f : Fault) → BranchesFault s held t branches f
      → branches_of s held t branches ≡ None
  fault-no-branches s held t no_branches f k = absurd k
  fault-no-branches s held t (and_branch ls body branches) f k =
      branch-fault (labels_of s t ls) (stmts_of s held body) (branches_of s held t branches)
      (LabelsFault s t ls f) (StmtsFault s held body f) (BranchesFault s held t branches f)
      (labels-fault s t ls f) (fault-no-stmts s held body f) (fault-no-branches s held t branches f) k

  pub fault-no-other : (s : List Entry) (held : List ℕ) (o : OtherTree) (f : Fault) → OtherFault s held o f → other_of s held o ≡ None
  fault-no-other s held no_other f k = absurd k
  fault-no-other s held (other body) f k = ap (option_map (λ x. checked.tother x)) (fault-no-stmts s held body f k)
