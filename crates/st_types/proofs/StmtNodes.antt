-- StmtNodes: one lemma for each node of a statement: the faults of its parts, in order, and what they give.
use Rattle.std.proofs.Common.{◌≡◌, ◌≢◌, ℕ, ℤ, pos, ◌⊎◌, List, [], ◌∷◌, ◌++◌, Bool, true, false, not, ◌&&◌, cond, Option, Some, None, IfSome, option_map, option_and_then, refl, sym}
use Rattle.std.proofs.Common.{ap, ap₂, ◌∙◌, subst}
use Rattle.std.specs.Prelude.{is_some}
use Rattle.vcp_base.specs.declared.spot.Spot.{Spot}
use Rattle.vcp_base.specs.declared.ty.Ty.{Ty}
use Rattle.vcp_base.specs.Types.{is_bool}
use Rattle.st_tree.specs.ExprTree.{ExprTree}
use Rattle.st_tree.specs.StmtTree.{LabelTree, StmtTree, StmtTrees, ArmTrees, BranchTrees, OtherTree, assign, if_, case, for_, no_stmts, and_stmt, no_arms}
use Rattle.st_tree.specs.StmtTree.{and_arm, no_branches, and_branch, no_other, other}
use Rattle.vcp_typed.specs.declared.stmt.TLabel.{TLabel}
use Rattle.vcp_typed.specs.TExprTree as typed
use Rattle.vcp_typed.specs.TStmtTree as checked
use Rattle.vcp_typed.specs.TStmtViews.{tstmts_and, tarms_and, tbranches_and}
use Rattle.vcp_typed.specs.Checked.{ty_of}
use Rattle.st_types.specs.declared.constants.Number.{Number}
use Rattle.st_types.specs.declared.fault.Fault.{Fault}
use Rattle.st_types.specs.declared.fault.Rule.TheVariants as rule
use Rattle.st_types.specs.declared.statement.Turning.{Turning}
use Rattle.st_types.specs.Faults.{fault}
use Rattle.st_types.specs.Notes.{UpTo, Notes}
use Rattle.st_types.specs.Scope.{Entry, find}
use Rattle.st_types.specs.ExprTyping.{both, type_of, expr_of}
use Rattle.st_types.specs.ExprSteps.{Types}
use Rattle.st_types.specs.StmtTyping.{Form, spot_of, form, form_number, number_in, not_zero, step_of, NameFault, entry_type, Narrows, NoTest}
use Rattle.st_types.specs.StmtTyping.{IsBool, BoundFault, StepFault, LastFault, label_ends, form_label, label_of, LabelsFault, held_in}
use Rattle.st_types.specs.StmtTyping.{StmtsFault, stmts_of, ArmsFault, BranchesFault, OtherFault, assign_of, test_of, selector_of, for_of, arm_of, branch_of}
use Rattle.st_types.specs.StmtTyping.{case_of, is_free, turns_of}
use Rattle.st_types.specs.StmtSteps.{Gives, Numbers, Bounds, Steps, TypesLast, TypesLabel, TypesLabels, TypesStmt, TypesStmts, TypesArms}
use Rattle.st_types.specs.StmtSteps.{TypesBranches, TypesOther, label_after, branch_after, turning_of, for_with}
use Rattle.st_types.proofs.ExprLaws.{none-some, same-value, typed-is}
use Rattle.st_types.proofs.MadeChecked.{not-zero-made}
use Rattle.st_types.proofs.NoteLaws.{quiet, pair, third, note-where}
use Rattle.st_types.proofs.StmtLaws.{no-stmts, no-arms}

-- where no fault is noted behind a part, none was before it, and it has none
earlier : (b c : Option Fault) (F : Fault → Type 0) → Notes b c F → c ≡ None → b ≡ None
earlier None c F n e = refl
earlier (Some f) c F n e = absurd (subst (λ x. UpTo x f) e (n.keeps f refl))

faultless : (b c : Option Fault) (F : Fault → Type 0) → Notes b c F → c ≡ None → (f : Fault) × F f → ⊥
faultless b c F n e h = subst (λ x. UpTo x h.0) e (n.finds h.0 h.1)

-- what is built of a node that is there, or isn't
pub none-built : {X Y : Type 0} (f : X → Y) (o : Option X) (y : Y) → o ≡ None → option_map f o ≡ Some y → ⊥
none-built f o y is e = none-some y (sym (ap (option_map f) is) ∙ e)

pub some-built : {X Y : Type 0} (f : X → Y) (o : Option X) (x : X) (y : Y) → o ≡ Some x → option_map f o ≡ Some y → f x ≡ y
some-built f o x y is e = same-value (f x) y (sym (ap (option_map f) is) ∙ e)

own-type : (s : List Entry) (e : ExprTree) (x : Option typed.TExprTree) → x ≡ expr_of s e → option_map ty_of x ≡ type_of s e
own-type s e x is = ap (option_map ty_of) is ∙ typed-is s e

-- ---- constants

pub numbers : (s : List Entry) (t : Option Ty) (e : ExprTree) (a b : Option Fault) (x : Option typed.TExprTree) (found : Option Ty) (o : Option Form)
    (w v : Option ℤ)
    → Types s e a b x → found ≡ option_map ty_of x → o ≡ form s e → w ≡ form_number t o → v ≡ both (λ y u. form_number (Some y) o) t found
    → Numbers s t e a b (record { form = w; value = v })
numbers s t e a b x found o w v h is formed fw fv =
    let own : found ≡ type_of s e = is ∙ own-type s e x h.gives in
    record {
      notes = h.notes;
      value = fv ∙ (λ i. both (λ y u. form_number (Some y) (formed i)) t (own i));
      form = fw ∙ ap (form_number t) formed;
    }

pub bounds : (s : List Entry) (t : Option Ty) (e : ExprTree) (p : Spot) (a b c : Option Fault) (r : Number) → Numbers s t e a b r → p ≡ spot_of e
    → Notes b c (λ f. (f ≡ fault rule.Bound p) × (r.form ≡ None)) → Bounds s t e a c r.value
bounds s t e p a b c r h at n =
    let m = subst (λ q. Notes b c (λ f. (f ≡ fault rule.Bound q) × (r.form ≡ None))) at n in
    let o = subst (λ y. Notes b c (λ f. (f ≡ fault rule.Bound (spot_of e)) × (y ≡ None))) h.form m in
    record { notes = pair a b c _ _ h.notes o; gives = h.value }

pub steps : (s : List Entry) (t : Option Ty) (e : ExprTree) (p : Spot) (a b c : Option Fault) (r : Number) (w v : Option ℤ) → Numbers s t e a b r
    → p ≡ spot_of e
    → w ≡ option_and_then not_zero r.form → Notes b c (λ f. (f ≡ fault rule.Bound p) × (w ≡ None)) → v ≡ option_and_then not_zero r.value
    → Steps s t (Some e) a c v
steps s t e p a b c r w v h at fw n fv =
    let m = subst (λ q. Notes b c (λ f. (f ≡ fault rule.Bound q) × (w ≡ None))) at n in
    let o = subst (λ y. Notes b c (λ f. (f ≡ fault rule.Bound (spot_of e)) × (y ≡ None))) (fw ∙ ap (option_and_then not_zero) h.form) m in
    record { notes = pair a b c _ _ h.notes o; gives = fv ∙ ap (option_and_then not_zero) h.value }

pub one-step : (s : List Entry) (t : Option Ty) (a : Option Fault) → Steps s t None a a (Some (pos 1))
one-step s t a = record { notes = quiet a (StepFault s t None) (λ f h. h); gives = refl }

-- ---- labels

pub no-last : (s : List Entry) (t : Option Ty) (a : Option Fault) → TypesLast s t None a a None
no-last s t a = record { notes = quiet a (LastFault s None) (λ f h. h); value = refl; form = refl }

pub some-last : (s : List Entry) (t : Option Ty) (e : ExprTree) (a b : Option Fault) (r : Number) → Numbers s t e a b r → TypesLast s t (Some e) a b (Some r)
some-last s t e a b r h = record { notes = h.notes; value = ap Some h.value; form = ap Some h.form }

none-there : {A : Type 0} (o : Option A) → is_some o ≡ false → o ≡ None
none-there None e = refl
none-there (Some x) e = absurd cc

pub label-types : (s : List Entry) (t : Option Ty) (l : LabelTree) (p : Spot) (a b c d : Option Fault) (v : Number) (w : Option Number)
    (x y : Option (Option ℤ)) (o : Bool) (r : Option TLabel)
    → Numbers s t l.first a b v → TypesLast s t l.last b c w → p ≡ spot_of l.first
    → x ≡ option_map (λ n. n.form) w → ((q : Spot) → o ≡ is_some (label_ends q v.form x)) → Notes c d (λ f. (f ≡ fault rule.Label p) × (o ≡ false))
    → y ≡ option_map (λ n. n.value) w → r ≡ label_ends p v.value y → TypesLabel s t l a d r
label-types s t l p a b c d v w x y o r h k at fx fo n fy is =
    let forms : x ≡ option_map (λ e. form_number t (form s e)) l.last = fx ∙ k.form in
    let ends : y ≡ option_map (number_in s t) l.last = fy ∙ k.value in
    let made : r ≡ label_of s t l = is ∙ (λ i. label_ends (at i) (h.value i) (ends i)) in
    let there : o ≡ is_some (form_label s t l) = fo (spot_of l.first) ∙ (λ i. is_some (label_ends (spot_of l.first) (h.form i) (forms i))) in
    let m = subst (λ q. Notes c d (λ f. (f ≡ fault rule.Label q) × (o ≡ false))) at n in
    let z = note-where c d (fault rule.Label (spot_of l.first)) (o ≡ false) (form_label s t l ≡ None) m (λ e. there ∙ ap is_some e)
    (λ e. none-there (form_label s t l) (sym there ∙ e)) in
    record { notes = pair a b d _ _ h.notes (pair b c d _ _ k.notes z); gives = made }

abbrev pub label_cons : TLabel → List TLabel → Option (List TLabel)
label_cons x xs = Some (x ∷ xs)

abbrev pub labels_glue : List TLabel → List TLabel → Option (List TLabel)
labels_glue xs ys = Some (xs ++ ys)

pub more-labels : (s : List Entry) (t : Option Ty) (l : LabelTree) (ls : List LabelTree) (a b c : Option Fault) (x : Option TLabel) (xs : Option (List TLabel))
    → TypesLabel s t l a b x → TypesLabels s t ls b c xs → TypesLabels s t (l ∷ ls) a c (both label_cons x xs)
more-labels s t l ls a b c x xs h k = record { notes = pair a b c _ _ h.notes k.notes; gives = ap₂ (both label_cons) h.gives k.gives }

pub no-labels : (s : List Entry) (t : Option Ty) (a : Option Fault) → TypesLabels s t [] a a (Some [])
no-labels s t a = record { notes = quiet a (LabelsFault s t []) (λ f h. h); gives = refl }

labels-assoc : (a b c : List TLabel) → (a ++ b) ++ c ≡ a ++ (b ++ c)
labels-assoc [] b c = refl
labels-assoc (x ∷ a) b c = ap (λ (t : List TLabel). x ∷ t) (labels-assoc a b c)

labels-none : (a : List TLabel) → a ++ [] ≡ a
labels-none [] = refl
labels-none (x ∷ a) = ap (λ (t : List TLabel). x ∷ t) (labels-none a)

pub labels-on : (a b : Option (List TLabel)) (x : Option TLabel) (r : Option (List TLabel)) → b ≡ both label_after a x
    → both labels_glue a (both label_cons x r) ≡ both labels_glue b r
labels-on None b x r e = sym (ap (λ y. both labels_glue y r) e)
labels-on (Some xs) b None r e = sym (ap (λ y. both labels_glue y r) e)
labels-on (Some xs) b (Some x) None e = sym (ap (λ y. both labels_glue y None) e)
labels-on (Some xs) b (Some x) (Some ys) e = ap Some (sym (labels-assoc xs (x ∷ []) ys)) ∙ sym (ap (λ y. both labels_glue y (Some ys)) e)

pub labels-end : (a : Option (List TLabel)) → both labels_glue a (Some []) ≡ a
labels-end None = refl
labels-end (Some xs) = ap Some (labels-none xs)

-- ---- statements

pub assign-types : (s : List Entry) (held : List ℕ) (n : List ℕ) (e : ExprTree) (p : Spot) (a b c d : Option Fault) (o : Option Entry)
    (x : Option typed.TExprTree) (r : Option checked.TStmtTree)
    → o ≡ find s n → Notes a b (NameFault held o p) → Types s e b c x
    → Gives (λ f. (f ≡ fault rule.Mismatch p) × Narrows (entry_type o) (option_map ty_of x)) (both (assign_of held p) o x) c d r
    → TypesStmt s held (assign n e p) a d r
assign-types s held n e p a b c d o x r is n1 t v =
    let own = subst (λ y. Notes c d (λ f. (f ≡ fault rule.Mismatch p) × Narrows (entry_type y) (type_of s e))) is
    (subst (λ y. Notes c d (λ f. (f ≡ fault rule.Mismatch p) × Narrows (entry_type o) y)) (own-type s e x t.gives) v.notes) in
    let name = subst (λ y. Notes a b (NameFault held y p)) is n1 in
    record {
      notes = pair a b d _ _ name (pair b c d _ _ t.notes own);
      gives = λ _. v.gives ∙ ap₂ (both (assign_of held p)) is t.gives;
    }

-- IF of these parts
abbrev pub if_of : checked.TArmTrees → checked.TOtherTree → Option checked.TStmtTree
if_of arms o = Some (checked.if_ arms o)

pub if-types : (s : List Entry) (held : List ℕ) (arms : ArmTrees) (o : OtherTree) (a b c : Option Fault) (x : Option checked.TArmTrees)
    (y : Option checked.TOtherTree) (r : Option checked.TStmtTree)
    → TypesArms s held arms a b x → TypesOther s held o b c y → r ≡ both if_of x y → TypesStmt s held (if_ arms o) a c r
if-types s held arms o a b c x y r h k is = record {
  notes = pair a b c _ _ h.notes k.notes;
  gives = λ n. is ∙ ap₂ (both if_of) (h.gives (earlier b c _ k.notes n)) (k.gives n);
}

pub case-types : (s : List Entry) (held : List ℕ) (e : ExprTree) (branches : BranchTrees) (o : OtherTree) (p : Spot) (a b c d g : Option Fault)
    (x q : Option typed.TExprTree) (t : Option Ty) (y : Option checked.TBranchTrees) (z : Option checked.TOtherTree) (r : Option checked.TStmtTree)
    → Types s e a b x → t ≡ option_map ty_of x
    → Notes b c (λ f. (f ≡ fault rule.Mismatch p) × IsBool (option_map ty_of x)) → q ≡ option_and_then selector_of x
    → TypesBranches s held t branches c d y → TypesOther s held o d g z → r ≡ case_of p q y z
    → TypesStmt s held (case e branches o p) a g r
case-types s held e branches o p a b c d g x q t y z r h is n sel k l gives =
    let own = own-type s e x h.gives in
    let m = subst (λ w. Notes b c (λ f. (f ≡ fault rule.Mismatch p) × IsBool w)) own n in
    let k1 = subst (λ w. TypesBranches s held w branches c d y) (is ∙ own) k in
    let q1 : q ≡ option_and_then selector_of (expr_of s e) = sel ∙ ap (option_and_then selector_of) h.gives in
    record {
      notes = pair a b g _ _ h.notes (pair b c g _ _ m (pair c d g _ _ k1.notes l.notes));
      gives = λ e. gives ∙ (λ i. case_of p (q1 i) (k1.gives (earlier d g _ l.notes e) i) (l.gives e i));
    }

for_is : (held : List ℕ) (spot : Spot) (o : Option Entry) (v w u : Option ℤ) (b : Option checked.TStmtTrees)
    → for_with spot (turning_of held o v w u) b ≡ for_of held spot o v w u b
for_is held spot None v w u b = refl
for_is held spot (Some e) None w u b = refl
for_is held spot (Some e) (Some first) None u b = refl
for_is held spot (Some e) (Some first) (Some last) None b = refl
for_is held spot (Some e) (Some first) (Some last) (Some by) None = none (is_free held e && not (is_bool e.ty)) _
  where
    none : (c : Bool) (t : Turning) → for_with spot (cond c (Some t) None) None ≡ None
    none true t = refl
    none false t = refl
for_is held spot (Some e) (Some first) (Some last) (Some by) (Some body) =
    some (is_free held e && not (is_bool e.ty)) (record { slot = e.slot; first = first; by = by; turns = turns_of first last by })
  where
    some : (c : Bool) (t : Turning) → for_with spot (cond c (Some t) None) (Some body)
        ≡ cond c (Some (checked.for_ t.slot t.first t.by t.turns body spot)) None
    some true t = refl
    some false t = refl

pub for-types : (s : List Entry) (held : List ℕ) (n : List ℕ) (p q : Spot) (e f : ExprTree) (by : Option ExprTree) (body : StmtTrees)
    (a c d g h k : Option Fault) (o : Option Entry) (t : Option Ty) (inner : List ℕ) (v w u : Option ℤ) (y : Option checked.TStmtTrees)
    (x : Option Turning) (r : Option checked.TStmtTree)
    → o ≡ find s n → t ≡ entry_type o → inner ≡ held_in held o
    → Notes a c (λ m. NameFault held o p m ⊎ ((m ≡ fault rule.Mismatch p) × IsBool t))
    → Bounds s t e c d v → Bounds s t f d g w → Steps s t by g h u
    → TypesStmts s inner body h k y → x ≡ turning_of held o v w u → r ≡ for_with p x y
    → TypesStmt s held (for_ n p e f by body q) a k r
for-types s held n p q e f by body a c d g h k o t inner v w u y x r is ty1 in1 n1 x1 x2 x3 x4 turning made =
    let gives : r ≡ for_of held p o v w u y = made ∙ ap (λ z. for_with p z y) turning ∙ for_is held p o v w u y in
    let all = third a c k _ _ _ n1 (pair c d k _ _ x1.notes (pair d g k _ _ x2.notes (pair g h k _ _ x3.notes x4.notes))) in
    let ty2 : t ≡ entry_type (find s n) = ty1 ∙ ap entry_type is in
    let in2 : inner ≡ held_in held (find s n) = in1 ∙ ap (held_in held) is in
    record {
      notes = subst
          (λ z. Notes a k
          (λ m. NameFault held z p m
          ⊎ (((m ≡ fault rule.Mismatch p) × IsBool (entry_type (find s n)))
          ⊎ (BoundFault s
          (entry_type (find s n)) e m
          ⊎ (BoundFault s (entry_type (find s n)) f m ⊎ (StepFault s (entry_type (find s n)) by m ⊎ StmtsFault s (held_in held (find s n)) body m)))))) is
          (subst (λ z. Notes a k
          (λ m. NameFault held o p m
          ⊎ (((m ≡ fault rule.Mismatch p) × IsBool z)
          ⊎ (BoundFault s z e m ⊎ (BoundFault s z f m ⊎ (StepFault s z by m ⊎ StmtsFault s (held_in held (find s n)) body m)))))) ty2
          (subst (λ z. Notes a k
          (λ m. NameFault held o p m
          ⊎ (((m ≡ fault rule.Mismatch p) × IsBool t)
          ⊎ (BoundFault s t e m ⊎ (BoundFault s t f m ⊎ (StepFault s t by m ⊎ StmtsFault s z body m)))))) in2 all));
      gives = λ z. gives ∙ (λ i. for_of held p o (x1.gives i) (x2.gives i) (x3.gives i) (x4.gives z i))
          ∙ (λ i. for_of held p (is i) (number_in s (ty2 i) e) (number_in s (ty2 i) f) (step_of s (ty2 i) by) (stmts_of s (in2 i) body));
    }

-- ---- lists

abbrev pub stmt_cons : checked.TStmtTree → checked.TStmtTrees → Option checked.TStmtTrees
stmt_cons x xs = Some (checked.and_tstmt x xs)

abbrev stmts_all : checked.TStmtTrees → checked.TStmtTrees → checked.TStmtTrees
stmts_all checked.no_tstmts ys = ys
stmts_all (checked.and_tstmt x xs) ys = checked.and_tstmt x (stmts_all xs ys)

abbrev pub stmts_glue : checked.TStmtTrees → checked.TStmtTrees → Option checked.TStmtTrees
stmts_glue xs ys = Some (stmts_all xs ys)

pub more-stmts : (s : List Entry) (held : List ℕ) (l : StmtTree) (ls : StmtTrees) (a b c : Option Fault) (x : Option checked.TStmtTree)
    (xs : Option checked.TStmtTrees) → TypesStmt s held l a b x → TypesStmts s held ls b c xs → TypesStmts s held (and_stmt l ls) a c (both stmt_cons x xs)
more-stmts s held l ls a b c x xs h k = record {
  notes = pair a b c _ _ h.notes k.notes;
  gives = λ n. ap₂ (both stmt_cons) (h.gives (earlier b c _ k.notes n)) (k.gives n);
}

pub no-more-stmts : (s : List Entry) (held : List ℕ) (a : Option Fault) → TypesStmts s held no_stmts a a (Some checked.no_tstmts)
no-more-stmts s held a = record { notes = quiet a (StmtsFault s held no_stmts) (λ f h. h); gives = λ _. refl }

stmts-assoc : (xs : checked.TStmtTrees) (x : checked.TStmtTree) (ys : checked.TStmtTrees)
    → stmts_all (tstmts_and xs x) ys ≡ stmts_all xs (checked.and_tstmt x ys)
stmts-assoc checked.no_tstmts x ys = refl
stmts-assoc (checked.and_tstmt z xs) x ys = ap (λ (t : checked.TStmtTrees). checked.and_tstmt z t) (stmts-assoc xs x ys)

stmts-all-none : (xs : checked.TStmtTrees) → stmts_all xs checked.no_tstmts ≡ xs
stmts-all-none checked.no_tstmts = refl
stmts-all-none (checked.and_tstmt z xs) = ap (λ (t : checked.TStmtTrees). checked.and_tstmt z t) (stmts-all-none xs)

abbrev pub stmt_after : checked.TStmtTrees → checked.TStmtTree → Option checked.TStmtTrees
stmt_after xs x = Some (tstmts_and xs x)

stmts-on : (a b : Option checked.TStmtTrees) (x : Option checked.TStmtTree) (r : Option checked.TStmtTrees) → b ≡ both stmt_after a x
    → both stmts_glue a (both stmt_cons x r) ≡ both stmts_glue b r
stmts-on None b x r e = sym (ap (λ y. both stmts_glue y r) e)
stmts-on (Some xs) b None r e = sym (ap (λ y. both stmts_glue y r) e)
stmts-on (Some xs) b (Some x) None e = sym (ap (λ y. both stmts_glue y None) e)
stmts-on (Some xs) b (Some x) (Some ys) e = ap Some (sym (stmts-assoc xs x ys)) ∙ sym (ap (λ y. both stmts_glue y (Some ys)) e)

-- the list with a statement, where one was built
pub stmts-next : (s : List Entry) (held : List ℕ) (ss : StmtTrees) (a b : Option Fault) (xs ys : checked.TStmtTrees) (x : Option checked.TStmtTree)
    (r : Option checked.TStmtTrees)
    → TypesStmts s held ss a b (both stmts_glue (Some xs) (both stmt_cons x r)) → ((y : checked.TStmtTree) → x ≡ Some y → ys ≡ tstmts_and xs y)
    → TypesStmts s held ss a b (both stmts_glue (Some ys) r)
stmts-next s held ss a b xs ys None r h add = record {
  notes = h.notes;
  gives = λ n. absurd (faultless a b _ h.notes n (no-stmts s held ss (sym (h.gives n))));
}
stmts-next s held ss a b xs ys (Some y) r h add = record {
  notes = h.notes;
  gives = λ n. sym (stmts-on (Some xs) (Some ys) (Some y) r (ap Some (add y refl))) ∙ h.gives n;
}

pub stmts-end : (a : Option checked.TStmtTrees) → both stmts_glue a (Some checked.no_tstmts) ≡ a
stmts-end None = refl
stmts-end (Some xs) = ap Some (stmts-all-none xs)

abbrev arms_all : checked.TArmTrees → checked.TArmTrees → checked.TArmTrees
arms_all checked.no_tarms ys = ys
arms_all (checked.and_tarm e body p xs) ys = checked.and_tarm e body p (arms_all xs ys)

abbrev pub arms_glue : checked.TArmTrees → checked.TArmTrees → Option checked.TArmTrees
arms_glue xs ys = Some (arms_all xs ys)

pub more-arms : (s : List Entry) (held : List ℕ) (e : ExprTree) (body : StmtTrees) (p : Spot) (ls : ArmTrees) (a b c d g : Option Fault)
    (x q : Option typed.TExprTree) (y : Option checked.TStmtTrees) (z : Option checked.TArmTrees)
    → Types s e a b x → Notes b c (λ f. (f ≡ fault rule.Mismatch p) × NoTest (option_map ty_of x)) → q ≡ option_and_then test_of x
    → TypesStmts s held body c d y → TypesArms s held ls d g z
    → TypesArms s held (and_arm e body p ls) a g (arm_of p q y z)
more-arms s held e body p ls a b c d g x q y z h n is k l =
    let m = subst (λ w. Notes b c (λ f. (f ≡ fault rule.Mismatch p) × NoTest w)) (own-type s e x h.gives) n in
    let q1 : q ≡ option_and_then test_of (expr_of s e) = is ∙ ap (option_and_then test_of) h.gives in
    record {
      notes = pair a b g _ _ h.notes (pair b c g _ _ m (pair c d g _ _ k.notes l.notes));
      gives = λ e i. arm_of p (q1 i) (k.gives (earlier d g _ l.notes e) i) (l.gives e i);
    }

pub no-more-arms : (s : List Entry) (held : List ℕ) (a : Option Fault) → TypesArms s held no_arms a a (Some checked.no_tarms)
no-more-arms s held a = record { notes = quiet a (ArmsFault s held no_arms) (λ f h. h); gives = λ _. refl }

arms-assoc : (xs : checked.TArmTrees) (e : typed.TExprTree) (body : checked.TStmtTrees) (p : Spot) (ys : checked.TArmTrees)
    → arms_all (tarms_and xs e body p) ys ≡ arms_all xs (checked.and_tarm e body p ys)
arms-assoc checked.no_tarms e body p ys = refl
arms-assoc (checked.and_tarm c b q xs) e body p ys = ap (λ (t : checked.TArmTrees). checked.and_tarm c b q t) (arms-assoc xs e body p ys)

arms-all-none : (xs : checked.TArmTrees) → arms_all xs checked.no_tarms ≡ xs
arms-all-none checked.no_tarms = refl
arms-all-none (checked.and_tarm c b q xs) = ap (λ (t : checked.TArmTrees). checked.and_tarm c b q t) (arms-all-none xs)

abbrev pub arm_after : Spot → Option checked.TArmTrees → Option typed.TExprTree → Option checked.TStmtTrees → Option checked.TArmTrees
arm_after spot (Some arms) (Some e) (Some body) = Some (tarms_and arms e body spot)
arm_after spot _ _ _ = None

arms-on : (p : Spot) (a b : Option checked.TArmTrees) (x : Option typed.TExprTree) (y : Option checked.TStmtTrees) (r : Option checked.TArmTrees)
    → b ≡ arm_after p a x y → both arms_glue a (arm_of p x y r) ≡ both arms_glue b r
arms-on p None b x y r e = sym (ap (λ z. both arms_glue z r) e)
arms-on p (Some xs) b None y r e = sym (ap (λ z. both arms_glue z r) e)
arms-on p (Some xs) b (Some x) None r e = sym (ap (λ z. both arms_glue z r) e)
arms-on p (Some xs) b (Some x) (Some y) None e = sym (ap (λ z. both arms_glue z None) e)
arms-on p (Some xs) b (Some x) (Some y) (Some ys) e = ap Some (sym (arms-assoc xs x y p ys)) ∙ sym (ap (λ z. both arms_glue z (Some ys)) e)

-- the list with a condition and its body, where the condition was built
pub arms-next : (s : List Entry) (held : List ℕ) (ls : ArmTrees) (a b : Option Fault) (xs ys : checked.TArmTrees) (p : Spot) (x : Option typed.TExprTree)
    (body : checked.TStmtTrees) (r : Option checked.TArmTrees)
    → TypesArms s held ls a b (both arms_glue (Some xs) (arm_of p x (Some body) r)) → ((e : typed.TExprTree) → x ≡ Some e → ys ≡ tarms_and xs e body p)
    → TypesArms s held ls a b (both arms_glue (Some ys) r)
arms-next s held ls a b xs ys p None body r h add = record {
  notes = h.notes;
  gives = λ n. absurd (faultless a b _ h.notes n (no-arms s held ls (sym (h.gives n))));
}
arms-next s held ls a b xs ys p (Some e) body r h add = record {
  notes = h.notes;
  gives = λ n. sym (arms-on p (Some xs) (Some ys) (Some e) (Some body) r (ap Some (add e refl))) ∙ h.gives n;
}

pub arms-end : (a : Option checked.TArmTrees) → both arms_glue a (Some checked.no_tarms) ≡ a
arms-end None = refl
arms-end (Some xs) = ap Some (arms-all-none xs)

abbrev branches_all : checked.TBranchTrees → checked.TBranchTrees → checked.TBranchTrees
branches_all checked.no_tbranches ys = ys
branches_all (checked.and_tbranch ls body xs) ys = checked.and_tbranch ls body (branches_all xs ys)

abbrev pub branches_glue : checked.TBranchTrees → checked.TBranchTrees → Option checked.TBranchTrees
branches_glue xs ys = Some (branches_all xs ys)

pub more-branches : (s : List Entry) (held : List ℕ) (t : Option Ty) (ls : List LabelTree) (body : StmtTrees) (rest : BranchTrees) (a b c d : Option Fault)
    (x : Option (List TLabel)) (y : Option checked.TStmtTrees) (z : Option checked.TBranchTrees)
    → TypesLabels s t ls a b x → TypesStmts s held body b c y → TypesBranches s held t rest c d z
    → TypesBranches s held t (and_branch ls body rest) a d (branch_of x y z)
more-branches s held t ls body rest a b c d x y z h k l = record {
  notes = pair a b d _ _ h.notes (pair b c d _ _ k.notes l.notes);
  gives = λ e i. branch_of (h.gives i) (k.gives (earlier c d _ l.notes e) i) (l.gives e i);
}

pub no-more-branches : (s : List Entry) (held : List ℕ) (t : Option Ty) (a : Option Fault) → TypesBranches s held t no_branches a a (Some checked.no_tbranches)
no-more-branches s held t a = record { notes = quiet a (BranchesFault s held t no_branches) (λ f h. h); gives = λ _. refl }

branches-assoc : (xs : checked.TBranchTrees) (ls : List TLabel) (body : checked.TStmtTrees) (ys : checked.TBranchTrees)
    → branches_all (tbranches_and xs ls body) ys ≡ branches_all xs (checked.and_tbranch ls body ys)
branches-assoc checked.no_tbranches ls body ys = refl
branches-assoc (checked.and_tbranch c b xs) ls body ys = ap (λ (t : checked.TBranchTrees). checked.and_tbranch c b t) (branches-assoc xs ls body ys)

branches-all-none : (xs : checked.TBranchTrees) → branches_all xs checked.no_tbranches ≡ xs
branches-all-none checked.no_tbranches = refl
branches-all-none (checked.and_tbranch c b xs) = ap (λ (t : checked.TBranchTrees). checked.and_tbranch c b t) (branches-all-none xs)

pub branches-on : (a b : Option checked.TBranchTrees) (x : Option (List TLabel)) (y : Option checked.TStmtTrees) (r : Option checked.TBranchTrees)
    → b ≡ branch_after a x y → both branches_glue a (branch_of x y r) ≡ both branches_glue b r
branches-on None b x y r e = sym (ap (λ z. both branches_glue z r) e)
branches-on (Some xs) b None y r e = sym (ap (λ z. both branches_glue z r) e)
branches-on (Some xs) b (Some x) None r e = sym (ap (λ z. both branches_glue z r) e)
branches-on (Some xs) b (Some x) (Some y) None e = sym (ap (λ z. both branches_glue z None) e)
branches-on (Some xs) b (Some x) (Some y) (Some ys) e = ap Some (sym (branches-assoc xs x y ys)) ∙ sym (ap (λ z. both branches_glue z (Some ys)) e)

pub branches-end : (a : Option checked.TBranchTrees) → both branches_glue a (Some checked.no_tbranches) ≡ a
branches-end None = refl
branches-end (Some xs) = ap Some (branches-all-none xs)

-- ---- ELSE

pub no-else : (s : List Entry) (held : List ℕ) (a : Option Fault) → TypesOther s held no_other a a (Some checked.no_tother)
no-else s held a = record { notes = quiet a (OtherFault s held no_other) (λ f h. h); gives = λ _. refl }

pub some-else : (s : List Entry) (held : List ℕ) (body : StmtTrees) (a b : Option Fault) (y : Option checked.TStmtTrees) (r : Option checked.TOtherTree)
    → TypesStmts s held body a b y → r ≡ option_map (λ x. checked.tother x) y → TypesOther s held (other body) a b r
some-else s held body a b y r h is = record {
  notes = h.notes;
  gives = λ n. is ∙ ap (option_map (λ x. checked.tother x)) (h.gives n);
}

-- ---- values

-- a step isn't 0
pub step-some : (k o : Option ℤ) → o ≡ option_and_then not_zero k → IfSome o (λ v. v ≢ pos 0)
step-some k o e = subst (λ x. IfSome x (λ v. v ≢ pos 0)) (sym e) (not-zero-made k)
