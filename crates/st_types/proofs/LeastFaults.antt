-- LeastFaults: whatever is typed has a least fault, or none.
use Rattle.std.proofs.Common.{option_and_then, ◌≡◌, ◌⊎◌, inl, inr, ℕ, ◌<◌, ◌≤◌, ℤ, neg_ℤ, Bool, true, false, List, [], ◌∷◌, Option, Some, None, refl, sym, ap₂}
use Rattle.std.proofs.Common.{◌∙◌, subst, arith, true≢false}
use Rattle.std.specs.Prelude.{nat_lt}
use Rattle.std.proofs.lemmas.Bool.Decides.{nat_tests}
use Rattle.vcp_base.specs.declared.spot.Spot.{Spot}
use Rattle.vcp_base.specs.declared.ty.Ty.{Ty}
use Rattle.vcp_base.specs.Types.{is_bool, within}
use Rattle.st_tree.specs.declared.expr.UnOp.{UnOp}
use Rattle.st_tree.specs.declared.expr.BinOp.{BinOp}
use Rattle.st_tree.specs.declared.program.Section.{Section}
use Rattle.st_tree.specs.ExprTree.{ExprTree, ExprTrees, literal, name, unary, binary, call, no_exprs, and_expr}
use Rattle.st_tree.specs.StmtTree.{LabelTree, StmtTree, StmtTrees, ArmTrees, BranchTrees, OtherTree, assign, if_, case, for_, no_stmts, and_stmt, no_arms}
use Rattle.st_tree.specs.StmtTree.{and_arm, no_branches, and_branch, no_other, other}
use Rattle.st_tree.specs.ProgramTree.{DeclaredTree, DeclTree, BlockTree, ProgramTree}
use Rattle.vcp_typed.specs.declared.expr.Fun.{Fun}
use Rattle.vcp_typed.specs.Rules.{common, signed}
use Rattle.st_types.specs.declared.fault.Fault.{Fault}
use Rattle.st_types.specs.declared.fault.Rule.TheVariants as rule
use Rattle.st_types.specs.Faults.{fault, number, AtMost, IsLeast}
use Rattle.st_types.specs.Scope.{Entry, find}
use Rattle.st_types.specs.ExprTyping.{sized, literal_type, Untyped, negated, called, function_type, type_of, types_of, Clash, Clashes, Misfits, SignFault}
use Rattle.st_types.specs.ExprTyping.{CallFault, ExprFault, ExprsFault}
use Rattle.st_types.specs.ExprTyping as typing
use Rattle.st_types.specs.StmtTyping.{spot_of, Known, form, form_number, not_zero, form_label, is_free, NameFault, entry_type, Narrows}
use Rattle.st_types.specs.StmtTyping.{NoTest, IsBool, BoundFault, StepFault, LastFault, LabelFault, LabelsFault, held_in, StmtFault, StmtsFault, ArmsFault}
use Rattle.st_types.specs.StmtTyping.{BranchesFault, OtherFault}
use Rattle.st_types.specs.DeclTyping.{Made, nothing_made, is_new, after_name, init_value, known_init, Misfit, NamesFault, ValueFault, InitFault, after_decl}
use Rattle.st_types.specs.DeclTyping.{DeclFault, after_decls, DeclsFault, BlocksFault}
use Rattle.st_types.specs.Typing.{made, FaultAt, IsFaultless}
use Rattle.st_types.proofs.ExprLaws.{none-some, some-none, same-value}

-- ---- the order of faults

pub most-self : (f : Fault) → AtMost f f
most-self f = inr (refl, inr (refl, omega arith))

trans-places : (a b c x y z l m n : ℕ) → (a < b) ⊎ ((a ≡ b) × ((x < y) ⊎ ((x ≡ y) × (l ≤ m)))) → (b < c) ⊎ ((b ≡ c) × ((y < z) ⊎ ((y ≡ z) × (m ≤ n))))
    → (a < c) ⊎ ((a ≡ c) × ((x < z) ⊎ ((x ≡ z) × (l ≤ n))))
trans-places a b c x y z l m n h k = grind arith

pub most-trans : (f g h : Fault) → AtMost f g → AtMost g h → AtMost f h
most-trans f g h p q = trans-places f.spot.line g.spot.line h.spot.line f.spot.col g.spot.col h.spot.col (number f.rule) (number g.rule) (number h.rule) p q

pub lesser : (a b : ℕ) → nat_lt a b ≡ true → a < b
lesser a b e = grind (arith, nat_tests)

pub not-lesser : (a b : ℕ) → nat_lt a b ≡ false → b ≤ a
not-lesser a b e = grind (arith, nat_tests)

pub both-ways : (a b : ℕ) → b ≤ a → a ≤ b → a ≡ b
both-ways a b h k = omega arith

pub less-most : (a b : ℕ) → a < b → a ≤ b
less-most a b h = omega arith

-- the order of two numbers, which computes at numerals
abbrev lesser_or : (a b : ℕ) (c : Bool) → nat_lt a b ≡ c → (a < b) ⊎ (b ≤ a)
lesser_or a b true e = inl (lesser a b e)
lesser_or a b false e = inr (not-lesser a b e)

abbrev order : (a b : ℕ) → (a < b) ⊎ ((a ≡ b) ⊎ (b < a))
order a b = elim (lesser_or a b (nat_lt a b) refl) [
  | inl h ↦ inl h
  | inr h ↦ elim (lesser_or b a (nat_lt b a) refl) [ inl k ↦ inr (inr k) | inr k ↦ inr (inl (both-ways a b h k)) ]
]

abbrev most-total : (f g : Fault) → AtMost f g ⊎ AtMost g f
most-total f g = elim (order f.spot.line g.spot.line) [
  | inl h ↦ inl (inl h)
  | inr (inr h) ↦ inr (inl h)
  | inr (inl e) ↦ elim (order f.spot.col g.spot.col) [
    | inl h ↦ inl (inr (e, inl h))
    | inr (inr h) ↦ inr (inr (sym e, inl h))
    | inr (inl d) ↦ elim (lesser_or (number f.rule) (number g.rule) (nat_lt (number f.rule) (number g.rule)) refl) [
      | inl h ↦ inl (inr (e, inr (d, less-most (number f.rule) (number g.rule) h)))
      | inr h ↦ inr (inr (sym e, inr (sym d, h)))
    ]
  ]
]

-- ---- a least fault, or none

abbrev pub Least : (Fault → Type 0) → Type 0
Least F = ((f : Fault) × IsLeast F f) ⊎ ((f : Fault) → F f → ⊥)

abbrev none-least : Least (λ f. ⊥)
none-least = inr (λ f h. h)

abbrev just-least : (c : Fault) → Least (λ f. f ≡ c)
just-least c = inl (c, (refl, λ g h. subst (AtMost c) (sym h) (most-self c)))

-- a fault that is one where P holds
abbrev where-least : (c : Fault) (P : Type 0) → P ⊎ (P → ⊥) → Least (λ f. (f ≡ c) × P)
where-least c P (inl p) = inl (c, ((refl, p), λ g h. subst (AtMost c) (sym h.0) (most-self c)))
where-least c P (inr n) = inr (λ f h. n h.1)

abbrev or-least : (F G : Fault → Type 0) → Least F → Least G → Least (λ f. F f ⊎ G f)
or-least F G (inl a) (inl b) = elim (most-total a.0 b.0) [
  | inl m ↦ inl (a.0, (inl a.1.0, λ g h. elim h [ inl x ↦ a.1.1 g x | inr y ↦ most-trans a.0 b.0 g m (b.1.1 g y) ]))
  | inr m ↦ inl (b.0, (inr b.1.0, λ g h. elim h [ inl x ↦ most-trans b.0 a.0 g m (a.1.1 g x) | inr y ↦ b.1.1 g y ]))
]
or-least F G (inl a) (inr n) = inl (a.0, (inl a.1.0, λ g h. elim h [ inl x ↦ a.1.1 g x | inr y ↦ absurd (n g y) ]))
or-least F G (inr n) (inl b) = inl (b.0, (inr b.1.0, λ g h. elim h [ inl x ↦ absurd (n g x) | inr y ↦ b.1.1 g y ]))
or-least F G (inr n) (inr m) = inr (λ f h. elim h [ inl x ↦ n f x | inr y ↦ m f y ])

-- ---- what can be told apart

abbrev none-or : {A : Type 0} (o : Option A) → (o ≡ None) ⊎ (o ≡ None → ⊥)
none-or None = inl refl
none-or (Some x) = inr (λ e. some-none x e)

abbrev false-or : (b : Bool) → (b ≡ false) ⊎ (b ≡ false → ⊥)
false-or false = inl refl
false-or true = inr (λ e. true≢false e)

abbrev true-or : (b : Bool) → (b ≡ true) ⊎ (b ≡ true → ⊥)
true-or true = inl refl
true-or false = inr (λ e. true≢false (sym e))

-- a property of what an option holds
abbrev some-or : {A : Type 0} (P : A → Type 0) (o : Option A) → ((x : A) → P x ⊎ (P x → ⊥))
    → ((x : A) × (o ≡ Some x) × P x) ⊎ ((x : A) × (o ≡ Some x) × P x → ⊥)
some-or P None h = inr (λ k. none-some k.0 k.1)
some-or P (Some x) h = elim (h x) [
  | inl p ↦ inl (x, refl, p)
  | inr n ↦ inr (λ k. n (subst P (sym (same-value x k.0 k.1)) k.2))
]

abbrev clashes-or : (op : BinOp) (t u : Option Ty) → Clashes op t u ⊎ (Clashes op t u → ⊥)
clashes-or op None u = inr (λ k. none-some k.0 k.2)
clashes-or op (Some x) None = inr (λ k. none-some k.1 k.3)
clashes-or op (Some x) (Some y) = elim (none-or (common op x y)) [
  | inl p ↦ inl (x, y, refl, refl, p)
  | inr n ↦ inr (λ k. n (ap₂ (common op) (same-value x k.0 k.2) (same-value y k.1 k.3) ∙ k.4))
]

abbrev narrows-or : (t u : Option Ty) → Narrows t u ⊎ (Narrows t u → ⊥)
narrows-or None u = inr (λ k. none-some k.0 k.2)
narrows-or (Some x) None = inr (λ k. none-some k.1 k.3)
narrows-or (Some x) (Some y) = elim (false-or (within y x)) [
  | inl p ↦ inl (x, y, refl, refl, p)
  | inr n ↦ inr (λ k. n (ap₂ within (same-value y k.1 k.3) (same-value x k.0 k.2) ∙ k.4))
]

-- ---- expressions

abbrev sign-least : (op : UnOp) (l : Option Untyped) (t : Option Ty) (spot : Spot) (F : Fault → Type 0) → Least F → Least (SignFault op l t spot F)
sign-least op (Some l) t spot F h = where-least (fault rule.Literal l.spot) (sized (neg_ℤ l.value) ≡ None) (none-or (sized (neg_ℤ l.value)))
sign-least op None t spot F h =
    or-least F (λ f. (f ≡ fault rule.Mismatch spot) × Clash op t) h
    (where-least (fault rule.Mismatch spot) (Clash op t) (some-or (λ x. signed op x ≡ None) t (λ x. none-or (signed op x))))

abbrev call-least : (o : Option Fun) (ts : Option (List Ty)) (spot : Spot) → Least (CallFault o ts spot)
call-least None ts spot = just-least (fault rule.Call spot)
call-least (Some g) ts spot =
    where-least (fault rule.Mismatch spot) (Misfits g ts) (some-or (λ us. function_type g us ≡ None) ts (λ us. none-or (function_type g us)))

abbrev mutual
  pub expr-least : (s : List Entry) (e : ExprTree) → Least (ExprFault s e)
  expr-least s (literal t v spot) = where-least (fault rule.Literal spot) (literal_type t v ≡ None) (none-or (literal_type t v))
  expr-least s (name n spot) = where-least (fault rule.Unknown spot) (find s n ≡ None) (none-or (find s n))
  expr-least s (unary op a spot) = sign-least op (negated op a) (type_of s a) spot (ExprFault s a) (expr-least s a)
  expr-least s (binary op a b spot) =
      or-least (ExprFault s a) (λ f. ExprFault s b f ⊎ ((f ≡ fault rule.Mismatch spot) × Clashes op (type_of s a) (type_of s b))) (expr-least s a)
      (or-least (ExprFault s b) (λ f. (f ≡ fault rule.Mismatch spot) × Clashes op (type_of s a) (type_of s b)) (expr-least s b)
      (where-least (fault rule.Mismatch spot) (Clashes op (type_of s a) (type_of s b)) (clashes-or op (type_of s a) (type_of s b))))
  expr-least s (call n es spot) =
      or-least (ExprsFault s es) (CallFault (called n (typing.count es)) (types_of s es) spot) (exprs-least s es)
      (call-least (called n (typing.count es)) (types_of s es) spot)

  pub exprs-least : (s : List Entry) (es : ExprTrees) → Least (ExprsFault s es)
  exprs-least s no_exprs = none-least
  exprs-least s (and_expr e es) = or-least (ExprFault s e) (ExprsFault s es) (expr-least s e) (exprs-least s es)

-- ---- statements

abbrev name-least : (held : List ℕ) (o : Option Entry) (spot : Spot) → Least (NameFault held o spot)
name-least held None spot = just-least (fault rule.Unknown spot)
name-least held (Some e) spot = where-least (fault rule.Assign spot) (is_free held e ≡ false) (false-or (is_free held e))

abbrev bool-least : (spot : Spot) (t : Option Ty) → Least (λ f. (f ≡ fault rule.Mismatch spot) × IsBool t)
bool-least spot t = where-least (fault rule.Mismatch spot) (IsBool t) (some-or (λ x. is_bool x ≡ true) t (λ x. true-or (is_bool x)))

abbrev test-least : (spot : Spot) (t : Option Ty) → Least (λ f. (f ≡ fault rule.Mismatch spot) × NoTest t)
test-least spot t = where-least (fault rule.Mismatch spot) (NoTest t) (some-or (λ x. is_bool x ≡ false) t (λ x. false-or (is_bool x)))

abbrev bound-least : (s : List Entry) (t : Option Ty) (e : ExprTree) → Least (BoundFault s t e)
bound-least s t e =
    or-least (ExprFault s e) (λ f. (f ≡ fault rule.Bound (spot_of e)) × (form_number t (form s e) ≡ None)) (expr-least s e)
    (where-least (fault rule.Bound (spot_of e)) (form_number t (form s e) ≡ None) (none-or (form_number t (form s e))))

abbrev step-least : (s : List Entry) (t : Option Ty) (by : Option ExprTree) → Least (StepFault s t by)
step-least s t None = none-least
step-least s t (Some e) =
    or-least (ExprFault s e) (λ f. (f ≡ fault rule.Bound (spot_of e)) × (option_and_then not_zero (form_number t (form s e)) ≡ None)) (expr-least s e)
    (where-least (fault rule.Bound (spot_of e)) (option_and_then not_zero (form_number t (form s e)) ≡ None)
    (none-or (option_and_then not_zero (form_number t (form s e)))))

abbrev last-least : (s : List Entry) (last : Option ExprTree) → Least (LastFault s last)
last-least s None = none-least
last-least s (Some e) = expr-least s e

abbrev label-least : (s : List Entry) (t : Option Ty) (l : LabelTree) → Least (LabelFault s t l)
label-least s t l =
    or-least (ExprFault s l.first) (λ f. LastFault s l.last f ⊎ ((f ≡ fault rule.Label (spot_of l.first)) × (form_label s t l ≡ None)))
    (expr-least s l.first)
    (or-least (LastFault s l.last) (λ f. (f ≡ fault rule.Label (spot_of l.first)) × (form_label s t l ≡ None)) (last-least s l.last)
    (where-least (fault rule.Label (spot_of l.first)) (form_label s t l ≡ None) (none-or (form_label s t l))))

abbrev labels-least : (s : List Entry) (t : Option Ty) (ls : List LabelTree) → Least (LabelsFault s t ls)
labels-least s t [] = none-least
labels-least s t (l ∷ ls) = or-least (LabelFault s t l) (LabelsFault s t ls) (label-least s t l) (labels-least s t ls)

abbrev mutual
  stmt-least : (s : List Entry) (held : List ℕ) (x : StmtTree) → Least (StmtFault s held x)
  stmt-least s held (assign n e spot) =
      or-least (NameFault held (find s n) spot) (λ f. ExprFault s e f ⊎ ((f ≡ fault rule.Mismatch spot) × Narrows (entry_type (find s n)) (type_of s e)))
      (name-least held (find s n) spot)
      (or-least (ExprFault s e) (λ f. (f ≡ fault rule.Mismatch spot) × Narrows (entry_type (find s n)) (type_of s e)) (expr-least s e)
      (where-least (fault rule.Mismatch spot) (Narrows (entry_type (find s n)) (type_of s e)) (narrows-or (entry_type (find s n)) (type_of s e))))
  stmt-least s held (if_ arms o) = or-least (ArmsFault s held arms) (OtherFault s held o) (arms-least s held arms) (other-least s held o)
  stmt-least s held (case e branches o spot) =
      or-least (ExprFault s e)
      (λ f. ((f ≡ fault rule.Mismatch spot) × IsBool (type_of s e)) ⊎ (BranchesFault s held (type_of s e) branches f ⊎ OtherFault s held o f))
      (expr-least s e)
      (or-least (λ f. (f ≡ fault rule.Mismatch spot) × IsBool (type_of s e)) (λ f. BranchesFault s held (type_of s e) branches f ⊎ OtherFault s held o f)
      (bool-least spot (type_of s e))
      (or-least (BranchesFault s held (type_of s e) branches) (OtherFault s held o) (branches-least s held (type_of s e) branches) (other-least s held o)))
  stmt-least s held (for_ n name_spot first last by body spot) =
      let t = entry_type (find s n) in
      let inner = held_in held (find s n) in
      or-least (NameFault held (find s n) name_spot)
      (λ f. ((f ≡ fault rule.Mismatch name_spot) × IsBool t)
      ⊎ (BoundFault s t first f ⊎ (BoundFault s t last f ⊎ (StepFault s t by f ⊎ StmtsFault s inner body f)))) (name-least held (find s n) name_spot)
      (or-least (λ f. (f ≡ fault rule.Mismatch name_spot) × IsBool t)
      (λ f. BoundFault s t first f ⊎ (BoundFault s t last f ⊎ (StepFault s t by f ⊎ StmtsFault s inner body f))) (bool-least name_spot t)
      (or-least (BoundFault s t first) (λ f. BoundFault s t last f ⊎ (StepFault s t by f ⊎ StmtsFault s inner body f)) (bound-least s t first)
      (or-least (BoundFault s t last) (λ f. StepFault s t by f ⊎ StmtsFault s inner body f) (bound-least s t last)
      (or-least (StepFault s t by) (StmtsFault s inner body) (step-least s t by) (stmts-least s inner body)))))

  pub stmts-least : (s : List Entry) (held : List ℕ) (xs : StmtTrees) → Least (StmtsFault s held xs)
  stmts-least s held no_stmts = none-least
  stmts-least s held (and_stmt x xs) = or-least (StmtFault s held x) (StmtsFault s held xs) (stmt-least s held x) (stmts-least s held xs)

  arms-least : (s : List Entry) (held : List ℕ) (arms : ArmTrees) → Least (ArmsFault s held arms)
  arms-least s held no_arms = none-least
  arms-least s held (and_arm e body spot arms) =
      or-least (ExprFault s e) (λ f. ((f ≡ fault rule.Mismatch spot) × NoTest (type_of s e)) ⊎ (StmtsFault s held body f ⊎ ArmsFault s held arms f))
      (expr-least s e)
      (or-least (λ f. (f ≡ fault rule.Mismatch spot) × NoTest (type_of s e)) (λ f. StmtsFault s held body f ⊎ ArmsFault s held arms f)
      (test-least spot (type_of s e))
      (or-least (StmtsFault s held body) (ArmsFault s held arms) (stmts-least s held body) (arms-least s held arms)))

  branches-least : (s : List Entry) (held : List ℕ) (t : Option Ty) (branches : BranchTrees) → Least (BranchesFault s held t branches)
  branches-least s held t no_branches = none-least
  branches-least s held t (and_branch ls body branches) =
      or-least (LabelsFault s t ls) (λ f. StmtsFault s held body f ⊎ BranchesFault s held t branches f) (labels-least s t ls)
      (or-least (StmtsFault s held body) (BranchesFault s held t branches) (stmts-least s held body) (branches-least s held t branches))

  other-least : (s : List Entry) (held : List ℕ) (o : OtherTree) → Least (OtherFault s held o)
  other-least s held no_other = none-least
  other-least s held (other body) = stmts-least s held body

-- ---- declarations

abbrev misfit-or : (x : Option Known) (t : Ty) → Misfit x t ⊎ (Misfit x t → ⊥)
misfit-or x t = some-or (λ (k : Known). within k.ty t ≡ false) x (λ k. false-or (within k.ty t))

abbrev names-least : (m : Made) (k : Section) (t : Ty) (v : ℤ) (x : Option Known) (ds : List DeclaredTree) → Least (NamesFault m k t v x ds)
names-least m k t v x [] = none-least
names-least m k t v x (d ∷ ds) =
    or-least (λ f. (f ≡ fault rule.Duplicate d.spot) × (is_new m d.name ≡ false))
    (λ f. ((f ≡ fault rule.Mismatch d.spot) × Misfit x t) ⊎ NamesFault (after_name m k t v d) k t v x ds f)
    (where-least (fault rule.Duplicate d.spot) (is_new m d.name ≡ false) (false-or (is_new m d.name)))
    (or-least (λ f. (f ≡ fault rule.Mismatch d.spot) × Misfit x t) (NamesFault (after_name m k t v d) k t v x ds)
    (where-least (fault rule.Mismatch d.spot) (Misfit x t) (misfit-or x t)) (names-least (after_name m k t v d) k t v x ds))

abbrev value-least : (all before : List Entry) (e : ExprTree) → Least (ValueFault all before e)
value-least all before e =
    or-least (ExprFault all e) (λ f. (f ≡ fault rule.Bound (spot_of e)) × (form before e ≡ None)) (expr-least all e)
    (where-least (fault rule.Bound (spot_of e)) (form before e ≡ None) (none-or (form before e)))

abbrev init-least : (all before : List Entry) (init : Option ExprTree) → Least (InitFault all before init)
init-least all before None = none-least
init-least all before (Some e) = value-least all before e

abbrev decl-least : (all : List Entry) (k : Section) (m : Made) (d : DeclTree) → Least (DeclFault all k m d)
decl-least all k m d =
    or-least (InitFault all m.entries d.init) (NamesFault m k d.ty (init_value m d.init) (known_init m d.init) d.names)
    (init-least all m.entries d.init) (names-least m k d.ty (init_value m d.init) (known_init m d.init) d.names)

abbrev decls-least : (all : List Entry) (k : Section) (m : Made) (ds : List DeclTree) → Least (DeclsFault all k m ds)
decls-least all k m [] = none-least
decls-least all k m (d ∷ ds) =
    or-least (DeclFault all k m d) (DeclsFault all k (after_decl k m d) ds) (decl-least all k m d) (decls-least all k (after_decl k m d) ds)

abbrev blocks-least : (all : List Entry) (m : Made) (bs : List BlockTree) → Least (BlocksFault all m bs)
blocks-least all m [] = none-least
blocks-least all m (b ∷ bs) =
    or-least (DeclsFault all b.section m b.decls) (BlocksFault all (after_decls b.section m b.decls) bs)
    (decls-least all b.section m b.decls) (blocks-least all (after_decls b.section m b.decls) bs)

-- a program has a least fault, or none
abbrev pub program-least : (p : ProgramTree) → Least (FaultAt p)
program-least p =
    or-least (BlocksFault (made p).entries nothing_made p.blocks) (StmtsFault (made p).entries [] p.body)
    (blocks-least (made p).entries nothing_made p.blocks) (stmts-least (made p).entries [] p.body)

-- the fault that is told, where there is one
abbrev pub fault_in : {F : Fault → Type 0} → Least F → Option Fault
fault_in (inl h) = Some h.0
fault_in (inr n) = None

told-least : (F : Fault → Type 0) (l : Least F) (f : Fault) → fault_in l ≡ Some f → IsLeast F f
told-least F (inl h) f e = subst (IsLeast F) (same-value h.0 f e) h.1
told-least F (inr n) f e = absurd (none-some f e)

told-none : (F : Fault → Type 0) (l : Least F) → fault_in l ≡ None → (f : Fault) → F f → ⊥
told-none F (inl h) e f k = absurd (some-none h.0 e)
told-none F (inr n) e f k = n f k

-- the least fault of a program, worked out
abbrev pub first_fault : ProgramTree → Option Fault
first_fault p = fault_in (program-least p)

pub first-is-least : (p : ProgramTree) (f : Fault) → first_fault p ≡ Some f → IsLeast (FaultAt p) f
first-is-least p f e = told-least (FaultAt p) (program-least p) f e

pub none-is-faultless : (p : ProgramTree) → first_fault p ≡ None → IsFaultless p
none-is-faultless p e = told-none (FaultAt p) (program-least p) e
