-- ExprLaws: an expression has a type, and a checked expression of that type, exactly where it has no fault.
use Rattle.std.proofs.Common.{◌≡◌, neg_ℤ, ◌⊎◌, inl, inr, List, [], ◌∷◌, map, Option, Some, None, option_map, option_and_then, IfSome, refl, sym, ap, ap₂, ◌∙◌}
use Rattle.std.proofs.Common.{Bool, true, false, cond}
use Rattle.vcp_base.specs.declared.spot.Spot.{Spot}
use Rattle.vcp_base.specs.declared.ty.Ty.{Ty}
use Rattle.vcp_base.specs.declared.ty.Ty.TheVariants as ty
use Rattle.vcp_base.specs.Types.{within}
use Rattle.st_tree.specs.declared.expr.UnOp.{UnOp}
use Rattle.st_tree.specs.declared.expr.BinOp.{BinOp}
use Rattle.st_tree.specs.declared.program.Section.{Section}
use Rattle.st_tree.specs.declared.program.Section.TheVariants as section
use Rattle.st_tree.specs.ExprTree.{ExprTree, ExprTrees, literal, name, unary, binary, call, no_exprs, and_expr}
use Rattle.vcp_typed.specs.declared.expr.Fun.{Fun}
use Rattle.vcp_typed.specs.declared.expr.Fun.TheVariants as fun
use Rattle.vcp_typed.specs.Rules.{joined, common, result, signed, of_numbers, arguments}
use Rattle.vcp_typed.specs.TExprTree as typed
use Rattle.vcp_typed.specs.Checked.{ty_of}
use Rattle.st_types.specs.declared.fault.Fault.{Fault}
use Rattle.st_types.specs.declared.fault.Rule.TheVariants as rule
use Rattle.st_types.specs.Faults.{fault}
use Rattle.st_types.specs.Scope.{Entry, find}
use Rattle.st_types.specs.ExprTyping.{both, sized, literal_type, Untyped, negated, count, called, of_sel, of_one, of_two, of_three, function_type, sign_type}
use Rattle.st_types.specs.ExprTyping.{type_of, types_of, Clashes, SignFault, CallFault, ExprFault, ExprsFault, got, widened, widened_all, sign_of, operation_of}
use Rattle.st_types.specs.ExprTyping.{call_of, expr_of, exprs_of}

-- ---- options

pub none-some : {A : Type 0} (x : A) → None ≡ Some x → ⊥
none-some x e = cc

pub some-none : {A : Type 0} (x : A) → Some x ≡ None → ⊥
some-none x e = cc

abbrev value_or : {A : Type 0} → A → Option A → A
value_or d None = d
value_or d (Some x) = x

pub same-value : {A : Type 0} (x y : A) → Some x ≡ Some y → x ≡ y
same-value x y e = ap (value_or x) e

map-same : {A B C : Type 0} (f : B → C) (g : A → B) (h : A → C) → ((x : A) → f (g x) ≡ h x) → (o : Option A) → option_map f (option_map g o) ≡ option_map h o
map-same f g h is None = refl
map-same f g h is (Some x) = ap Some (is x)

map-back : {A B : Type 0} (f : B → A) (g : A → B) → ((x : A) → f (g x) ≡ x) → (o : Option A) → option_map f (option_map g o) ≡ o
map-back f g is None = refl
map-back f g is (Some x) = ap Some (is x)

pub map-none : {A B : Type 0} (f : A → B) (o : Option A) → option_map f o ≡ None → o ≡ None
map-none f None e = refl
map-none f (Some x) e = absurd (some-none (f x) e)

-- ---- the types that functions take

-- each type is taken where the one beside it is wanted
abbrev pub AllTaken : List Ty → List Ty → Type 0
AllTaken [] [] = Unit {0}
AllTaken [] (t ∷ ts) = ⊥
AllTaken (u ∷ us) [] = ⊥
AllTaken (u ∷ us) (t ∷ ts) = (within u t ≡ true) × AllTaken us ts

-- a function with a value of type t has arguments for which values of these types are taken
abbrev pub Takes : Fun → List Ty → Ty → Type 0
Takes f us t = (ts : List Ty) × (arguments f t ≡ Some ts) × AllTaken us ts

-- a type of numbers, which two types widen to
abbrev Joins : Ty → Ty → Ty → Type 0
Joins a b t = (within a t ≡ true) × (within b t ≡ true) × ((ts : List Ty) → of_numbers ts t ≡ Some ts)

joins : (a b : Ty) → IfSome (joined a b) (Joins a b)
joins ty.Bool b = tt
joins ty.Int ty.Bool = tt
joins ty.Int ty.Int = (refl, refl, λ ts. refl)
joins ty.Int ty.Dint = (refl, refl, λ ts. refl)
joins ty.Int ty.Lint = (refl, refl, λ ts. refl)
joins ty.Dint ty.Bool = tt
joins ty.Dint ty.Int = (refl, refl, λ ts. refl)
joins ty.Dint ty.Dint = (refl, refl, λ ts. refl)
joins ty.Dint ty.Lint = (refl, refl, λ ts. refl)
joins ty.Lint ty.Bool = tt
joins ty.Lint ty.Int = (refl, refl, λ ts. refl)
joins ty.Lint ty.Dint = (refl, refl, λ ts. refl)
joins ty.Lint ty.Lint = (refl, refl, λ ts. refl)

within-on : (a t u : Ty) → within a t ≡ true → within t u ≡ true → within a u ≡ true
within-on ty.Bool ty.Bool u h k = k
within-on ty.Bool ty.Int u h k = absurd cc
within-on ty.Bool ty.Dint u h k = absurd cc
within-on ty.Bool ty.Lint u h k = absurd cc
within-on ty.Int ty.Bool u h k = absurd cc
within-on ty.Int ty.Int u h k = k
within-on ty.Int ty.Dint ty.Bool h k = absurd cc
within-on ty.Int ty.Dint ty.Int h k = refl
within-on ty.Int ty.Dint ty.Dint h k = refl
within-on ty.Int ty.Dint ty.Lint h k = refl
within-on ty.Int ty.Lint ty.Bool h k = absurd cc
within-on ty.Int ty.Lint ty.Int h k = refl
within-on ty.Int ty.Lint ty.Dint h k = refl
within-on ty.Int ty.Lint ty.Lint h k = refl
within-on ty.Dint ty.Bool u h k = absurd cc
within-on ty.Dint ty.Int u h k = absurd cc
within-on ty.Dint ty.Dint u h k = k
within-on ty.Dint ty.Lint ty.Bool h k = absurd cc
within-on ty.Dint ty.Lint ty.Int h k = absurd cc
within-on ty.Dint ty.Lint ty.Dint h k = refl
within-on ty.Dint ty.Lint ty.Lint h k = refl
within-on ty.Lint ty.Bool u h k = absurd cc
within-on ty.Lint ty.Int u h k = absurd cc
within-on ty.Lint ty.Dint u h k = absurd cc
within-on ty.Lint ty.Lint u h k = k

abs-takes : (a : Ty) (o : Option Ty) → IfSome o (Joins a a) → IfSome o (Takes fun.Abs (a ∷ []))
abs-takes a None h = tt
abs-takes a (Some t) h = (t ∷ [], h.2 (t ∷ []), (h.0, tt))

-- a conversion to t takes its source type, and one that widens to it
conversion-takes : (f : Fun) (source t a : Ty) (b : Bool) → within a source ≡ b → arguments f t ≡ Some (source ∷ [])
    → IfSome (cond b (Some t) None) (Takes f (a ∷ []))
conversion-takes f source t a false w h = tt
conversion-takes f source t a true w h = (source ∷ [], h, (w, tt))

one-takes : (f : Fun) (a : Ty) → IfSome (of_one f a) (Takes f (a ∷ []))
one-takes fun.Abs a = abs-takes a (joined a a) (joins a a)
one-takes fun.Min a = tt
one-takes fun.Max a = tt
one-takes fun.Limit a = tt
one-takes fun.Sel a = tt
one-takes fun.IntToDint a = conversion-takes fun.IntToDint ty.Int ty.Dint a (within a ty.Int) refl refl
one-takes fun.IntToLint a = conversion-takes fun.IntToLint ty.Int ty.Lint a (within a ty.Int) refl refl
one-takes fun.DintToInt a = conversion-takes fun.DintToInt ty.Dint ty.Int a (within a ty.Dint) refl refl
one-takes fun.DintToLint a = conversion-takes fun.DintToLint ty.Dint ty.Lint a (within a ty.Dint) refl refl
one-takes fun.LintToInt a = conversion-takes fun.LintToInt ty.Lint ty.Int a (within a ty.Lint) refl refl
one-takes fun.LintToDint a = conversion-takes fun.LintToDint ty.Lint ty.Dint a (within a ty.Lint) refl refl
one-takes fun.BoolToInt a = conversion-takes fun.BoolToInt ty.Bool ty.Int a (within a ty.Bool) refl refl

min-takes : (a b : Ty) (o : Option Ty) → IfSome o (Joins a b) → IfSome o (Takes fun.Min (a ∷ b ∷ []))
min-takes a b None h = tt
min-takes a b (Some t) h = (t ∷ t ∷ [], h.2 (t ∷ t ∷ []), (h.0, (h.1, tt)))

max-takes : (a b : Ty) (o : Option Ty) → IfSome o (Joins a b) → IfSome o (Takes fun.Max (a ∷ b ∷ []))
max-takes a b None h = tt
max-takes a b (Some t) h = (t ∷ t ∷ [], h.2 (t ∷ t ∷ []), (h.0, (h.1, tt)))

two-takes : (f : Fun) (a b : Ty) → IfSome (of_two f a b) (Takes f (a ∷ b ∷ []))
two-takes fun.Abs a b = tt
two-takes fun.Min a b = min-takes a b (joined a b) (joins a b)
two-takes fun.Max a b = max-takes a b (joined a b) (joins a b)
two-takes fun.Limit a b = tt
two-takes fun.Sel a b = tt
two-takes fun.IntToDint a b = tt
two-takes fun.IntToLint a b = tt
two-takes fun.DintToInt a b = tt
two-takes fun.DintToLint a b = tt
two-takes fun.LintToInt a b = tt
two-takes fun.LintToDint a b = tt
two-takes fun.BoolToInt a b = tt

limit-takes-last : (a b c t : Ty) (o : Option Ty) → Joins a b t → IfSome o (Joins t c) → IfSome o (Takes fun.Limit (a ∷ b ∷ c ∷ []))
limit-takes-last a b c t None h k = tt
limit-takes-last a b c t (Some u) h k = (u ∷ u ∷ u ∷ [], k.2 (u ∷ u ∷ u ∷ []), (within-on a t u h.0 k.0, (within-on b t u h.1 k.0, (k.1, tt))))

limit-takes : (a b c : Ty) (o : Option Ty) → IfSome o (Joins a b) → IfSome (option_and_then (λ t. joined t c) o) (Takes fun.Limit (a ∷ b ∷ c ∷ []))
limit-takes a b c None h = tt
limit-takes a b c (Some t) h = limit-takes-last a b c t (joined t c) h (joins t c)

sel-takes-both : (b c : Ty) (o : Option Ty) → IfSome o (Joins b c) → IfSome o (Takes fun.Sel (ty.Bool ∷ b ∷ c ∷ []))
sel-takes-both b c None h = tt
sel-takes-both b c (Some t) h = (ty.Bool ∷ t ∷ t ∷ [], refl, (refl, (h.0, (h.1, tt))))

sel-takes : (a b c : Ty) → IfSome (of_sel a b c) (Takes fun.Sel (a ∷ b ∷ c ∷ []))
sel-takes ty.Bool ty.Bool ty.Bool = (ty.Bool ∷ ty.Bool ∷ ty.Bool ∷ [], refl, (refl, (refl, (refl, tt))))
sel-takes ty.Bool ty.Bool ty.Int = tt
sel-takes ty.Bool ty.Bool ty.Dint = tt
sel-takes ty.Bool ty.Bool ty.Lint = tt
sel-takes ty.Bool ty.Int c = sel-takes-both ty.Int c (joined ty.Int c) (joins ty.Int c)
sel-takes ty.Bool ty.Dint c = sel-takes-both ty.Dint c (joined ty.Dint c) (joins ty.Dint c)
sel-takes ty.Bool ty.Lint c = sel-takes-both ty.Lint c (joined ty.Lint c) (joins ty.Lint c)
sel-takes ty.Int b c = tt
sel-takes ty.Dint b c = tt
sel-takes ty.Lint b c = tt

three-takes : (f : Fun) (a b c : Ty) → IfSome (of_three f a b c) (Takes f (a ∷ b ∷ c ∷ []))
three-takes fun.Abs a b c = tt
three-takes fun.Min a b c = tt
three-takes fun.Max a b c = tt
three-takes fun.Limit a b c = limit-takes a b c (joined a b) (joins a b)
three-takes fun.Sel a b c = sel-takes a b c
three-takes fun.IntToDint a b c = tt
three-takes fun.IntToLint a b c = tt
three-takes fun.DintToInt a b c = tt
three-takes fun.DintToLint a b c = tt
three-takes fun.LintToInt a b c = tt
three-takes fun.LintToDint a b c = tt
three-takes fun.BoolToInt a b c = tt

-- a function that has a value takes its arguments, widened
pub takes : (f : Fun) (us : List Ty) → IfSome (function_type f us) (Takes f us)
takes f [] = tt
takes f (a ∷ []) = one-takes f a
takes f (a ∷ b ∷ []) = two-takes f a b
takes f (a ∷ b ∷ c ∷ []) = three-takes f a b c
takes f (a ∷ b ∷ c ∷ d ∷ us) = tt

-- ---- the type of the checked expression is the type

got-type : (spot : Spot) (e : Entry) (c : Section) → ty_of (got spot e c) ≡ e.ty
got-type spot e section.Constant = refl
got-type spot e section.Input = refl
got-type spot e section.Output = refl
got-type spot e section.Local = refl
got-type spot e section.Retain = refl

sign-is : (op : UnOp) (l : Option Untyped) (spot : Spot) (a : Option typed.TExprTree)
    → option_map ty_of (sign_of op l spot a) ≡ sign_type op l (option_map ty_of a)
sign-is op (Some l) spot a = map-back ty_of (λ t. typed.literal t (neg_ℤ l.value) l.spot) (λ x. refl) (sized (neg_ℤ l.value))
sign-is op None spot None = refl
sign-is op None spot (Some x) = map-back ty_of (λ t. typed.unary op t x spot) (λ t. refl) (signed op (ty_of x))

operation-is : (op : BinOp) (spot : Spot) (a b : Option typed.TExprTree)
    → option_map ty_of (both (operation_of op spot) a b) ≡ both (λ t u. option_map (result op) (common op t u)) (option_map ty_of a) (option_map ty_of b)
operation-is op spot None b = refl
operation-is op spot (Some a) None = refl
operation-is op spot (Some a) (Some b) =
    map-same ty_of (λ t. typed.binary op t (widened t (ty_of a) a) (widened t (ty_of b) b) spot) (result op) (λ t. refl) (common op (ty_of a) (ty_of b))

call-gives : (f : Fun) (spot : Spot) (es : List typed.TExprTree) (us : List Ty) (o : Option Ty) → IfSome o (Takes f us)
    → option_map ty_of (option_and_then (λ t. option_map (λ ts. typed.call f t (widened_all ts es) spot) (arguments f t)) o) ≡ o
call-gives f spot es us None h = refl
call-gives f spot es us (Some t) h = ap (λ a. option_map ty_of (option_map (λ ts. typed.call f t (widened_all ts es) spot) a)) h.1

call-is : (o : Option Fun) (spot : Spot) (es : Option (List typed.TExprTree))
    → option_map ty_of (option_and_then (λ f. option_and_then (call_of f spot) es) o)
    ≡ option_and_then (λ f. option_and_then (function_type f) (option_map (map ty_of) es)) o
call-is None spot es = refl
call-is (Some f) spot None = refl
call-is (Some f) spot (Some es) = call-gives f spot es (map ty_of es) (function_type f (map ty_of es)) (takes f (map ty_of es))

more-is : (a : Option typed.TExprTree) (es : Option (List typed.TExprTree))
    → option_map (map ty_of) (both (λ x xs. Some (x ∷ xs)) a es) ≡ both (λ t ts. Some (t ∷ ts)) (option_map ty_of a) (option_map (map ty_of) es)
more-is None es = refl
more-is (Some a) None = refl
more-is (Some a) (Some es) = refl

mutual
  pub typed-is : (s : List Entry) (e : ExprTree) → option_map ty_of (expr_of s e) ≡ type_of s e
  typed-is s (literal t v spot) = map-back ty_of (λ u. typed.literal u v spot) (λ u. refl) (literal_type t v)
  typed-is s (name n spot) = map-same ty_of (λ e. got spot e e.section) (λ e. e.ty) (λ e. got-type spot e e.section) (find s n)
  typed-is s (unary op a spot) = sign-is op (negated op a) spot (expr_of s a) ∙ ap (sign_type op (negated op a)) (typed-is s a)
  typed-is s (binary op a b spot) = operation-is op spot (expr_of s a) (expr_of s b)
      ∙ ap₂ (both (λ t u. option_map (result op) (common op t u))) (typed-is s a) (typed-is s b)
  typed-is s (call n es spot) = call-is (called n (count es)) spot (exprs_of s es)
      ∙ ap (λ ts. option_and_then (λ f. option_and_then (function_type f) ts) (called n (count es))) (typed-all s es)

  pub typed-all : (s : List Entry) (es : ExprTrees) → option_map (map ty_of) (exprs_of s es) ≡ types_of s es
  typed-all s no_exprs = refl
  typed-all s (and_expr e es) = more-is (expr_of s e) (exprs_of s es) ∙ ap₂ (both (λ t ts. Some (t ∷ ts))) (typed-is s e) (typed-all s es)

pub type-is : (s : List Entry) (e : ExprTree) → type_of s e ≡ option_map ty_of (expr_of s e)
type-is s e = sym (typed-is s e)

-- ---- where there is no type, there is a fault

call-none : (o : Option Fun) (ts : Option (List Ty)) (spot : Spot) (F : Fault → Type 0) → (ts ≡ None → (f : Fault) × F f)
    → option_and_then (λ f. option_and_then (function_type f) ts) o ≡ None → (f : Fault) × (F f ⊎ CallFault o ts spot f)
call-none None ts spot F h e = (fault rule.Call spot, inr refl)
call-none (Some g) None spot F h e = let k = h refl in (k.0, inl k.1)
call-none (Some g) (Some us) spot F h e = (fault rule.Mismatch spot, inr (refl, (us, refl, e)))

sign-none : (op : UnOp) (l : Option Untyped) (t : Option Ty) (spot : Spot) (F : Fault → Type 0) → (t ≡ None → (f : Fault) × F f) → sign_type op l t ≡ None
    → (f : Fault) × SignFault op l t spot F f
sign-none op (Some l) t spot F h e = (fault rule.Literal l.spot, (refl, e))
sign-none op None None spot F h e = let k = h refl in (k.0, inl k.1)
sign-none op None (Some x) spot F h e = (fault rule.Mismatch spot, inr (refl, (x, refl, e)))

operation-none : (op : BinOp) (t u : Option Ty) (spot : Spot) (F G : Fault → Type 0) → (t ≡ None → (f : Fault) × F f) → (u ≡ None → (f : Fault) × G f)
    → both (λ x y. option_map (result op) (common op x y)) t u ≡ None → (f : Fault) × (F f ⊎ (G f ⊎ ((f ≡ fault rule.Mismatch spot) × Clashes op t u)))
operation-none op None u spot F G h k e = let g = h refl in (g.0, inl g.1)
operation-none op (Some x) None spot F G h k e = let g = k refl in (g.0, inr (inl g.1))
operation-none op (Some x) (Some y) spot F G h k e = (fault rule.Mismatch spot, inr (inr (refl, (x, y, refl, refl, map-none (result op) (common op x y) e))))

-- where a pair of parts has no value, one of them has a fault
pub pair-none : {A B C : Type 0} (c : A → B → C) (a : Option A) (b : Option B) (F G : Fault → Type 0) → (a ≡ None → (f : Fault) × F f)
    → (b ≡ None → (f : Fault) × G f) → both (λ x y. Some (c x y)) a b ≡ None → (f : Fault) × (F f ⊎ G f)
pair-none c None b F G h k e = let g = h refl in (g.0, inl g.1)
pair-none c (Some x) None F G h k e = let g = k refl in (g.0, inr g.1)
pair-none c (Some x) (Some y) F G h k e = absurd (some-none (c x y) e)

mutual
  pub no-type : (s : List Entry) (e : ExprTree) → type_of s e ≡ None → (f : Fault) × ExprFault s e f
  no-type s (literal t v spot) e = (fault rule.Literal spot, (refl, e))
  no-type s (name n spot) e = (fault rule.Unknown spot, (refl, map-none (λ x. x.ty) (find s n) e))
  no-type s (unary op a spot) e = sign-none op (negated op a) (type_of s a) spot (ExprFault s a) (no-type s a) e
  no-type s (binary op a b spot) e = operation-none op (type_of s a) (type_of s b) spot (ExprFault s a) (ExprFault s b) (no-type s a) (no-type s b) e
  no-type s (call n es spot) e = call-none (called n (count es)) (types_of s es) spot (ExprsFault s es) (no-types s es) e

  pub no-types : (s : List Entry) (es : ExprTrees) → types_of s es ≡ None → (f : Fault) × ExprsFault s es f
  no-types s no_exprs e = let none : List Ty = [] in absurd (some-none none e)
  no-types s (and_expr x xs) e = pair-none (λ t ts. t ∷ ts) (type_of s x) (types_of s xs) (ExprFault s x) (ExprsFault s xs) (no-type s x) (no-types s xs) e

-- ---- where there is a fault, there is no type

call-fault : (o : Option Fun) (ts : Option (List Ty)) (spot : Spot) (F : Fault → Type 0) (f : Fault) → (F f → ts ≡ None) → F f ⊎ CallFault o ts spot f
    → option_and_then (λ g. option_and_then (function_type g) ts) o ≡ None
call-fault None ts spot F f h e = refl
call-fault (Some g) None spot F f h e = refl
call-fault (Some g) (Some us) spot F f h (inl k) = absurd (some-none us (h k))
call-fault (Some g) (Some us) spot F f h (inr m) = ap (function_type g) (same-value us m.1.0 m.1.1) ∙ m.1.2

sign-fault : (op : UnOp) (l : Option Untyped) (t : Option Ty) (spot : Spot) (F : Fault → Type 0) (f : Fault) → (F f → t ≡ None) → SignFault op l t spot F f
    → sign_type op l t ≡ None
sign-fault op (Some l) t spot F f h e = e.1
sign-fault op None None spot F f h e = refl
sign-fault op None (Some x) spot F f h (inl k) = absurd (some-none x (h k))
sign-fault op None (Some x) spot F f h (inr m) = ap (signed op) (same-value x m.1.0 m.1.1) ∙ m.1.2

operation-fault : (op : BinOp) (t u : Option Ty) (spot : Spot) (F G : Fault → Type 0) (f : Fault) → (F f → t ≡ None) → (G f → u ≡ None)
    → F f ⊎ (G f ⊎ ((f ≡ fault rule.Mismatch spot) × Clashes op t u)) → both (λ x y. option_map (result op) (common op x y)) t u ≡ None
operation-fault op None u spot F G f h k e = refl
operation-fault op (Some x) None spot F G f h k e = refl
operation-fault op (Some x) (Some y) spot F G f h k (inl g) = absurd (some-none x (h g))
operation-fault op (Some x) (Some y) spot F G f h k (inr (inl g)) = absurd (some-none y (k g))
operation-fault op (Some x) (Some y) spot F G f h k (inr (inr m)) =
    ap (option_map (result op)) (ap₂ (common op) (same-value x m.1.0 m.1.2) (same-value y m.1.1 m.1.3) ∙ m.1.4)

-- where one of a pair of parts has no value, the pair has none
pub pair-fault : {A B C : Type 0} (c : A → B → C) (a : Option A) (b : Option B) (F G : Fault → Type 0) (f : Fault) → (F f → a ≡ None) → (G f → b ≡ None)
    → F f ⊎ G f → both (λ x y. Some (c x y)) a b ≡ None
pair-fault c None b F G f h k e = refl
pair-fault c (Some x) None F G f h k e = refl
pair-fault c (Some x) (Some y) F G f h k (inl g) = absurd (some-none x (h g))
pair-fault c (Some x) (Some y) F G f h k (inr g) = absurd (some-none y (k g))

mutual
  pub fault-no-type : (s : List Entry) (e : ExprTree) (f : Fault) → ExprFault s e f → type_of s e ≡ None
  fault-no-type s (literal t v spot) f h = h.1
  fault-no-type s (name n spot) f h = ap (option_map (λ e. e.ty)) h.1
  fault-no-type s (unary op a spot) f h = sign-fault op (negated op a) (type_of s a) spot (ExprFault s a) f (fault-no-type s a f) h
  fault-no-type s (binary op a b spot) f h =
      operation-fault op (type_of s a) (type_of s b) spot (ExprFault s a) (ExprFault s b) f (fault-no-type s a f) (fault-no-type s b f) h
  fault-no-type s (call n es spot) f h = call-fault (called n (count es)) (types_of s es) spot (ExprsFault s es) f (fault-no-types s es f) h

  pub fault-no-types : (s : List Entry) (es : ExprTrees) (f : Fault) → ExprsFault s es f → types_of s es ≡ None
  fault-no-types s no_exprs f h = absurd h
  fault-no-types s (and_expr x xs) f h =
      pair-fault (λ t ts. t ∷ ts) (type_of s x) (types_of s xs) (ExprFault s x) (ExprsFault s xs) f (fault-no-type s x f) (fault-no-types s xs f) h

-- ---- the same of the checked expression

pub no-expr : (s : List Entry) (e : ExprTree) → expr_of s e ≡ None → (f : Fault) × ExprFault s e f
no-expr s e h = no-type s e (type-is s e ∙ ap (option_map ty_of) h)

pub fault-no-expr : (s : List Entry) (e : ExprTree) (f : Fault) → ExprFault s e f → expr_of s e ≡ None
fault-no-expr s e f h = map-none ty_of (expr_of s e) (typed-is s e ∙ fault-no-type s e f h)
