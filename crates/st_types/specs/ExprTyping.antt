-- ExprTyping: the types of expressions, their faults, and the checked expressions of those without one.
use Rattle.std.specs.Prelude.{◌≡◌, ◌⊎◌, ℕ, suc, ◌==◌, ℤ, neg_ℤ, cond, List, [], ◌∷◌, Option, Some, None, option_map, option_and_then, map, codes}
use Rattle.std.specs.Str.{str_eq_ignore_ascii_case}
use Rattle.vcp_base.specs.declared.spot.Spot.{Spot}
use Rattle.vcp_base.specs.declared.ty.Ty.{Ty}
use Rattle.vcp_base.specs.declared.ty.Ty.TheVariants as ty
use Rattle.vcp_base.specs.Types.{fits, within}
use Rattle.st_tree.specs.declared.expr.UnOp.{UnOp}
use Rattle.st_tree.specs.declared.expr.UnOp.TheVariants as un
use Rattle.st_tree.specs.declared.expr.BinOp.{BinOp}
use Rattle.st_tree.specs.declared.program.Section.{Section}
use Rattle.st_tree.specs.declared.program.Section.TheVariants as section
use Rattle.st_tree.specs.ExprTree.{ExprTree, ExprTrees, literal, name, unary, binary, call, no_exprs, and_expr}
use Rattle.vcp_typed.specs.declared.expr.Fun.{Fun}
use Rattle.vcp_typed.specs.declared.expr.Fun.TheVariants as fun
use Rattle.vcp_typed.specs.Rules.{widens, joined, joined_or_bool, common, result, signed, conversion, arguments}
use Rattle.vcp_typed.specs.TExprTree as typed
use Rattle.vcp_typed.specs.Checked.{ty_of}
pub use Rattle.st_types.specs.declared.literal.Untyped.{Untyped}
use Rattle.st_types.specs.declared.fault.Fault.{Fault}
use Rattle.st_types.specs.declared.fault.Rule.TheVariants as rule
use Rattle.st_types.specs.Faults.{fault}
use Rattle.st_types.specs.Scope.{Entry, find}

abbrev pub both : {A B C : Type 0} → (A → B → Option C) → Option A → Option B → Option C
both f None y = None
both f (Some x) None = None
both f (Some x) (Some y) = f x y

-- ---- literals

-- the least type of numbers that a value is in
abbrev pub sized : ℤ → Option Ty
sized v = cond (fits ty.Int v) (Some ty.Int) (cond (fits ty.Dint v) (Some ty.Dint) (cond (fits ty.Lint v) (Some ty.Lint) None))

-- the type of a literal: as it is written, or by its value; none where it is outside
abbrev pub literal_type : Option Ty → ℤ → Option Ty
literal_type None v = sized v
literal_type (Some t) v = cond (fits t v) (Some t) None

-- the literal without a type directly behind a `-`: the two are one literal
abbrev pub negated : UnOp → ExprTree → Option Untyped
negated un.Neg (literal None v spot) = Some (record { value = v; spot = spot })
negated un.Neg (literal (Some t) v spot) = None
negated un.Neg (name n spot) = None
negated un.Neg (unary op a spot) = None
negated un.Neg (binary op a b spot) = None
negated un.Neg (call n es spot) = None
negated un.Not e = None

-- ---- functions

abbrev pub is_called : List ℕ → List ℕ → Fun → Option Fun → Option Fun
is_called n word f rest = cond (str_eq_ignore_ascii_case n word) (Some f) rest

-- a conversion
abbrev pub conversion_named : List ℕ → Option Fun
conversion_named n =
    is_called n (codes "INT_TO_DINT") fun.IntToDint
    (is_called n (codes "INT_TO_LINT") fun.IntToLint
    (is_called n (codes "DINT_TO_INT") fun.DintToInt
    (is_called n (codes "DINT_TO_LINT") fun.DintToLint
    (is_called n (codes "LINT_TO_INT") fun.LintToInt
    (is_called n (codes "LINT_TO_DINT") fun.LintToDint
    (is_called n (codes "BOOL_TO_INT") fun.BoolToInt
    None))))))

-- the function of a name
abbrev pub function : List ℕ → Option Fun
function n =
    is_called n (codes "ABS") fun.Abs
    (is_called n (codes "MIN") fun.Min
    (is_called n (codes "MAX") fun.Max
    (is_called n (codes "LIMIT") fun.Limit
    (is_called n (codes "SEL") fun.Sel
    (conversion_named n)))))

-- how many arguments a function has
abbrev pub arity : Fun → ℕ
arity fun.Abs = 1
arity fun.Min = 2
arity fun.Max = 2
arity fun.Limit = 3
arity fun.Sel = 3
arity fun.IntToDint = 1
arity fun.IntToLint = 1
arity fun.DintToInt = 1
arity fun.DintToLint = 1
arity fun.LintToInt = 1
arity fun.LintToDint = 1
arity fun.BoolToInt = 1

abbrev pub count : ExprTrees → ℕ
count no_exprs = 0
count (and_expr e es) = suc (count es)

-- the function of a call, with the right number of arguments
abbrev pub called : List ℕ → ℕ → Option Fun
called n k = option_and_then (λ f. cond (k == arity f) (Some f) None) (function n)

-- the type t of a conversion from the type `source`, of an argument of type a: it takes its source type, and one that widens to it
abbrev pub converted : Ty → Ty → Ty → Option Ty
converted source t a = cond (within a source) (Some t) None

-- the type of SEL, whose first argument is BOOL
abbrev pub of_sel : Ty → Ty → Ty → Option Ty
of_sel ty.Bool a b = joined_or_bool a b
of_sel ty.Int a b = None
of_sel ty.Dint a b = None
of_sel ty.Lint a b = None

-- the type of a function of one, two or three arguments of these types
abbrev pub of_one : Fun → Ty → Option Ty
of_one fun.Abs a = joined a a
of_one f a = option_and_then (λ types. converted types.0 types.1 a) (conversion f)

abbrev pub of_two : Fun → Ty → Ty → Option Ty
of_two fun.Min a b = joined a b
of_two fun.Max a b = joined a b
of_two _ a b = None

abbrev pub of_three : Fun → Ty → Ty → Ty → Option Ty
of_three fun.Limit a b c = option_and_then (λ t. joined t c) (joined a b)
of_three fun.Sel a b c = of_sel a b c
of_three _ a b c = None

-- the type of a function's value, where it takes arguments of these types
abbrev pub function_type : Fun → List Ty → Option Ty
function_type f (a ∷ []) = of_one f a
function_type f (a ∷ b ∷ []) = of_two f a b
function_type f (a ∷ b ∷ c ∷ []) = of_three f a b c
function_type f _ = None

-- ---- types

abbrev pub sign_type : UnOp → Option Untyped → Option Ty → Option Ty
sign_type op (Some l) t = sized (neg_ℤ l.value)
sign_type op None t = option_and_then (signed op) t

-- the type of an expression; none where it has a fault
abbrev mutual
  pub type_of : List Entry → ExprTree → Option Ty
  type_of s (literal t v spot) = literal_type t v
  type_of s (name n spot) = option_map (λ e. e.ty) (find s n)
  type_of s (unary op a spot) = sign_type op (negated op a) (type_of s a)
  type_of s (binary op a b spot) = both (λ t u. option_map (result op) (common op t u)) (type_of s a) (type_of s b)
  type_of s (call n es spot) = option_and_then (λ f. option_and_then (function_type f) (types_of s es)) (called n (count es))

  pub types_of : List Entry → ExprTrees → Option (List Ty)
  types_of s no_exprs = Some []
  types_of s (and_expr e es) = both (λ t ts. Some (t ∷ ts)) (type_of s e) (types_of s es)

-- ---- faults

-- an operator that doesn't take an operand of this type; where the operand has a fault, there is none of the operator's own
abbrev pub Clash : UnOp → Option Ty → Type 0
Clash op t = (x : Ty) × (t ≡ Some x) × (signed op x ≡ None)

abbrev pub Clashes : BinOp → Option Ty → Option Ty → Type 0
Clashes op t u = (x y : Ty) × (t ≡ Some x) × (u ≡ Some y) × (common op x y ≡ None)

abbrev pub Misfits : Fun → Option (List Ty) → Type 0
Misfits f ts = (us : List Ty) × (ts ≡ Some us) × (function_type f us ≡ None)

abbrev pub SignFault : UnOp → Option Untyped → Option Ty → Spot → (Fault → Type 0) → Fault → Type 0
SignFault op (Some l) t spot F f = (f ≡ fault rule.Literal l.spot) × (sized (neg_ℤ l.value) ≡ None)
SignFault op None t spot F f = F f ⊎ ((f ≡ fault rule.Mismatch spot) × Clash op t)

abbrev pub CallFault : Option Fun → Option (List Ty) → Spot → Fault → Type 0
CallFault None ts spot f = f ≡ fault rule.Call spot
CallFault (Some g) ts spot f = (f ≡ fault rule.Mismatch spot) × Misfits g ts

-- f is a fault of the expression
abbrev mutual
  pub ExprFault : List Entry → ExprTree → Fault → Type 0
  ExprFault s (literal t v spot) f = (f ≡ fault rule.Literal spot) × (literal_type t v ≡ None)
  ExprFault s (name n spot) f = (f ≡ fault rule.Unknown spot) × (find s n ≡ None)
  ExprFault s (unary op a spot) f = SignFault op (negated op a) (type_of s a) spot (ExprFault s a) f
  ExprFault s (binary op a b spot) f =
      ExprFault s a f ⊎ (ExprFault s b f ⊎ ((f ≡ fault rule.Mismatch spot) × Clashes op (type_of s a) (type_of s b)))
  ExprFault s (call n es spot) f = ExprsFault s es f ⊎ CallFault (called n (count es)) (types_of s es) spot f

  pub ExprsFault : List Entry → ExprTrees → Fault → Type 0
  ExprsFault s no_exprs f = ⊥
  ExprsFault s (and_expr e es) f = ExprFault s e f ⊎ ExprsFault s es f

-- ---- checked expressions

-- what a name means: a constant by its value at the place of its use, and a variable by its slot
abbrev pub got : Spot → Entry → Section → typed.TExprTree
got spot e section.Constant = typed.literal e.ty e.value spot
got spot e section.Input = typed.get e.slot e.ty
got spot e section.Output = typed.get e.slot e.ty
got spot e section.Local = typed.get e.slot e.ty
got spot e section.Retain = typed.get e.slot e.ty

-- an expression as one of the wider type t; a literal becomes one of that type
abbrev pub as_type : Ty → typed.TExprTree → typed.TExprTree
as_type t (typed.literal u v spot) = typed.literal t v spot
as_type t a = typed.widen t a

-- the expression, of type u, where one of type t is wanted: widened where u widens to it
abbrev pub widened : Ty → Ty → typed.TExprTree → typed.TExprTree
widened t u a = cond (widens u t) (as_type t a) a

-- each argument widened to the type that is wanted of it
abbrev pub widened_all : List Ty → List typed.TExprTree → typed.TExprTrees
widened_all [] es = typed.no_texprs
widened_all (t ∷ ts) [] = typed.no_texprs
widened_all (t ∷ ts) (e ∷ es) = typed.and_texpr (widened t (ty_of e) e) (widened_all ts es)

abbrev pub sign_of : UnOp → Option Untyped → Spot → Option typed.TExprTree → Option typed.TExprTree
sign_of op (Some l) spot a = option_map (λ t. typed.literal t (neg_ℤ l.value) l.spot) (sized (neg_ℤ l.value))
sign_of op None spot a = option_and_then (λ x. option_map (λ t. typed.unary op t x spot) (signed op (ty_of x))) a

abbrev pub operation_of : BinOp → Spot → typed.TExprTree → typed.TExprTree → Option typed.TExprTree
operation_of op spot a b =
    option_map (λ t. typed.binary op t (widened t (ty_of a) a) (widened t (ty_of b) b) spot) (common op (ty_of a) (ty_of b))

abbrev pub call_of : Fun → Spot → List typed.TExprTree → Option typed.TExprTree
call_of f spot es =
    option_and_then (λ t. option_map (λ ts. typed.call f t (widened_all ts es) spot) (arguments f t)) (function_type f (map ty_of es))

-- the checked expression; none where it has a fault
abbrev mutual
  pub expr_of : List Entry → ExprTree → Option typed.TExprTree
  expr_of s (literal t v spot) = option_map (λ u. typed.literal u v spot) (literal_type t v)
  expr_of s (name n spot) = option_map (λ e. got spot e e.section) (find s n)
  expr_of s (unary op a spot) = sign_of op (negated op a) spot (expr_of s a)
  expr_of s (binary op a b spot) = both (operation_of op spot) (expr_of s a) (expr_of s b)
  expr_of s (call n es spot) = option_and_then (λ f. option_and_then (call_of f spot) (exprs_of s es)) (called n (count es))

  pub exprs_of : List Entry → ExprTrees → Option (List typed.TExprTree)
  exprs_of s no_exprs = Some []
  exprs_of s (and_expr e es) = both (λ x xs. Some (x ∷ xs)) (expr_of s e) (exprs_of s es)
