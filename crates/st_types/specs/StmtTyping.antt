-- StmtTyping: the faults of statements, and the checked statements of those without one.
use Rattle.std.specs.Prelude.{◌≡◌, ◌⊎◌, ℕ, ◌+◌, ◌/◌, ◌==◌, ℤ, pos, neg_ℤ, ◌-ℤ◌, int_le, int_lt, unsigned_abs, Bool, true, false, cond, not, ◌&&◌, List, [], ◌∷◌}
use Rattle.std.specs.Prelude.{◌++◌, Option, Some, None, option_map, option_and_then}
use Rattle.std.specs.List.{list_any}
use Rattle.vcp_base.specs.declared.spot.Spot.{Spot}
use Rattle.vcp_base.specs.declared.ty.Ty.{Ty}
use Rattle.vcp_base.specs.Types.{fits, is_bool, within}
use Rattle.vcp_base.specs.Kinds.{same}
use Rattle.st_tree.specs.declared.program.Section.{Section}
use Rattle.st_tree.specs.declared.program.Section.TheVariants as section
use Rattle.st_tree.specs.ExprTree.{ExprTree, literal, name, unary, binary, call}
use Rattle.st_tree.specs.StmtTree.{LabelTree, StmtTree, StmtTrees, ArmTrees, BranchTrees, OtherTree, assign, if_, case, for_, no_stmts, and_stmt, no_arms}
use Rattle.st_tree.specs.StmtTree.{and_arm, no_branches, and_branch, no_other, other}
use Rattle.vcp_typed.specs.declared.stmt.TLabel.{TLabel}
use Rattle.vcp_typed.specs.TExprTree as typed
use Rattle.vcp_typed.specs.TStmtTree as checked
use Rattle.vcp_typed.specs.Checked.{ty_of, is_set}
pub use Rattle.st_types.specs.declared.constants.Known.{Known}
pub use Rattle.st_types.specs.declared.constants.Form.{Form}
use Rattle.st_types.specs.declared.fault.Fault.{Fault}
use Rattle.st_types.specs.declared.fault.Rule.TheVariants as rule
use Rattle.st_types.specs.Faults.{fault}
use Rattle.st_types.specs.Scope.{Entry, find}
use Rattle.st_types.specs.ExprTyping.{both, Untyped, negated, type_of, ExprFault, expr_of, widened}

abbrev pub spot_of : ExprTree → Spot
spot_of (literal t v spot) = spot
spot_of (name n spot) = spot
spot_of (unary op a spot) = spot
spot_of (binary op a b spot) = spot
spot_of (call n es spot) = spot

-- ---- constants

abbrev pub is_constant : Section → Bool
is_constant section.Input = false
is_constant section.Output = false
is_constant section.Local = false
is_constant section.Retain = false
is_constant section.Constant = true

-- the form of a declared constant; a variable has none
abbrev pub form_of_entry : Entry → Option Form
form_of_entry e = cond (is_constant e.section) (Some (record { ty = Some e.ty; value = e.value })) None

abbrev pub form_of_negated : Untyped → Form
form_of_negated l = record { ty = None; value = neg_ℤ l.value }

-- A constant form is a literal, `-` before a literal without a type, or the name of a constant that is declared. It is one
-- also where the literal is outside its type. Its type is the one that is written or declared.
abbrev pub form : List Entry → ExprTree → Option Form
form s (literal t v spot) = Some (record { ty = t; value = v })
form s (name n spot) = option_and_then form_of_entry (find s n)
form s (unary op a spot) = option_map form_of_negated (negated op a)
form s (binary op a b spot) = None
form s (call n es spot) = None

abbrev pub known_form : Form → Ty → Option Known
known_form k t = Some (record { ty = t; value = k.value })

-- the constant that an expression is: a constant form without a fault, with its type
abbrev pub constant : List Entry → ExprTree → Option Known
constant s e = both known_form (form s e) (type_of s e)

-- a literal without a type is a number
abbrev pub is_form_bool : Option Ty → Bool
is_form_bool None = false
is_form_bool (Some t) = is_bool t

-- the number that a constant form is, where it is no BOOL, and is in the type where there is one
abbrev pub form_number : Option Ty → Option Form → Option ℤ
form_number t None = None
form_number None (Some k) = cond (is_form_bool k.ty) None (Some k.value)
form_number (Some t) (Some k) = cond (is_form_bool k.ty) None (cond (fits t k.value) (Some k.value) None)

-- the number of the type that an expression is, by its form; none where the expression has a fault, or there is no type
abbrev pub number_in : List Entry → Option Ty → ExprTree → Option ℤ
number_in s t e = both (λ x u. form_number (Some x) (form s e)) t (type_of s e)

-- ---- names that are set

-- the variable may be set inside FORs over the slots `held`
abbrev pub is_free : List ℕ → Entry → Bool
is_free held e = is_set e.section && not (list_any (λ n. n == e.slot) held)

-- f is a fault of a name that is set, which means this
abbrev pub NameFault : List ℕ → Option Entry → Spot → Fault → Type 0
NameFault held None spot f = f ≡ fault rule.Unknown spot
NameFault held (Some e) spot f = (f ≡ fault rule.Assign spot) × (is_free held e ≡ false)

abbrev pub entry_type : Option Entry → Option Ty
entry_type e = option_map (λ x. x.ty) e

-- a value of a type that isn't the variable's and doesn't widen to it
abbrev pub Narrows : Option Ty → Option Ty → Type 0
Narrows t u = (x y : Ty) × (t ≡ Some x) × (u ≡ Some y) × (within y x ≡ false)

-- a condition that isn't BOOL
abbrev pub NoTest : Option Ty → Type 0
NoTest t = (x : Ty) × (t ≡ Some x) × (is_bool x ≡ false)

-- a selector or control variable that is BOOL
abbrev pub IsBool : Option Ty → Type 0
IsBool t = (x : Ty) × (t ≡ Some x) × (is_bool x ≡ true)

-- ---- bounds and labels

-- f is a fault inside a bound, or that its form is no number of the control variable's type
abbrev pub BoundFault : List Entry → Option Ty → ExprTree → Fault → Type 0
BoundFault s t e f = ExprFault s e f ⊎ ((f ≡ fault rule.Bound (spot_of e)) × (form_number t (form s e) ≡ None))

abbrev pub not_zero : ℤ → Option ℤ
not_zero v = cond (same v (pos 0)) None (Some v)

abbrev pub StepFault : List Entry → Option Ty → Option ExprTree → Fault → Type 0
StepFault s t None f = ⊥
StepFault s t (Some e) f =
    ExprFault s e f ⊎ ((f ≡ fault rule.Bound (spot_of e)) × (option_and_then not_zero (form_number t (form s e)) ≡ None))

-- the label of these two ends, where they are in order
abbrev pub range_of : Spot → ℤ → ℤ → Option TLabel
range_of spot a b = cond (int_le a b) (Some (record { first = a; last = b; range = true; spot = spot })) None

-- the label of these ends, where they are numbers in order; a label of one value has no last end
abbrev pub label_ends : Spot → Option ℤ → Option (Option ℤ) → Option TLabel
label_ends spot None b = None
label_ends spot (Some a) None = Some (record { first = a; last = a; range = false; spot = spot })
label_ends spot (Some a) (Some None) = None
label_ends spot (Some a) (Some (Some b)) = range_of spot a b

-- the label that the forms of its ends are
abbrev pub form_label : List Entry → Option Ty → LabelTree → Option TLabel
form_label s t l = label_ends (spot_of l.first) (form_number t (form s l.first)) (option_map (λ e. form_number t (form s e)) l.last)

-- the checked label of a selector of this type, where it has one
abbrev pub label_of : List Entry → Option Ty → LabelTree → Option TLabel
label_of s t l = label_ends (spot_of l.first) (number_in s t l.first) (option_map (number_in s t) l.last)

abbrev pub LastFault : List Entry → Option ExprTree → Fault → Type 0
LastFault s None f = ⊥
LastFault s (Some e) f = ExprFault s e f

abbrev pub LabelFault : List Entry → Option Ty → LabelTree → Fault → Type 0
LabelFault s t l f =
    ExprFault s l.first f
    ⊎ (LastFault s l.last f
    ⊎ ((f ≡ fault rule.Label (spot_of l.first)) × (form_label s t l ≡ None)))

abbrev pub LabelsFault : List Entry → Option Ty → List LabelTree → Fault → Type 0
LabelsFault s t [] f = ⊥
LabelsFault s t (l ∷ ls) f = LabelFault s t l f ⊎ LabelsFault s t ls f

-- ---- faults

-- the FORs round the body of one over this name; a constant has no slot
abbrev pub held_in : List ℕ → Option Entry → List ℕ
held_in held None = held
held_in held (Some e) = cond (is_constant e.section) held (held ++ e.slot ∷ [])

-- f is a fault of the statement, which is inside FORs over the slots `held`
abbrev mutual
  pub StmtFault : List Entry → List ℕ → StmtTree → Fault → Type 0
  StmtFault s held (assign n e spot) f =
      NameFault held (find s n) spot f
      ⊎ (ExprFault s e f ⊎ ((f ≡ fault rule.Mismatch spot) × Narrows (entry_type (find s n)) (type_of s e)))
  StmtFault s held (if_ arms o) f = ArmsFault s held arms f ⊎ OtherFault s held o f
  StmtFault s held (case e branches o spot) f =
      ExprFault s e f
      ⊎ (((f ≡ fault rule.Mismatch spot) × IsBool (type_of s e))
      ⊎ (BranchesFault s held (type_of s e) branches f ⊎ OtherFault s held o f))
  StmtFault s held (for_ n name_spot first last by body spot) f =
      NameFault held (find s n) name_spot f
      ⊎ (((f ≡ fault rule.Mismatch name_spot) × IsBool (entry_type (find s n)))
      ⊎ (BoundFault s (entry_type (find s n)) first f
      ⊎ (BoundFault s (entry_type (find s n)) last f
      ⊎ (StepFault s (entry_type (find s n)) by f
      ⊎ StmtsFault s (held_in held (find s n)) body f))))

  pub StmtsFault : List Entry → List ℕ → StmtTrees → Fault → Type 0
  StmtsFault s held no_stmts f = ⊥
  StmtsFault s held (and_stmt x xs) f = StmtFault s held x f ⊎ StmtsFault s held xs f

  pub ArmsFault : List Entry → List ℕ → ArmTrees → Fault → Type 0
  ArmsFault s held no_arms f = ⊥
  ArmsFault s held (and_arm e body spot arms) f =
      ExprFault s e f
      ⊎ (((f ≡ fault rule.Mismatch spot) × NoTest (type_of s e)) ⊎ (StmtsFault s held body f ⊎ ArmsFault s held arms f))

  pub BranchesFault : List Entry → List ℕ → Option Ty → BranchTrees → Fault → Type 0
  BranchesFault s held t no_branches f = ⊥
  BranchesFault s held t (and_branch ls body branches) f =
      LabelsFault s t ls f ⊎ (StmtsFault s held body f ⊎ BranchesFault s held t branches f)

  pub OtherFault : List Entry → List ℕ → OtherTree → Fault → Type 0
  OtherFault s held no_other f = ⊥
  OtherFault s held (other body) f = StmtsFault s held body f

-- ---- checked statements

abbrev pub assign_of : List ℕ → Spot → Entry → typed.TExprTree → Option checked.TStmtTree
assign_of held spot e v =
    cond (is_free held e && within (ty_of v) e.ty) (Some (checked.assign e.slot (widened e.ty (ty_of v) v) spot)) None

-- a condition
abbrev pub test_of : typed.TExprTree → Option typed.TExprTree
test_of e = cond (is_bool (ty_of e)) (Some e) None

-- a selector
abbrev pub selector_of : typed.TExprTree → Option typed.TExprTree
selector_of e = cond (is_bool (ty_of e)) None (Some e)

-- a FOR with these bounds has a first turn
abbrev pub begins : ℤ → ℤ → ℤ → Bool
begins first last by = cond (int_lt (pos 0) by) (int_le first last) (int_le last first)

-- how many values a FOR takes: first, first + by and so on, while they aren't past the last bound
abbrev pub turns_of : ℤ → ℤ → ℤ → ℕ
turns_of first last by = cond (begins first last by) (unsigned_abs (last -ℤ first) / unsigned_abs by + 1) 0

-- the step, 1 where none is given
abbrev pub step_of : List Entry → Option Ty → Option ExprTree → Option ℤ
step_of s t None = Some (pos 1)
step_of s t (Some e) = option_and_then not_zero (number_in s t e)

abbrev pub for_of : List ℕ → Spot → Option Entry → Option ℤ → Option ℤ → Option ℤ → Option checked.TStmtTrees → Option checked.TStmtTree
for_of held spot (Some e) (Some first) (Some last) (Some by) (Some body) =
    cond (is_free held e && not (is_bool e.ty)) (Some (checked.for_ e.slot first by (turns_of first last by) body spot)) None
for_of held spot _ _ _ _ _ = None

abbrev pub arm_of : Spot → Option typed.TExprTree → Option checked.TStmtTrees → Option checked.TArmTrees → Option checked.TArmTrees
arm_of spot (Some e) (Some body) (Some arms) = Some (checked.and_tarm e body spot arms)
arm_of spot _ _ _ = None

abbrev pub branch_of : Option (List TLabel) → Option checked.TStmtTrees → Option checked.TBranchTrees → Option checked.TBranchTrees
branch_of (Some ls) (Some body) (Some branches) = Some (checked.and_tbranch ls body branches)
branch_of _ _ _ = None

abbrev pub case_of : Spot → Option typed.TExprTree → Option checked.TBranchTrees → Option checked.TOtherTree → Option checked.TStmtTree
case_of spot (Some e) (Some branches) (Some o) = Some (checked.case e branches o spot)
case_of spot _ _ _ = None

abbrev pub labels_of : List Entry → Option Ty → List LabelTree → Option (List TLabel)
labels_of s t [] = Some []
labels_of s t (l ∷ ls) = both (λ x xs. Some (x ∷ xs)) (label_of s t l) (labels_of s t ls)

-- the checked statement; none where it has a fault
abbrev mutual
  pub stmt_of : List Entry → List ℕ → StmtTree → Option checked.TStmtTree
  stmt_of s held (assign n e spot) = both (assign_of held spot) (find s n) (expr_of s e)
  stmt_of s held (if_ arms o) = both (λ x y. Some (checked.if_ x y)) (arms_of s held arms) (other_of s held o)
  stmt_of s held (case e branches o spot) =
      case_of spot (option_and_then selector_of (expr_of s e)) (branches_of s held (type_of s e) branches) (other_of s held o)
  stmt_of s held (for_ n name_spot first last by body spot) =
      for_of held name_spot (find s n)
      (number_in s (entry_type (find s n)) first)
      (number_in s (entry_type (find s n)) last)
      (step_of s (entry_type (find s n)) by)
      (stmts_of s (held_in held (find s n)) body)

  pub stmts_of : List Entry → List ℕ → StmtTrees → Option checked.TStmtTrees
  stmts_of s held no_stmts = Some checked.no_tstmts
  stmts_of s held (and_stmt x xs) = both (λ y ys. Some (checked.and_tstmt y ys)) (stmt_of s held x) (stmts_of s held xs)

  pub arms_of : List Entry → List ℕ → ArmTrees → Option checked.TArmTrees
  arms_of s held no_arms = Some checked.no_tarms
  arms_of s held (and_arm e body spot arms) =
      arm_of spot (option_and_then test_of (expr_of s e)) (stmts_of s held body) (arms_of s held arms)

  pub branches_of : List Entry → List ℕ → Option Ty → BranchTrees → Option checked.TBranchTrees
  branches_of s held t no_branches = Some checked.no_tbranches
  branches_of s held t (and_branch ls body branches) =
      branch_of (labels_of s t ls) (stmts_of s held body) (branches_of s held t branches)

  pub other_of : List Entry → List ℕ → OtherTree → Option checked.TOtherTree
  other_of s held no_other = Some checked.no_tother
  other_of s held (other body) = option_map (λ x. checked.tother x) (stmts_of s held body)
