-- StmtSteps: what the steps of typing a statement give, and the faults that they note.
-- How the typing works, and no promise: what it promises is in Typing.
use Rattle.std.specs.Prelude.{◌≡◌, ℕ, ℤ, cond, not, ◌&&◌, List, [], ◌∷◌, ◌++◌, Option, Some, None, option_map}
use Rattle.vcp_base.specs.declared.spot.Spot.{Spot}
use Rattle.vcp_base.specs.declared.ty.Ty.{Ty}
use Rattle.vcp_base.specs.Types.{is_bool}
use Rattle.st_tree.specs.ExprTree.{ExprTree}
use Rattle.st_tree.specs.StmtTree.{LabelTree, StmtTree, StmtTrees, ArmTrees, BranchTrees, OtherTree}
use Rattle.vcp_typed.specs.declared.stmt.TLabel.{TLabel}
use Rattle.vcp_typed.specs.TStmtTree as checked
use Rattle.vcp_typed.specs.TStmtViews.{tbranches_and}
use Rattle.st_types.specs.declared.constants.Number.{Number}
use Rattle.st_types.specs.declared.fault.Fault.{Fault}
use Rattle.st_types.specs.declared.statement.Turning.{Turning}
use Rattle.st_types.specs.Notes.{Notes}
use Rattle.st_types.specs.Scope.{Entry}
use Rattle.st_types.specs.ExprTyping.{both, ExprFault}
use Rattle.st_types.specs.StmtTyping.{form, form_number, number_in, step_of, is_free, turns_of, BoundFault, StepFault, LastFault, label_of}
use Rattle.st_types.specs.StmtTyping.{LabelFault, labels_of, LabelsFault, StmtFault, stmt_of, StmtsFault, stmts_of, ArmsFault, arms_of, BranchesFault}
use Rattle.st_types.specs.StmtTyping.{branches_of, OtherFault, other_of}

-- the faults F are met, and r is w
pub record Gives {A : Type 0} (F : Fault → Type 0) (w : A) (old new : Option Fault) (r : A) : Type 0 where
  pub notes : Notes old new F
  pub gives : r ≡ w

-- the faults F are met, and r is w, where no fault is noted
pub record Builds {A : Type 0} (F : Fault → Type 0) (w : A) (old new : Option Fault) (r : A) : Type 0 where
  pub notes : Notes old new F
  pub gives : new ≡ None → r ≡ w

-- ---- constants

-- an expression is typed where a number of the type is wanted: the number that it is, and that of its form
pub record Numbers (s : List Entry) (t : Option Ty) (e : ExprTree) (old new : Option Fault) (r : Number) : Type 0 where
  pub notes : Notes old new (ExprFault s e)
  pub value : r.value ≡ number_in s t e
  pub form : r.form ≡ form_number t (form s e)

-- the bound of a FOR that an expression is
abbrev pub Bounds : List Entry → Option Ty → ExprTree → Option Fault → Option Fault → Option ℤ → Type 0
Bounds s t e old new r = Gives (BoundFault s t e) (number_in s t e) old new r

-- the step of a FOR
abbrev pub Steps : List Entry → Option Ty → Option ExprTree → Option Fault → Option Fault → Option ℤ → Type 0
Steps s t e old new r = Gives (StepFault s t e) (step_of s t e) old new r

-- ---- labels

-- the last end of a range, where there is one
pub record TypesLast (s : List Entry) (t : Option Ty) (e : Option ExprTree) (old new : Option Fault) (r : Option Number) : Type 0 where
  pub notes : Notes old new (LastFault s e)
  pub value : option_map (λ n. n.value) r ≡ option_map (number_in s t) e
  pub form : option_map (λ n. n.form) r ≡ option_map (λ x. form_number t (form s x)) e

abbrev pub TypesLabel : List Entry → Option Ty → LabelTree → Option Fault → Option Fault → Option TLabel → Type 0
TypesLabel s t l old new r = Gives (LabelFault s t l) (label_of s t l) old new r

abbrev pub TypesLabels : List Entry → Option Ty → List LabelTree → Option Fault → Option Fault → Option (List TLabel) → Type 0
TypesLabels s t ls old new r = Gives (LabelsFault s t ls) (labels_of s t ls) old new r

-- ---- statements

abbrev pub TypesStmt : List Entry → List ℕ → StmtTree → Option Fault → Option Fault → Option checked.TStmtTree → Type 0
TypesStmt s held x old new r = Builds (StmtFault s held x) (stmt_of s held x) old new r

abbrev pub TypesStmts : List Entry → List ℕ → StmtTrees → Option Fault → Option Fault → Option checked.TStmtTrees → Type 0
TypesStmts s held xs old new r = Builds (StmtsFault s held xs) (stmts_of s held xs) old new r

abbrev pub TypesArms : List Entry → List ℕ → ArmTrees → Option Fault → Option Fault → Option checked.TArmTrees → Type 0
TypesArms s held arms old new r = Builds (ArmsFault s held arms) (arms_of s held arms) old new r

abbrev pub TypesBranches : List Entry → List ℕ → Option Ty → BranchTrees → Option Fault → Option Fault → Option checked.TBranchTrees → Type 0
TypesBranches s held t branches old new r = Builds (BranchesFault s held t branches) (branches_of s held t branches) old new r

abbrev pub TypesOther : List Entry → List ℕ → OtherTree → Option Fault → Option Fault → Option checked.TOtherTree → Type 0
TypesOther s held o old new r = Builds (OtherFault s held o) (other_of s held o) old new r

-- one more at the end of a list; none where a part has a fault

abbrev pub label_after : List TLabel → TLabel → Option (List TLabel)
label_after ls l = Some (ls ++ l ∷ [])

abbrev pub branch_after : Option checked.TBranchTrees → Option (List TLabel) → Option checked.TStmtTrees → Option checked.TBranchTrees
branch_after (Some branches) (Some ls) (Some body) = Some (tbranches_and branches ls body)
branch_after _ _ _ = None

-- what a FOR does beside its body
abbrev pub turning_of : List ℕ → Option Entry → Option ℤ → Option ℤ → Option ℤ → Option Turning
turning_of held (Some e) (Some first) (Some last) (Some by) =
    cond (is_free held e && not (is_bool e.ty)) (Some (record { slot = e.slot; first = first; by = by; turns = turns_of first last by })) None
turning_of held _ _ _ _ = None

-- a FOR, where neither what it does beside its body nor the body has a fault
abbrev pub for_with : Spot → Option Turning → Option checked.TStmtTrees → Option checked.TStmtTree
for_with spot turning body = both (λ t b. Some (checked.for_ t.slot t.first t.by t.turns b spot)) turning body
