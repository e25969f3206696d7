-- Checked: the rules that every checked program keeps.
use Rattle.std.specs.Prelude.{◌≡◌, ℕ, zero, suc, ◌≤◌, ℤ, ◌+ℤ◌, int_le, Bool, true, false, ◌==◌, List, [], ◌∷◌, ◌++◌, length, All, Some, slice_get}
use Rattle.std.specs.List.{list_any}
use Rattle.vcp_base.specs.Limits.{most_names, most_size}
use Rattle.vcp_base.specs.Names.{NameFits}
use Rattle.vcp_base.specs.declared.ty.Ty.{Ty}
use Rattle.vcp_base.specs.declared.ty.Ty.TheVariants as ty
use Rattle.vcp_base.specs.Types.{fits}
use Rattle.st_tree.specs.declared.program.Section.{Section}
use Rattle.st_tree.specs.declared.program.Section.TheVariants as section
use Rattle.vcp_typed.specs.declared.slot.Slot.{Slot}
use Rattle.vcp_typed.specs.declared.stmt.TLabel.{TLabel}
use Rattle.vcp_typed.specs.TExprTree.{TExprTree, TExprTrees, literal, get, widen, unary, binary, call, no_texprs, and_texpr}
use Rattle.vcp_typed.specs.TStmtTree.{TStmtTree, TStmtTrees, TArmTrees, TBranchTrees, TOtherTree, assign, if_, case, for_, no_tstmts, and_tstmt, no_tarms}
use Rattle.vcp_typed.specs.TStmtTree.{and_tarm, no_tbranches, and_tbranch, no_tother, tother}
use Rattle.vcp_typed.specs.Rules.{widens, joined, common, result, signed, arguments}
use Rattle.vcp_typed.specs.SourceRun.{Program}
use Rattle.vcp_typed.specs.Size.{size}

-- ---- names

-- a slot may follow those before it: its name may follow theirs, its initial value is in its type, and it is no constant
pub record SlotFits (before : List Slot) (s : Slot) : Type 0 where
  pub name : NameFits (λ (r : Slot). r.name) before s.name
  pub init : fits s.ty s.init ≡ true
  pub variable : s.section ≡ section.Constant → ⊥

-- each slot may follow those before it
abbrev pub SlotsFit : List Slot → List Slot → Type 0
SlotsFit before [] = Unit {0}
SlotsFit before (s ∷ ss) = SlotFits before s × SlotsFit (before ++ s ∷ []) ss

-- ---- expressions

-- the type of an expression's value
abbrev pub ty_of : TExprTree → Ty
ty_of (literal t v spot) = t
ty_of (get slot t) = t
ty_of (widen t a) = t
ty_of (unary op t a spot) = t
ty_of (binary op t a b spot) = result op t
ty_of (call f t es spot) = t

abbrev pub tys_of : TExprTrees → List Ty
tys_of no_texprs = []
tys_of (and_texpr e es) = ty_of e ∷ tys_of es

-- the slot is there, and has the type
abbrev pub HasType : List Slot → ℕ → Ty → Type 0
HasType slots slot t = (s : Slot) × (slice_get slots slot ≡ Some s) × (s.ty ≡ t)

-- each node has its type, each literal is in its type and each slot is there
abbrev mutual
  pub IsExpr : List Slot → TExprTree → Type 0
  IsExpr slots (literal t v spot) = fits t v ≡ true
  IsExpr slots (get slot t) = HasType slots slot t
  IsExpr slots (widen t a) = IsExpr slots a × (widens (ty_of a) t ≡ true)
  IsExpr slots (unary op t a spot) = IsExpr slots a × (ty_of a ≡ t) × (signed op t ≡ Some t)
  IsExpr slots (binary op t a b spot) = IsExpr slots a × IsExpr slots b × (ty_of a ≡ t) × (ty_of b ≡ t) × (common op t t ≡ Some t)
  IsExpr slots (call f t es spot) = AreExprs slots es × (arguments f t ≡ Some (tys_of es))

  pub AreExprs : List Slot → TExprTrees → Type 0
  AreExprs slots no_texprs = Unit {0}
  AreExprs slots (and_texpr e es) = IsExpr slots e × AreExprs slots es

-- ---- statements

-- a variable that a program may set
abbrev pub is_set : Section → Bool
is_set section.Input = false
is_set section.Output = true
is_set section.Local = true
is_set section.Retain = true
is_set section.Constant = false

-- the slot has the type, and may be set inside FORs over these slots: it is no input and none of them
pub record MaySet (slots : List Slot) (held : List ℕ) (slot : ℕ) (t : Ty) : Type 0 where
  pub of : Slot
  pub there : slice_get slots slot ≡ Some of
  pub ty : of.ty ≡ t
  pub set : is_set of.section ≡ true
  pub free : list_any (λ n. n == slot) held ≡ false

-- so many values from v on are in the type
abbrev pub AreTurns : Ty → ℕ → ℤ → ℤ → Type 0
AreTurns t zero v by = Unit {0}
AreTurns t (suc n) v by = (fits t v ≡ true) × AreTurns t n (v +ℤ by) by

-- a label of a selector of the type: both ends are in it, in order, and one value is its own range
pub record IsLabel (t : Ty) (l : TLabel) : Type 0 where
  pub first : fits t l.first ≡ true
  pub last : fits t l.last ≡ true
  pub order : int_le l.first l.last ≡ true
  pub one : l.range ≡ false → l.last ≡ l.first

-- statements inside FORs over the slots `held`
abbrev mutual
  pub IsStmt : List Slot → List ℕ → TStmtTree → Type 0
  IsStmt slots held (assign slot e spot) = MaySet slots held slot (ty_of e) × IsExpr slots e
  IsStmt slots held (if_ arms o) = AreArms slots held arms × IsOther slots held o
  IsStmt slots held (case e branches o spot) =
      IsExpr slots e × (joined (ty_of e) (ty_of e) ≡ Some (ty_of e)) × AreBranches slots held (ty_of e) branches × IsOther slots held o
  IsStmt slots held (for_ slot first by n body spot) =
      (t : Ty) × MaySet slots held slot t × (joined t t ≡ Some t) × (fits t first ≡ true) × AreTurns t n first by × AreStmts slots (held ++ slot ∷ []) body

  pub AreStmts : List Slot → List ℕ → TStmtTrees → Type 0
  AreStmts slots held no_tstmts = Unit {0}
  AreStmts slots held (and_tstmt s ss) = IsStmt slots held s × AreStmts slots held ss

  pub AreArms : List Slot → List ℕ → TArmTrees → Type 0
  AreArms slots held no_tarms = Unit {0}
  AreArms slots held (and_tarm e body spot arms) = IsExpr slots e × (ty_of e ≡ ty.Bool) × AreStmts slots held body × AreArms slots held arms

  pub AreBranches : List Slot → List ℕ → Ty → TBranchTrees → Type 0
  AreBranches slots held t no_tbranches = Unit {0}
  AreBranches slots held t (and_tbranch ls body branches) = All (IsLabel t) ls × AreStmts slots held body × AreBranches slots held t branches

  pub IsOther : List Slot → List ℕ → TOtherTree → Type 0
  IsOther slots held no_tother = Unit {0}
  IsOther slots held (tother body) = AreStmts slots held body

-- ---- programs

-- what every checked program keeps
pub record IsChecked (p : Program) : Type 0 where
  pub slots : SlotsFit [] p.slots
  pub body : AreStmts p.slots [] p.body
  pub few : length p.slots ≤ most_names
  pub room : size p ≤ most_size
