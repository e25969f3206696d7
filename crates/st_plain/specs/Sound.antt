-- Sound: under some declarations the parts of a program have their types, and the values fit the slots.
use Rattle.std.specs.Prelude.{ℕ, ℤ, List, [], ◌∷◌, ◌++◌}
use Rattle.vcp_base.specs.declared.ty.Ty.{Ty}
use Rattle.vcp_typed.specs.declared.slot.Slot.{Slot}
use Rattle.vcp_typed.specs.TExprTree.{TExprTree, TExprTrees}
use Rattle.vcp_typed.specs.TStmtTree.{TStmtTree, TStmtTrees, TArmTrees, TBranchTrees, TOtherTree}
use Rattle.vcp_typed.specs.Checked.{MaySet, AreTurns, IsExpr, AreExprs, IsStmt, AreStmts, AreArms, AreBranches, IsOther}
use Rattle.vcp_typed.specs.Fitting.{AreFit}

pub record SoundExpr (e : TExprTree) (m : List ℤ) : Type 0 where
  pub slots : List Slot
  pub typed : IsExpr slots e
  pub fit : AreFit slots m

pub record SoundExprs (es : TExprTrees) (m : List ℤ) : Type 0 where
  pub slots : List Slot
  pub typed : AreExprs slots es
  pub fit : AreFit slots m

pub record SoundStmt (s : TStmtTree) (m : List ℤ) : Type 0 where
  pub slots : List Slot
  pub held : List ℕ
  pub typed : IsStmt slots held s
  pub fit : AreFit slots m

pub record SoundStmts (ss : TStmtTrees) (m : List ℤ) : Type 0 where
  pub slots : List Slot
  pub held : List ℕ
  pub typed : AreStmts slots held ss
  pub fit : AreFit slots m

pub record SoundArms (arms : TArmTrees) (m : List ℤ) : Type 0 where
  pub slots : List Slot
  pub held : List ℕ
  pub typed : AreArms slots held arms
  pub fit : AreFit slots m

pub record SoundBranches (branches : TBranchTrees) (m : List ℤ) : Type 0 where
  pub slots : List Slot
  pub held : List ℕ
  pub of : Ty
  pub typed : AreBranches slots held of branches
  pub fit : AreFit slots m

pub record SoundOther (o : TOtherTree) (m : List ℤ) : Type 0 where
  pub slots : List Slot
  pub held : List ℕ
  pub typed : IsOther slots held o
  pub fit : AreFit slots m

-- so many turns of a FOR over the slot, from the value v on
pub record SoundTurns (slot : ℕ) (v by : ℤ) (turns : ℕ) (body : TStmtTrees) (m : List ℤ) : Type 0 where
  pub slots : List Slot
  pub held : List ℕ
  pub of : Ty
  pub set : MaySet slots held slot of
  pub values : AreTurns of turns v by
  pub typed : AreStmts slots (held ++ slot ∷ []) body
  pub fit : AreFit slots m
