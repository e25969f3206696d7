-- TStmtTree: a checked statement as what it holds, without pointers.
use Rattle.std.specs.Prelude.{ℕ, ℤ, List}
use Rattle.vcp_base.specs.declared.spot.Spot.{Spot}
use Rattle.vcp_typed.specs.declared.stmt.TLabel.{TLabel}
use Rattle.vcp_typed.specs.TExprTree.{TExprTree}

mutual
  pub data TStmtTree : Type 0 where
    assign : (slot : ℕ) → (value : TExprTree) → (spot : Spot) → TStmtTree
    if_ : (arms : TArmTrees) → (other : TOtherTree) → TStmtTree
    case : (on : TExprTree) → (branches : TBranchTrees) → (other : TOtherTree) → (spot : Spot) → TStmtTree
    for_ : (slot : ℕ) → (first by : ℤ) → (turns : ℕ) → (body : TStmtTrees) → (spot : Spot) → TStmtTree

  -- a list of statements
  pub data TStmtTrees : Type 0 where
    no_tstmts : TStmtTrees
    and_tstmt : (first : TStmtTree) → (rest : TStmtTrees) → TStmtTrees

  -- the conditions of an IF with their bodies
  pub data TArmTrees : Type 0 where
    no_tarms : TArmTrees
    and_tarm : (cond : TExprTree) → (body : TStmtTrees) → (spot : Spot) → (rest : TArmTrees) → TArmTrees

  -- the branches of a CASE
  pub data TBranchTrees : Type 0 where
    no_tbranches : TBranchTrees
    and_tbranch : (labels : List TLabel) → (body : TStmtTrees) → (rest : TBranchTrees) → TBranchTrees

  -- the body of ELSE, or that there is none
  pub data TOtherTree : Type 0 where
    no_tother : TOtherTree
    tother : (body : TStmtTrees) → TOtherTree
