-- StmtTree: a statement as what it holds, without pointers.
use Rattle.std.specs.Prelude.{ℕ, List, Option}
use Rattle.vcp_base.specs.declared.spot.Spot.{Spot}
use Rattle.st_tree.specs.ExprTree.{ExprTree}

-- a label of a CASE: one value, or the range from the first to the last
pub record LabelTree : Type 0 where
  pub first : ExprTree
  pub last : Option ExprTree

mutual
  pub data StmtTree : Type 0 where
    assign : (name : List ℕ) → (value : ExprTree) → (spot : Spot) → StmtTree
    if_ : (arms : ArmTrees) → (other : OtherTree) → StmtTree
    case : (on : ExprTree) → (branches : BranchTrees) → (other : OtherTree) → (spot : Spot) → StmtTree
    for_ : (name : List ℕ) → (name_spot : Spot) → (first last : ExprTree) → (by : Option ExprTree) → (body : StmtTrees) → (spot : Spot) → StmtTree

  -- a list of statements
  pub data StmtTrees : Type 0 where
    no_stmts : StmtTrees
    and_stmt : (first : StmtTree) → (rest : StmtTrees) → StmtTrees

  -- the conditions of an IF with their bodies
  pub data ArmTrees : Type 0 where
    no_arms : ArmTrees
    and_arm : (cond : ExprTree) → (body : StmtTrees) → (spot : Spot) → (rest : ArmTrees) → ArmTrees

  -- the branches of a CASE
  pub data BranchTrees : Type 0 where
    no_branches : BranchTrees
    and_branch : (labels : List LabelTree) → (body : StmtTrees) → (rest : BranchTrees) → BranchTrees

  -- the body of ELSE, or that there is none
  pub data OtherTree : Type 0 where
    no_other : OtherTree
    other : (body : StmtTrees) → OtherTree
