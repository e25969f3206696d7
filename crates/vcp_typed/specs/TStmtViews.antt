-- TStmtViews: the tree of a statement that a program holds.
use Rattle.std.specs.Prelude.{List, [], ◌∷◌, Option, Some, None}
use Rattle.vcp_base.specs.declared.spot.Spot.{Spot}
use Rattle.vcp_typed.specs.declared.stmt.TLabel.{TLabel}
use Rattle.vcp_typed.specs.declared.stmt.TArm.{TArm}
use Rattle.vcp_typed.specs.declared.stmt.TArms.{TArms}
use Rattle.vcp_typed.specs.declared.stmt.TBranch.{TBranch}
use Rattle.vcp_typed.specs.declared.stmt.TBranches.{TBranches}
use Rattle.vcp_typed.specs.declared.stmt.TStmts.{TStmts}
use Rattle.vcp_typed.specs.declared.stmt.TStmt.{TStmt, Row_of-TStmt, end_of-TStmt, more_of-TStmt, Held-TStmt-If-1, None', Some'}
use Rattle.vcp_typed.specs.declared.stmt.TStmt.TheBlock.{struct-TArms, struct-TBranches, Row_of-TArm, end_of-TArm, more_of-TArm, Row_of-TBranch, end_of-TBranch}
use Rattle.vcp_typed.specs.declared.stmt.TStmt.TheBlock.{more_of-TBranch}
use Rattle.vcp_typed.specs.declared.stmt.TStmt.TheVariants.{Assign, If', Case', For'}
use Rattle.vcp_typed.specs.TExprTree.{TExprTree}
use Rattle.vcp_typed.specs.TExprViews.{texpr_tree}
use Rattle.vcp_typed.specs.TStmtTree.{TStmtTree, TStmtTrees, TArmTrees, TBranchTrees, TOtherTree, assign, if_, case, for_, no_tstmts, and_tstmt, no_tarms}
use Rattle.vcp_typed.specs.TStmtTree.{and_tarm, no_tbranches, and_tbranch, no_tother, tother}

-- what a statement of the program holds
abbrev mutual
  pub tstmt_tree : TStmt → TStmtTree
  tstmt_tree (Assign n e s) = assign n (texpr_tree e) s
  tstmt_tree (If' arms held) = if_ (tarms_of arms) (tother_of held)
  tstmt_tree (Case' e branches held s) = case (texpr_tree e) (tbranches_of branches) (tother_of held) s
  tstmt_tree (For' n f by k shape body s) = for_ n f by k (row_of_tstmts body) s

  pub row_of_tstmts : {m : _} → Row_of-TStmt m → TStmtTrees
  row_of_tstmts end_of-TStmt = no_tstmts
  row_of_tstmts (more_of-TStmt s rest) = and_tstmt (tstmt_tree s) (row_of_tstmts rest)

  pub tother_of : Held-TStmt-If-1 → TOtherTree
  tother_of None' = no_tother
  tother_of (Some' shape body) = tother (row_of_tstmts body)

  pub tarms_of : TArms → TArmTrees
  tarms_of (struct-TArms shape arms) = row_of_tarms arms

  pub row_of_tarms : {m : _} → Row_of-TArm m → TArmTrees
  row_of_tarms end_of-TArm = no_tarms
  row_of_tarms (more_of-TArm c shape body s rest) = and_tarm (texpr_tree c) (row_of_tstmts body) s (row_of_tarms rest)

  pub tbranches_of : TBranches → TBranchTrees
  tbranches_of (struct-TBranches shape branches) = row_of_tbranches branches

  pub row_of_tbranches : {m : _} → Row_of-TBranch m → TBranchTrees
  row_of_tbranches end_of-TBranch = no_tbranches
  row_of_tbranches (more_of-TBranch l shape body rest) = and_tbranch l.items.items (row_of_tstmts body) (row_of_tbranches rest)

-- what lists of them hold
abbrev pub tstmt_trees : List TStmt → TStmtTrees
tstmt_trees [] = no_tstmts
tstmt_trees (s ∷ ss) = and_tstmt (tstmt_tree s) (tstmt_trees ss)

abbrev pub tarm_trees : List TArm → TArmTrees
tarm_trees [] = no_tarms
tarm_trees (a ∷ arms) = and_tarm (texpr_tree a.cond) (tstmt_trees a.body.items.items) a.spot (tarm_trees arms)

abbrev pub tbranch_trees : List TBranch → TBranchTrees
tbranch_trees [] = no_tbranches
tbranch_trees (b ∷ branches) = and_tbranch b.labels.items.items (tstmt_trees b.body.items.items) (tbranch_trees branches)

abbrev pub tother_tree : Option TStmts → TOtherTree
tother_tree None = no_tother
tother_tree (Some ss) = tother (tstmt_trees ss.items.items)

-- one more at the end
abbrev pub tstmts_and : TStmtTrees → TStmtTree → TStmtTrees
tstmts_and no_tstmts s = and_tstmt s no_tstmts
tstmts_and (and_tstmt x xs) s = and_tstmt x (tstmts_and xs s)

abbrev pub tarms_and : TArmTrees → TExprTree → TStmtTrees → Spot → TArmTrees
tarms_and no_tarms c body s = and_tarm c body s no_tarms
tarms_and (and_tarm d other_body r rest) c body s = and_tarm d other_body r (tarms_and rest c body s)

abbrev pub tbranches_and : TBranchTrees → List TLabel → TStmtTrees → TBranchTrees
tbranches_and no_tbranches ls body = and_tbranch ls body no_tbranches
tbranches_and (and_tbranch ms other_body rest) ls body = and_tbranch ms other_body (tbranches_and rest ls body)
