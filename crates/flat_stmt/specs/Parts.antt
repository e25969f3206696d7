-- Parts: parts of a checked program, inside some FORs, whose types are of the graph's code; and why there may be no room for their operations.
use Rattle.std.specs.Prelude.{◌≡◌, ℕ, ◌+◌, ◌<◌, List, Result, Ok, Err}
use Rattle.vcp_base.specs.Limits.{most_operations}
use Rattle.vcp_base.specs.declared.code.Profile.{Profile}
use Rattle.vcp_base.specs.declared.ty.Ty.{Ty}
use Rattle.vcp_base.specs.declared.ty.Ty.TheVariants as ty
use Rattle.op_graph.specs.declared.build.Build.{Build}
use Rattle.op_graph.specs.declared.build.Build.TheVariants as build
use Rattle.vcp_typed.specs.declared.slot.Slot.{Slot}
use Rattle.vcp_typed.specs.TExprTree.{TExprTree}
use Rattle.vcp_typed.specs.TStmtTree.{TStmtTree, TStmtTrees, TArmTrees, TBranchTrees, TOtherTree, no_tstmts, no_tother, tother}
use Rattle.vcp_typed.specs.Checked.{IsExpr, ty_of, IsStmt, AreStmts, AreArms, AreBranches, IsOther}
use Rattle.vcp_typed.specs.Wide.{expr_is_wide, stmt_is_wide, stmts_are_wide, arms_are_wide, branches_are_wide, other_is_wide}
use Rattle.flat_expr.specs.State.{State, Allows, reserved}

-- what parts of a program stand over: its slots, and the code of the graph
pub record Context : Type 0 where
  pub slots : List Slot
  pub profile : Profile

abbrev pub context : State → Context
context s = record { slots = s.slots; profile = s.graph.profile }

abbrev pub StmtPart : Context → TStmtTree → Type 0
StmtPart c s = (held : List ℕ) × IsStmt c.slots held s × Allows c.profile (stmt_is_wide s)

abbrev pub StmtsPart : Context → TStmtTrees → Type 0
StmtsPart c ss = (held : List ℕ) × AreStmts c.slots held ss × Allows c.profile (stmts_are_wide ss)

abbrev pub ArmsPart : Context → TArmTrees → Type 0
ArmsPart c arms = (held : List ℕ) × AreArms c.slots held arms × Allows c.profile (arms_are_wide arms)

abbrev pub BranchesPart : Context → Ty → TBranchTrees → Type 0
BranchesPart c t branches = (held : List ℕ) × AreBranches c.slots held t branches × Allows c.profile (branches_are_wide branches)

abbrev pub OtherPart : Context → TOtherTree → Type 0
OtherPart c o = (held : List ℕ) × IsOther c.slots held o × Allows c.profile (other_is_wide o)

-- the condition of an arm
abbrev pub ConditionPart : Context → TExprTree → Type 0
ConditionPart c e = IsExpr c.slots e × (ty_of e ≡ ty.Bool) × Allows c.profile (expr_is_wide e)

-- the statements of an ELSE, if there is one
abbrev pub statements_of : TOtherTree → TStmtTrees
statements_of no_tother = no_tstmts
statements_of (tother body) = body

-- there is no room only where more operations are wanted than a graph may have
abbrev pub Fills : State → ℕ → Build → Type 0
Fills old n e = e ≡ build.Full → most_operations < reserved old + n

-- what comes of a call: its operations were added, of which there are at most n; or there is no room for so many, or no memory
abbrev pub Added : {A : Type 0} → State → ℕ → (A → Type 0) → Result A Build → Type 0
Added old n Made (Ok a) = Made a
Added old n Made (Err e) = Fills old n e
