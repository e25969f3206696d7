-- Adds: what each part of a program adds to a flattening, from one state to another: the operations that mean the part, in the turns
-- that are round it, and how many they are at most.
use Rattle.std.specs.Prelude.{◌≡◌, ℕ, ◌+◌, ℤ, List}
use Rattle.vcp_base.specs.declared.turns.Turn.{Turn}
use Rattle.vcp_base.specs.Values.{at}
use Rattle.vcp_typed.specs.TExprTree.{TExprTree}
use Rattle.vcp_typed.specs.TStmtTree.{TStmtTree, TStmtTrees, TArmTrees, TBranchTrees, TOtherTree}
use Rattle.vcp_typed.specs.Meaning.{do_stmt, do_stmts, do_arms, do_branches, do_other}
use Rattle.vcp_typed.specs.Size.{expr_size, stmt_size, stmts_size, arms_size, branches_size, other_size}
use Rattle.op_graph.specs.Lists.{turns_of}
use Rattle.flat_expr.specs.State.{State}
use Rattle.flat_stmt.specs.Moves.{Moves, Does, where_reached, assigning}

-- the turns round what is added next
abbrev pub turns_round : State → List Turn
turns_round s = turns_of s.graph s.turn

-- ---- how many operations, and how many turn nodes, a part becomes at most

-- the arms of IF, and its ELSE
abbrev pub if_size : TArmTrees → TOtherTree → ℕ
if_size arms o = arms_size arms + other_size o

-- what comes after the selector of CASE: its branches, and its ELSE
abbrev pub rest_size : TBranchTrees → TOtherTree → ℕ
rest_size branches o = branches_size branches + other_size o

-- ---- what a part adds

-- an assignment
abbrev pub AddsAssignment : State → State → ℕ → TExprTree → Type 0
AddsAssignment old new slot e = Does old new (1 + expr_size e) (assigning (turns_round old) slot e)

-- a statement
abbrev pub AddsStmt : State → State → TStmtTree → Type 0
AddsStmt old new s = Does old new (stmt_size s) (do_stmt (turns_round old) s)

-- statements, in order
abbrev pub AddsStmts : State → State → TStmtTrees → Type 0
AddsStmts old new ss = Does old new (stmts_size ss) (do_stmts (turns_round old) ss)

-- the arms of IF, and its ELSE
abbrev pub AddsIf : State → State → TArmTrees → TOtherTree → Type 0
AddsIf old new arms o = Does old new (if_size arms o) (do_arms (turns_round old) arms (do_other (turns_round old) o))

-- the branches of CASE over operation k, and its ELSE
abbrev pub AddsBranches : State → State → ℕ → TBranchTrees → TOtherTree → Type 0
AddsBranches old new k branches o =
    (new.path ≡ old.path) × ((v : ℤ) → Moves old new (λ vs. at vs k ≡ v) (rest_size branches o)
    (where_reached (do_branches (turns_round old) v branches (do_other (turns_round old) o))))
