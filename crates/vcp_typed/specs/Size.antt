-- Size: the room that the flattening of a program may take, in operations.
use Rattle.std.specs.Prelude.{ℕ, zero, suc, ◌+◌, ◌*◌, min, cond, sum_by}
use Rattle.vcp_base.specs.Limits.{most_size}
use Rattle.st_tree.specs.declared.expr.BinOp.{BinOp}
use Rattle.st_tree.specs.declared.expr.BinOp.TheVariants as bin
use Rattle.st_tree.specs.declared.program.Section.{Section}
use Rattle.st_tree.specs.declared.program.Section.TheVariants as section
use Rattle.vcp_typed.specs.declared.expr.Fun.{Fun}
use Rattle.vcp_typed.specs.declared.expr.Fun.TheVariants as fun
use Rattle.vcp_typed.specs.declared.stmt.TLabel.{TLabel}
use Rattle.vcp_typed.specs.TExprTree.{TExprTree, TExprTrees, literal, get, widen, unary, binary, call, no_texprs, and_texpr}
use Rattle.vcp_typed.specs.TStmtTree.{TStmtTree, TStmtTrees, TArmTrees, TBranchTrees, TOtherTree, assign, if_, case, for_, no_tstmts, and_tstmt, no_tarms}
use Rattle.vcp_typed.specs.TStmtTree.{and_tarm, no_tbranches, and_tbranch, no_tother, tother}
use Rattle.vcp_typed.specs.SourceRun.{Program}

abbrev pub operator_size : BinOp → ℕ
operator_size bin.Mul = 3
operator_size bin.Div = 3
operator_size bin.Mod = 3
operator_size bin.Add = 3
operator_size bin.Sub = 3
operator_size bin.Lt = 3
operator_size bin.Gt = 3
operator_size bin.Le = 4
operator_size bin.Ge = 4
operator_size bin.Eq = 3
operator_size bin.Ne = 4
operator_size bin.And = 3
operator_size bin.Xor = 3
operator_size bin.Or = 3

abbrev pub function_size : Fun → ℕ
function_size fun.Abs = 5
function_size fun.Min = 3
function_size fun.Max = 3
function_size fun.Limit = 6
function_size fun.Sel = 3
function_size fun.IntToDint = 2
function_size fun.IntToLint = 2
function_size fun.DintToInt = 2
function_size fun.DintToLint = 2
function_size fun.LintToInt = 2
function_size fun.LintToDint = 2
function_size fun.BoolToInt = 2

abbrev mutual
  pub expr_size : TExprTree → ℕ
  expr_size (literal t v spot) = 1
  expr_size (get slot t) = 0
  expr_size (widen t a) = expr_size a
  expr_size (unary op t a spot) = 2 + expr_size a
  expr_size (binary op t a b spot) = operator_size op + expr_size a + expr_size b
  expr_size (call f t es spot) = function_size f + exprs_size es

  pub exprs_size : TExprTrees → ℕ
  exprs_size no_texprs = 0
  exprs_size (and_texpr e es) = expr_size e + exprs_size es

-- a label is one value, or a range
abbrev pub label_size : TLabel → ℕ
label_size l = cond l.range 7 3

abbrev mutual
  pub stmt_size : TStmtTree → ℕ
  stmt_size (assign slot e spot) = 1 + expr_size e
  stmt_size (if_ arms o) = arms_size arms + other_size o
  stmt_size (case e branches o spot) = expr_size e + branches_size branches + other_size o
  stmt_size (for_ slot first by zero body spot) = 2
  stmt_size (for_ slot first by (suc n) body spot) = suc n * (2 + stmts_size body)

  pub stmts_size : TStmtTrees → ℕ
  stmts_size no_tstmts = 0
  stmts_size (and_tstmt s ss) = stmt_size s + stmts_size ss

  pub arms_size : TArmTrees → ℕ
  arms_size no_tarms = 0
  arms_size (and_tarm e body spot arms) = 3 + expr_size e + stmts_size body + arms_size arms

  pub branches_size : TBranchTrees → ℕ
  branches_size no_tbranches = 0
  branches_size (and_tbranch ls body branches) = 3 + sum_by label_size ls + stmts_size body + branches_size branches

  pub other_size : TOtherTree → ℕ
  other_size no_tother = 0
  other_size (tother body) = stmts_size body

-- a variable; a constant takes none
abbrev pub section_size : Section → ℕ
section_size section.Input = 1
section_size section.Output = 3
section_size section.Local = 2
section_size section.Retain = 2
section_size section.Constant = 0

-- the Size of a program
abbrev pub size : Program → ℕ
size p = 2 + sum_by (λ s. section_size s.section) p.slots + stmts_size p.body

-- a Size up to the first that is too large
abbrev pub cut : ℕ → ℕ
cut n = min n (most_size + 1)
