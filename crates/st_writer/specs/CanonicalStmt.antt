-- CanonicalStmt: the canonical text of statements.
use Rattle.std.specs.Prelude.{ℕ, suc, List, [], ◌∷◌, ◌++◌, Option, Some, None}
use Rattle.st_lexer.specs.declared.token.Key.{Key}
use Rattle.st_lexer.specs.declared.token.Key.TheVariants as key
use Rattle.st_lexer.specs.declared.token.Sym.TheVariants as sym
use Rattle.st_tree.specs.declared.expr.UnOp.TheVariants as un
use Rattle.st_tree.specs.ExprTree.{ExprTree, literal, unary}
use Rattle.st_tree.specs.StmtTree.{LabelTree, StmtTree, StmtTrees, ArmTrees, BranchTrees, OtherTree, assign, if_, case, for_, no_stmts, and_stmt, no_arms}
use Rattle.st_tree.specs.StmtTree.{and_arm, no_branches, and_branch, no_other, other}
use Rattle.st_tree.specs.Operators.{any_level}
use Rattle.st_writer.specs.Lexemes as lexeme
use Rattle.st_writer.specs.CanonicalExpr.{expr}

-- the number behind the sign of a label
abbrev pub negated : ExprTree → List lexeme.Lexeme
negated (literal ty v s) = lexeme.number ty v ∷ []
negated e = expr any_level e

-- a constant of a label: a BOOL one is `BOOL#` and a number directly behind its sign
abbrev pub constant : ExprTree → List lexeme.Lexeme
constant (unary un.Neg a s) = lexeme.symbol sym.Minus ∷ negated a
constant e = expr any_level e

abbrev pub last_of_range : Option ExprTree → List lexeme.Lexeme
last_of_range None = []
last_of_range (Some e) = lexeme.symbol sym.DotDot ∷ constant e

abbrev pub label : LabelTree → List lexeme.Lexeme
label l = constant l.first ++ last_of_range l.last

abbrev pub more_labels : List LabelTree → List lexeme.Lexeme
more_labels [] = []
more_labels (l ∷ ls) = lexeme.symbol sym.Comma ∷ lexeme.blank ∷ (label l ++ more_labels ls)

abbrev pub labels : List LabelTree → List lexeme.Lexeme
labels [] = []
labels (l ∷ ls) = label l ++ more_labels ls

-- the step of a FOR, where one is given
abbrev pub step : Option ExprTree → List lexeme.Lexeme
step None = []
step (Some e) = lexeme.word key.By ∷ lexeme.blank ∷ (expr any_level e ++ lexeme.blank ∷ [])

-- The statement at a level: its keywords are at the level and its bodies one deeper; the labels of a CASE are one
-- deeper, and the bodies of its branches two.
abbrev mutual
  pub stmt : ℕ → StmtTree → List lexeme.Lexeme
  stmt n (assign f e s) =
      lexeme.line n (lexeme.name f ∷ lexeme.blank ∷ lexeme.symbol sym.Assign ∷ lexeme.blank ∷ (expr any_level e ++ lexeme.symbol sym.Semi ∷ []))
  stmt n (if_ arms o) = arms_from n key.If arms ++ (else_of n o ++ lexeme.line n (lexeme.word key.EndIf ∷ lexeme.symbol sym.Semi ∷ []))
  stmt n (case e branches o s) =
      lexeme.line n (lexeme.word key.Case ∷ lexeme.blank ∷ (expr any_level e ++ lexeme.blank ∷ lexeme.word key.Of ∷ []))
      ++ (branches_of n branches ++ (else_of n o ++ lexeme.line n (lexeme.word key.EndCase ∷ lexeme.symbol sym.Semi ∷ [])))
  stmt n (for_ f p first last by body s) =
      lexeme.line n (
      lexeme.word key.For ∷ lexeme.blank ∷ lexeme.name f ∷ lexeme.blank ∷ lexeme.symbol sym.Assign ∷ lexeme.blank
      ∷ (expr any_level first ++ lexeme.blank ∷ lexeme.word key.To ∷ lexeme.blank
      ∷ (expr any_level last ++ lexeme.blank ∷ (step by ++ lexeme.word key.Do ∷ []))))
      ++ (stmts (suc n) body ++ lexeme.line n (lexeme.word key.EndFor ∷ lexeme.symbol sym.Semi ∷ []))

  pub stmts : ℕ → StmtTrees → List lexeme.Lexeme
  stmts n no_stmts = []
  stmts n (and_stmt s ss) = stmt n s ++ stmts n ss

  -- the arms of an IF, the first of them behind the keyword k
  pub arms_from : ℕ → Key → ArmTrees → List lexeme.Lexeme
  arms_from n k no_arms = []
  arms_from n k (and_arm e body s arms) =
      lexeme.line n (lexeme.word k ∷ lexeme.blank ∷ (expr any_level e ++ lexeme.blank ∷ lexeme.word key.Then ∷ []))
      ++ (stmts (suc n) body ++ arms_from n key.Elsif arms)

  pub branches_of : ℕ → BranchTrees → List lexeme.Lexeme
  branches_of n no_branches = []
  branches_of n (and_branch ls body branches) =
      lexeme.line (suc n) (labels ls ++ lexeme.symbol sym.Colon ∷ []) ++ (stmts (suc (suc n)) body ++ branches_of n branches)

  pub else_of : ℕ → OtherTree → List lexeme.Lexeme
  else_of n no_other = []
  else_of n (other body) = lexeme.line n (lexeme.word key.Else ∷ []) ++ stmts (suc n) body
