-- Programs whose names and literals can be read.
use Rattle.std.proofs.Common.{◌≡◌, ℕ, ℤ, pos, negsuc, suc, ◌^◌, ◌<◌, true, List, [], ◌∷◌, Option, Some, None}
use Rattle.std.specs.Prelude.{slice_index}
use Rattle.std.specs.List.{list_all}
use Rattle.vcp_base.specs.declared.ty.Ty.{Ty}
use Rattle.vcp_base.specs.Names.{is_letter, is_letter_or_digit}
use Rattle.st_lexer.specs.declared.token.Tok.{Tok}
use Rattle.st_lexer.specs.declared.token.Tok.TheVariants as tok
use Rattle.st_lexer.specs.Literals.{takes_sign}
use Rattle.st_lexer.specs.Words as words
use Rattle.st_tree.specs.ExprTree.{ExprTree, ExprTrees, literal, name, unary, binary, call, no_exprs, and_expr}
use Rattle.st_tree.specs.StmtTree.{LabelTree, StmtTree, StmtTrees, ArmTrees, BranchTrees, OtherTree, assign, if_, case, for_, no_stmts, and_stmt, no_arms}
use Rattle.st_tree.specs.StmtTree.{and_arm, no_branches, and_branch, no_other, other}
use Rattle.st_tree.specs.ProgramTree.{DeclaredTree, DeclTree, BlockTree, ProgramTree}

-- a word that is read as this token
pub record IsWordOf (w : List ℕ) (t : Tok) : Type 0 where
  pub begins : is_letter (slice_index w 0) ≡ true
  pub each : list_all is_letter_or_digit w ≡ true
  pub is : words.word w ≡ t

-- a word that is no reserved one
abbrev pub IsName : List ℕ → Type 0
IsName w = IsWordOf w tok.Name

-- a value that a literal of the type can have: a sign is read where the type takes one
abbrev pub IsValue : Option Ty → ℤ → Type 0
IsValue t (pos n) = n < 2 ^ 63
IsValue t (negsuc n) = (takes_sign t ≡ true) × (suc n < 2 ^ 63)

abbrev mutual
  pub ReadableExpr : ExprTree → Type 0
  ReadableExpr (literal ty v s) = IsValue ty v
  ReadableExpr (name n s) = IsName n
  ReadableExpr (unary op a s) = ReadableExpr a
  ReadableExpr (binary op a b s) = ReadableExpr a × ReadableExpr b
  ReadableExpr (call n es s) = IsName n × ReadableExprs es

  pub ReadableExprs : ExprTrees → Type 0
  ReadableExprs no_exprs = Unit {0}
  ReadableExprs (and_expr e es) = ReadableExpr e × ReadableExprs es

abbrev pub ReadableOrNone : Option ExprTree → Type 0
ReadableOrNone None = Unit {0}
ReadableOrNone (Some e) = ReadableExpr e

abbrev pub ReadableLabels : List LabelTree → Type 0
ReadableLabels [] = Unit {0}
ReadableLabels (l ∷ ls) = ReadableExpr l.first × ReadableOrNone l.last × ReadableLabels ls

abbrev mutual
  pub ReadableStmt : StmtTree → Type 0
  ReadableStmt (assign n e s) = IsName n × ReadableExpr e
  ReadableStmt (if_ arms o) = ReadableArms arms × ReadableOther o
  ReadableStmt (case e branches o s) = ReadableExpr e × ReadableBranches branches × ReadableOther o
  ReadableStmt (for_ n ns first last by body s) =
      IsName n × ReadableExpr first × ReadableExpr last × ReadableOrNone by × ReadableStmts body

  pub ReadableStmts : StmtTrees → Type 0
  ReadableStmts no_stmts = Unit {0}
  ReadableStmts (and_stmt s ss) = ReadableStmt s × ReadableStmts ss

  pub ReadableArms : ArmTrees → Type 0
  ReadableArms no_arms = Unit {0}
  ReadableArms (and_arm e body s arms) = ReadableExpr e × ReadableStmts body × ReadableArms arms

  pub ReadableBranches : BranchTrees → Type 0
  ReadableBranches no_branches = Unit {0}
  ReadableBranches (and_branch ls body branches) = ReadableLabels ls × ReadableStmts body × ReadableBranches branches

  pub ReadableOther : OtherTree → Type 0
  ReadableOther no_other = Unit {0}
  ReadableOther (other body) = ReadableStmts body

abbrev pub ReadableNames : List DeclaredTree → Type 0
ReadableNames [] = Unit {0}
ReadableNames (d ∷ ds) = IsName d.name × ReadableNames ds

abbrev pub ReadableDecls : List DeclTree → Type 0
ReadableDecls [] = Unit {0}
ReadableDecls (d ∷ ds) = ReadableNames d.names × ReadableOrNone d.init × ReadableDecls ds

abbrev pub ReadableBlocks : List BlockTree → Type 0
ReadableBlocks [] = Unit {0}
ReadableBlocks (b ∷ bs) = ReadableDecls b.decls × ReadableBlocks bs

-- each name is a word that is no reserved one, and each literal has a value that can be read
abbrev pub Readable : ProgramTree → Type 0
Readable p = IsName p.name × ReadableBlocks p.blocks × ReadableStmts p.body
