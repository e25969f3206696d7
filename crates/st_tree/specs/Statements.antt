-- Statements: the tokens that spell them.
--
--   stmts = { [stmt] ";" }
--   stmt  = name ":=" expr
--         | IF expr THEN stmts {ELSIF expr THEN stmts} [ELSE stmts] END_IF
--         | CASE expr OF branch {branch} [ELSE stmts] END_CASE
--         | FOR name ":=" expr TO expr [BY expr] DO stmts END_FOR
--   branch = label {"," label} ":" stmts
--
-- A body and the labels of a CASE are one deeper than their statement; its keywords and its `;` have its depth.
use Rattle.std.specs.Prelude.{◌≡◌, ℕ, suc, List, [], ◌∷◌, ◌++◌, Option, Some, None}
use Rattle.st_lexer.specs.declared.token.Key.{Key}
use Rattle.st_lexer.specs.declared.token.Key.TheVariants as key
use Rattle.st_lexer.specs.declared.token.Sym.TheVariants as sym
use Rattle.st_lexer.specs.declared.token.Tok.TheVariants as tok
use Rattle.st_lexer.specs.declared.token.Token.{Token}
use Rattle.st_tree.specs.ExprTree.{ExprTree}
use Rattle.st_tree.specs.StmtTree.{LabelTree, StmtTree, StmtTrees, ArmTrees, BranchTrees, OtherTree, assign, if_, case, for_, no_stmts, and_stmt, no_arms}
use Rattle.st_tree.specs.StmtTree.{and_arm, no_branches, and_branch, no_other, other}
use Rattle.st_tree.specs.Operators.{any_level}
use Rattle.st_tree.specs.Placed.{Placed, at}
use Rattle.st_tree.specs.Expressions.{SpellsExpr}
use Rattle.st_tree.specs.Labels.{SpellsLabels}

-- the step of a FOR, where one is given
pub data SpellsStep (bytes : Token → List ℕ) : ℕ → Option ExprTree → List Placed → Type 0 where
  spells_no_step : {d : ℕ} → SpellsStep bytes d None []
  spells_step : {d : ℕ} (e : ExprTree) (b : Token) (ts : List Placed) →
      b.tok ≡ tok.Key key.By →
      SpellsExpr bytes d any_level e ts →
      SpellsStep bytes d (Some e) (at d b ∷ ts)

mutual
  -- a statement at depth d
  pub data SpellsStmt (bytes : Token → List ℕ) : ℕ → StmtTree → List Placed → Type 0 where
    spells_assign : {d : ℕ} (n a : Token) (e : ExprTree) (ts : List Placed) →
        n.tok ≡ tok.Name →
        a.tok ≡ tok.Sym sym.Assign →
        SpellsExpr bytes d any_level e ts →
        SpellsStmt bytes d (assign (bytes n) e n.spot) (at d n ∷ at d a ∷ ts)
    spells_if : {d : ℕ} (arms : ArmTrees) (o : OtherTree) (ts : List Placed) →
        SpellsArms bytes d key.If arms o ts →
        SpellsStmt bytes d (if_ arms o) ts
    spells_case : {d : ℕ} (e : ExprTree) (branches : BranchTrees) (o : OtherTree) (c f : Token) (ts us : List Placed) →
        c.tok ≡ tok.Key key.Case →
        SpellsExpr bytes d any_level e ts →
        f.tok ≡ tok.Key key.Of →
        SpellsBranches bytes d branches o us →
        SpellsStmt bytes d (case e branches o c.spot) (at d c ∷ (ts ++ at d f ∷ us))
    spells_for : {d : ℕ} (first last : ExprTree) (by : Option ExprTree) (body : StmtTrees) (f n a t o e : Token) (ts us vs ws : List Placed) →
        f.tok ≡ tok.Key key.For →
        n.tok ≡ tok.Name →
        a.tok ≡ tok.Sym sym.Assign →
        SpellsExpr bytes d any_level first ts →
        t.tok ≡ tok.Key key.To →
        SpellsExpr bytes d any_level last us →
        SpellsStep bytes d by vs →
        o.tok ≡ tok.Key key.Do →
        SpellsStmts bytes (suc d) body ws →
        e.tok ≡ tok.Key key.EndFor →
        SpellsStmt bytes d (for_ (bytes n) n.spot first last by body f.spot)
        (at d f ∷ at d n ∷ at d a ∷ (ts ++ at d t ∷ (us ++ (vs ++ at d o ∷ (ws ++ at d e ∷ [])))))

  -- statements at depth d, each with its semicolon, and semicolons alone anywhere
  pub data SpellsStmts (bytes : Token → List ℕ) : ℕ → StmtTrees → List Placed → Type 0 where
    spells_no_stmt : {d : ℕ} → SpellsStmts bytes d no_stmts []
    spells_empty : {d : ℕ} (ss : StmtTrees) (c : Token) (ts : List Placed) →
        c.tok ≡ tok.Sym sym.Semi →
        SpellsStmts bytes d ss ts →
        SpellsStmts bytes d ss (at d c ∷ ts)
    spells_stmt : {d : ℕ} (s : StmtTree) (ss : StmtTrees) (c : Token) (ts us : List Placed) →
        SpellsStmt bytes d s ts →
        c.tok ≡ tok.Sym sym.Semi →
        SpellsStmts bytes d ss us →
        SpellsStmts bytes d (and_stmt s ss) (ts ++ at d c ∷ us)

  -- an IF at depth d, from the keyword k of an arm, which is IF or ELSIF, to END_IF
  pub data SpellsArms (bytes : Token → List ℕ) : ℕ → Key → ArmTrees → OtherTree → List Placed → Type 0 where
    spells_arm : {d : ℕ} (k : Key) (e : ExprTree) (body : StmtTrees) (arms : ArmTrees) (o : OtherTree) (i t : Token) (ts us vs : List Placed) →
        i.tok ≡ tok.Key k →
        SpellsExpr bytes d any_level e ts →
        t.tok ≡ tok.Key key.Then →
        SpellsStmts bytes (suc d) body us →
        SpellsMoreArms bytes d arms o vs →
        SpellsArms bytes d k (and_arm e body i.spot arms) o (at d i ∷ (ts ++ at d t ∷ (us ++ vs)))

  -- what comes behind the body of an arm: another arm, ELSE with its body, or END_IF
  pub data SpellsMoreArms (bytes : Token → List ℕ) : ℕ → ArmTrees → OtherTree → List Placed → Type 0 where
    spells_elsif : {d : ℕ} (arms : ArmTrees) (o : OtherTree) (ts : List Placed) →
        SpellsArms bytes d key.Elsif arms o ts →
        SpellsMoreArms bytes d arms o ts
    spells_if_else : {d : ℕ} (body : StmtTrees) (l e : Token) (ts : List Placed) →
        l.tok ≡ tok.Key key.Else →
        SpellsStmts bytes (suc d) body ts →
        e.tok ≡ tok.Key key.EndIf →
        SpellsMoreArms bytes d no_arms (other body) (at d l ∷ (ts ++ at d e ∷ []))
    spells_end_if : {d : ℕ} (e : Token) →
        e.tok ≡ tok.Key key.EndIf →
        SpellsMoreArms bytes d no_arms no_other (at d e ∷ [])

  -- a CASE at depth d, from the labels of a branch to END_CASE
  pub data SpellsBranches (bytes : Token → List ℕ) : ℕ → BranchTrees → OtherTree → List Placed → Type 0 where
    spells_branch : {d : ℕ} (ls : List LabelTree) (body : StmtTrees) (branches : BranchTrees) (o : OtherTree) (ts us vs : List Placed) →
        SpellsLabels bytes (suc d) ls ts →
        SpellsStmts bytes (suc d) body us →
        SpellsMoreBranches bytes d branches o vs →
        SpellsBranches bytes d (and_branch ls body branches) o (ts ++ (us ++ vs))

  -- what comes behind the body of a branch: another branch, ELSE with its body, or END_CASE
  pub data SpellsMoreBranches (bytes : Token → List ℕ) : ℕ → BranchTrees → OtherTree → List Placed → Type 0 where
    spells_next_branch : {d : ℕ} (branches : BranchTrees) (o : OtherTree) (ts : List Placed) →
        SpellsBranches bytes d branches o ts →
        SpellsMoreBranches bytes d branches o ts
    spells_case_else : {d : ℕ} (body : StmtTrees) (l e : Token) (ts : List Placed) →
        l.tok ≡ tok.Key key.Else →
        SpellsStmts bytes (suc d) body ts →
        e.tok ≡ tok.Key key.EndCase →
        SpellsMoreBranches bytes d no_branches (other body) (at d l ∷ (ts ++ at d e ∷ []))
    spells_end_case : {d : ℕ} (e : Token) →
        e.tok ≡ tok.Key key.EndCase →
        SpellsMoreBranches bytes d no_branches no_other (at d e ∷ [])
