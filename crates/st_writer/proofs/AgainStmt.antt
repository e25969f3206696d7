-- Statements: tokens that the canonical text of spelled ones spells, spell them again, no deeper than before.
use Rattle.std.proofs.Common.{◌≡◌, ℕ, suc, ◌≤◌, List, [], ◌∷◌, ◌++◌, Option, Some, None, refl, ap, ◌∙◌, append_assoc, arith}
use Rattle.st_lexer.specs.declared.token.Key.{Key}
use Rattle.st_lexer.specs.declared.token.Key.TheVariants as key
use Rattle.st_lexer.specs.declared.token.Sym.TheVariants as symbol
use Rattle.st_lexer.specs.declared.token.Tok.TheVariants as tok
use Rattle.st_lexer.specs.declared.token.Token.{Token}
use Rattle.st_tree.specs.ExprTree.{ExprTree}
use Rattle.st_tree.specs.StmtTree.{StmtTree, StmtTrees, ArmTrees, BranchTrees, OtherTree, assign, if_, case, for_, no_stmts, and_stmt, no_arms, and_arm}
use Rattle.st_tree.specs.StmtTree.{no_branches, and_branch, no_other, other}
use Rattle.st_tree.specs.Bare.{bare_expr_or_none, bare_stmt, bare_stmts, bare_arms, bare_branches, bare_other, nowhere}
use Rattle.st_tree.specs.Operators.{any_level}
use Rattle.st_tree.specs.Placed.{Placed, at, Within}
use Rattle.st_tree.specs.Statements.{SpellsStep, SpellsStmt, SpellsStmts, SpellsArms, SpellsMoreArms, SpellsBranches, SpellsMoreBranches, spells_no_step}
use Rattle.st_tree.specs.Statements.{spells_step, spells_assign, spells_if, spells_case, spells_for, spells_no_stmt, spells_empty, spells_stmt, spells_arm}
use Rattle.st_tree.specs.Statements.{spells_elsif, spells_if_else, spells_end_if, spells_branch, spells_next_branch, spells_case_else, spells_end_case}
use Rattle.st_writer.specs.Lexemes as lexeme
use Rattle.st_writer.specs.Lexemes.{Lexeme}
use Rattle.st_writer.specs.CanonicalExpr.{expr}
use Rattle.st_writer.specs.CanonicalStmt as canon
use Rattle.st_writer.proofs.Written.{Written}
use Rattle.st_writer.proofs.WrittenParts.{cut, regrouped, regrouped_twice, line_before, line_alone, space_behind, Placing, no_token, token_before, last_token}
use Rattle.st_writer.proofs.WrittenParts.{both, Ended, ended, ended_token, ended_both, within-split}
use Rattle.st_writer.proofs.AgainExpr.{expr_again}
use Rattle.st_writer.proofs.AgainLabels.{labels_again}

-- the tokens spell the step at depth d, spots aside
pub record StepAgain (bytes : Token → List ℕ) (limit d : ℕ) (by : Option ExprTree) (ts : List Token) : Type 0 where
  pub tree : Option ExprTree
  pub placing : Placing limit ts
  pub spells : SpellsStep bytes d tree placing.placed
  pub same : bare_expr_or_none tree ≡ bare_expr_or_none by

-- the tokens spell the statement and its semicolon
pub record StmtAgain (bytes : Token → List ℕ) (limit d : ℕ) (s : StmtTree) (ts : List Token) : Type 0 where
  pub tree : StmtTree
  pub ended : Ended limit ts
  pub spells : SpellsStmt bytes d tree ended.placing.placed
  pub same : bare_stmt tree ≡ bare_stmt s

pub record StmtsAgain (bytes : Token → List ℕ) (limit d : ℕ) (ss : StmtTrees) (ts : List Token) : Type 0 where
  pub trees : StmtTrees
  pub placing : Placing limit ts
  pub spells : SpellsStmts bytes d trees placing.placed
  pub same : bare_stmts trees ≡ bare_stmts ss

-- the tokens spell the arms, what follows ELSE, and the semicolon
pub record ArmsAgain (bytes : Token → List ℕ) (limit d : ℕ) (k : Key) (arms : ArmTrees) (o : OtherTree) (ts : List Token) : Type 0 where
  pub trees : ArmTrees
  pub otherwise : OtherTree
  pub ended : Ended limit ts
  pub spells : SpellsArms bytes d k trees otherwise ended.placing.placed
  pub same : bare_arms trees ≡ bare_arms arms
  pub same_other : bare_other otherwise ≡ bare_other o

pub record MoreArmsAgain (bytes : Token → List ℕ) (limit d : ℕ) (arms : ArmTrees) (o : OtherTree) (ts : List Token) : Type 0 where
  pub trees : ArmTrees
  pub otherwise : OtherTree
  pub ended : Ended limit ts
  pub spells : SpellsMoreArms bytes d trees otherwise ended.placing.placed
  pub same : bare_arms trees ≡ bare_arms arms
  pub same_other : bare_other otherwise ≡ bare_other o

-- the tokens spell the branches, what follows ELSE, and the semicolon
pub record BranchesAgain (bytes : Token → List ℕ) (limit d : ℕ) (branches : BranchTrees) (o : OtherTree) (ts : List Token) : Type 0 where
  pub trees : BranchTrees
  pub otherwise : OtherTree
  pub ended : Ended limit ts
  pub spells : SpellsBranches bytes d trees otherwise ended.placing.placed
  pub same : bare_branches trees ≡ bare_branches branches
  pub same_other : bare_other otherwise ≡ bare_other o

pub record MoreBranchesAgain (bytes : Token → List ℕ) (limit d : ℕ) (branches : BranchTrees) (o : OtherTree) (ts : List Token) : Type 0 where
  pub trees : BranchTrees
  pub otherwise : OtherTree
  pub ended : Ended limit ts
  pub spells : SpellsMoreBranches bytes d trees otherwise ended.placing.placed
  pub same : bare_branches trees ≡ bare_branches branches
  pub same_other : bare_other otherwise ≡ bare_other o

-- the line that ends a statement: its keyword and the semicolon
abbrev end_line : ℕ → Key → List Lexeme
end_line i k = lexeme.line i (lexeme.word k ∷ lexeme.symbol symbol.Semi ∷ [])

-- a line with an expression between two keywords
abbrev head_line : ℕ → Key → Key → ExprTree → List Lexeme
head_line i k j e = lexeme.line i (lexeme.word k ∷ lexeme.blank ∷ (expr any_level e ++ lexeme.blank ∷ lexeme.word j ∷ []))

module _ (b c : Token → List ℕ) (limit : ℕ) where
  -- the last keyword of a statement, and the semicolon
  record Closing (k : Key) (us : List Token) : Type 0 where
    token : Token
    semi : Token
    parts : us ≡ token ∷ semi ∷ []
    is : token.tok ≡ tok.Key k
    semi_is : semi.tok ≡ tok.Sym symbol.Semi

  closing : (i : ℕ) (k : Key) (us : List Token) → Written c (end_line i k) us → Closing k us
  closing i k us w =
      let v = line_alone c i (lexeme.word k ∷ lexeme.symbol symbol.Semi ∷ []) us w in
      let x = v.5 in
      record {
        token = v.0;
        semi = x.0;
        parts = v.2 ∙ ap (λ (ts : List Token). v.0 ∷ ts) (x.2 ∙ ap (λ (ts : List Token). x.0 ∷ ts) x.5);
        is = v.3;
        semi_is = x.3;
      }

  abbrev closed : {k : Key} (n : ℕ) (us : List Token) → n ≤ limit → Closing k us → Ended limit us
  closed n us le z =
      record { front = z.token ∷ []; semi = z.semi; parts = z.parts; is = z.semi_is; placing = last_token limit n z.token [] (z.token ∷ []) le refl refl }

  -- a line with an expression between two keywords, and what stands behind it
  record Headed (k j : Key) (e : ExprTree) (rest : List Lexeme) (us : List Token) : Type 0 where
    first : Token
    middle : List Token
    last : Token
    back : List Token
    parts : us ≡ first ∷ (middle ++ last ∷ back)
    first_is : first.tok ≡ tok.Key k
    middle_is : Written c (expr any_level e) middle
    last_is : last.tok ≡ tok.Key j
    back_is : Written c rest back

  heading : (i : ℕ) (k j : Key) (e : ExprTree) (rest : List Lexeme) (us : List Token) → Written c (head_line i k j e ++ rest) us → Headed k j e rest us
  heading i k j e rest us w =
      let end : List Lexeme = lexeme.blank ∷ lexeme.word j ∷ [] in
      let v = line_before c i (lexeme.word k ∷ lexeme.blank ∷ (expr any_level e ++ end)) rest us w in
      let r = cut c (expr any_level e) (end ++ rest) v.1 (regrouped c (expr any_level e) end rest v.1 v.5) in
      let x = r.back_is in
      record {
        first = v.0;
        middle = r.front;
        last = x.0;
        back = x.1;
        parts = v.2 ∙ ap (λ (ts : List Token). v.0 ∷ ts) (r.parts ∙ ap (λ (ts : List Token). r.front ++ ts) x.2);
        first_is = v.3;
        middle_is = r.front_is;
        last_is = x.3;
        back_is = x.5;
      }

  abbrev headed : {k j : Key} {e : ExprTree} {rest : List Lexeme} (n : ℕ) (us : List Token) → n ≤ limit → (h : Headed k j e rest us) → Placing limit h.middle
      → Ended limit h.back → Ended limit us
  headed n us le h p r =
      ended_token limit n h.first (h.middle ++ h.last ∷ h.back) us le h.parts
      (ended_both limit h.middle (h.last ∷ h.back) (h.middle ++ h.last ∷ h.back) refl p (ended_token limit n h.last h.back (h.last ∷ h.back) le refl r))

  step_again : {d : ℕ} {by : Option ExprTree} {ps : List Placed} → SpellsStep b d by ps → Within limit ps → (n : ℕ) → n ≤ d → (us : List Token)
      → Written c (canon.step by) us → StepAgain c limit n by us
  step_again spells_no_step within n le us w = record { tree = None; placing = no_token limit us w; spells = spells_no_step; same = refl }
  step_again (spells_step e t ts k s) within n le us w =
      let q = expr_again b c limit s within.1 n le (omega arith) w.1 (space_behind c (expr any_level e) w.1 w.5) in
      record {
        tree = Some q.tree;
        placing = token_before limit n w.0 w.1 us (omega (arith, le, within.0)) w.2 q.placing;
        spells = spells_step q.tree w.0 q.placing.placed w.3 q.spells;
        same = ap (λ (x : ExprTree). Some x) q.same;
      }

  -- At depth n, which is at most that of before. The number i is the level of the line.
  mutual
    stmt_again : {d : ℕ} {s : StmtTree} {ps : List Placed} → SpellsStmt b d s ps → Within limit ps → (n : ℕ) → n ≤ d → (i : ℕ) (us : List Token)
        → Written c (canon.stmt i s) us → StmtAgain c limit n s us
    stmt_again (spells_assign x a e ts kx ka s) within n le i us w =
        let end : List Lexeme = lexeme.symbol symbol.Semi ∷ [] in
        let v = line_alone c i (lexeme.name (b x) ∷ lexeme.blank ∷ lexeme.symbol symbol.Assign ∷ lexeme.blank ∷ (expr any_level e ++ end)) us w in
        let y = v.5 in
        let r = cut c (expr any_level e) end y.1 y.5 in
        let z = r.back_is in
        let most : n ≤ limit = omega (arith, le, within.0) in
        let q = expr_again b c limit s within.1.1 n le (omega arith) r.front r.front_is in
        let value : Ended limit y.1 =
        ended limit r.front z.0 y.1 z.3 (r.parts ∙ ap (λ (vs : List Token). r.front ++ vs) (z.2 ∙ ap (λ (vs : List Token). z.0 ∷ vs) z.5)) q.placing in
        record {
          tree = assign (c v.0) q.tree v.0.spot;
          ended = ended_token limit n v.0 v.1 us most v.2 (ended_token limit n y.0 y.1 v.1 most y.2 value);
          spells = spells_assign v.0 y.0 q.tree q.placing.placed v.3 y.3 q.spells;
          same = λ j. assign (v.4 j) (q.same j) nowhere;
        }
    stmt_again (spells_if arms o ts s) within n le i us w =
        let q = arms_again s within n le i us w in
        record {
          tree = if_ q.trees q.otherwise;
          ended = q.ended;
          spells = spells_if q.trees q.otherwise q.ended.placing.placed q.spells;
          same = λ j. if_ (q.same j) (q.same_other j);
        }
    stmt_again {d = d} (spells_case e cases o t f ts vs kt s kf u) within n le i us w =
        let rest = canon.branches_of i cases ++ (canon.else_of i o ++ end_line i key.EndCase) in
        let h = heading i key.Case key.Of e rest us w in
        let most : n ≤ limit = omega (arith, le, within.0) in
        let parts = within-split limit ts (at d f ∷ vs) within.1 in
        let p = expr_again b c limit s parts.0 n le (omega arith) h.middle h.middle_is in
        let q = branches_again u parts.1.1 n le i h.back h.back_is in
        record {
          tree = case p.tree q.trees q.otherwise h.first.spot;
          ended = headed n us most h p.placing q.ended;
          spells = spells_case p.tree q.trees q.otherwise h.first h.last p.placing.placed q.ended.placing.placed h.first_is p.spells h.last_is q.spells;
          same = λ j. case (p.same j) (q.same j) (q.same_other j) nowhere;
        }
    stmt_again {d = d} (spells_for first last by body f x a t o e ts vs ws zs kf kx ka s kt u st ko v ke) within n le i us w =
        let most : n ≤ limit = omega (arith, le, within.0) in
        -- the depths of before
        let in_first = within-split limit ts (at d t ∷ (vs ++ (ws ++ at d o ∷ (zs ++ at d e ∷ [])))) within.1.1.1 in
        let in_last = within-split limit vs (ws ++ at d o ∷ (zs ++ at d e ∷ [])) in_first.1.1 in
        let in_step = within-split limit ws (at d o ∷ (zs ++ at d e ∷ [])) in_last.1 in
        let in_body = within-split limit zs (at d e ∷ []) in_step.1.1 in
        -- the lexemes
        let step : List Lexeme = canon.step by in
        let do_ : List Lexeme = lexeme.word key.Do ∷ [] in
        let below : List Lexeme = canon.stmts (suc i) body ++ end_line i key.EndFor in
        let behind_last : List Lexeme = lexeme.blank ∷ (step ++ do_) in
        let behind_first : List Lexeme = lexeme.blank ∷ lexeme.word key.To ∷ lexeme.blank ∷ (expr any_level last ++ behind_last) in
        -- the tokens: FOR, the name, `:=`, the first value, TO, the last one, the step, DO, the body and the end
        let opening =
        line_before c i
        (lexeme.word key.For ∷ lexeme.blank ∷ lexeme.name
        (b x) ∷ lexeme.blank ∷ lexeme.symbol symbol.Assign ∷ lexeme.blank ∷ (expr any_level first ++ behind_first)) below us w in
        let named = opening.5 in
        let assigned = named.5 in
        let r = cut c (expr any_level first) (behind_first ++ below) assigned.1 (regrouped c (expr any_level first) behind_first below assigned.1 assigned.5) in
        let to = r.back_is in
        let r_last = cut c (expr any_level last) (behind_last ++ below) to.1 (regrouped c (expr any_level last) behind_last below to.1 to.5) in
        let r_step = cut c step (do_ ++ below) r_last.back (regrouped c step do_ below r_last.back r_last.back_is) in
        let does = r_step.back_is in
        let r_body = cut c (canon.stmts (suc i) body) (end_line i key.EndFor) does.1 does.5 in
        let z = closing i key.EndFor r_body.back r_body.back_is in
        -- its parts, spelled again
        let p = expr_again b c limit s in_first.0 n le (omega arith) r.front r.front_is in
        let q = expr_again b c limit u in_last.0 n le (omega arith) r_last.front r_last.front_is in
        let y = step_again st in_step.0 n le r_step.front r_step.front_is in
        let m = stmts_again v in_body.0 (suc n) (omega (arith, le)) (suc i) r_body.front r_body.front_is in
        let from_body : Ended limit does.1 = ended_both limit r_body.front r_body.back does.1 r_body.parts m.placing (closed n r_body.back most z) in
        let from_step : Ended limit r_last.back =
        ended_both limit r_step.front r_step.back r_last.back r_step.parts y.placing
        (ended_token limit n does.0 does.1 r_step.back most does.2 from_body) in
        let from_last : Ended limit to.1 = ended_both limit r_last.front r_last.back to.1 r_last.parts q.placing from_step in
        let from_first : Ended limit assigned.1 =
        ended_both limit r.front r.back assigned.1 r.parts p.placing (ended_token limit n to.0 to.1 r.back most to.2 from_last) in
        record {
          tree = for_ (c named.0) named.0.spot p.tree q.tree y.tree m.trees opening.0.spot;
          ended = ended_token limit n opening.0 opening.1 us most opening.2
              (ended_token limit n named.0 named.1 opening.1 most named.2 (ended_token limit n assigned.0 assigned.1 named.1 most assigned.2 from_first));
          spells = spells_for p.tree q.tree y.tree m.trees opening.0 named.0 assigned.0 to.0 does.0 z.token p.placing.placed q.placing.placed y.placing.placed m.placing.placed
              opening.3 named.3 assigned.3 p.spells to.3 q.spells y.spells does.3 m.spells z.is;
          same = λ j. for_ (named.4 j) nowhere (p.same j) (q.same j) (y.same j) (m.same j) nowhere;
        }

    pub stmts_again : {d : ℕ} {ss : StmtTrees} {ps : List Placed} → SpellsStmts b d ss ps → Within limit ps → (n : ℕ) → n ≤ d → (i : ℕ) (us : List Token)
        → Written c (canon.stmts i ss) us → StmtsAgain c limit n ss us
    stmts_again spells_no_stmt within n le i us w = record { trees = no_stmts; placing = no_token limit us w; spells = spells_no_stmt; same = refl }
    stmts_again (spells_empty ss t ts k s) within n le i us w = stmts_again s within.1 n le i us w
    stmts_again {d = d} (spells_stmt s ss t ts vs p k q) within n le i us w =
        let r = cut c (canon.stmt i s) (canon.stmts i ss) us w in
        let parts = within-split limit ts (at d t ∷ vs) within in
        let x = stmt_again p parts.0 n le i r.front r.front_is in
        let y = stmts_again q parts.1.1 n le i r.back r.back_is in
        let semi = x.ended.semi in
        let behind : Placing limit (semi ∷ r.back) = token_before limit n semi r.back (semi ∷ r.back) (omega (arith, le, parts.1.0)) refl y.placing in
        let together : us ≡ x.ended.front ++ (semi ∷ r.back) = r.parts ∙ ap (λ (z : List Token). z ++ r.back) x.ended.parts
        ∙ append_assoc x.ended.front (semi ∷ []) r.back in
        record {
          trees = and_stmt x.tree y.trees;
          placing = both limit x.ended.front (semi ∷ r.back) us together x.ended.placing behind;
          spells = spells_stmt x.tree y.trees semi x.ended.placing.placed y.placing.placed x.spells x.ended.is y.spells;
          same = λ j. and_stmt (x.same j) (y.same j);
        }

    arms_again : {d : ℕ} {k : Key} {arms : ArmTrees} {o : OtherTree} {ps : List Placed} → SpellsArms b d k arms o ps → Within limit ps → (n : ℕ) → n ≤ d
        → (i : ℕ) (us : List Token)
        → Written c (canon.arms_from i k arms ++ (canon.else_of i o ++ end_line i key.EndIf)) us → ArmsAgain c limit n k arms o us
    arms_again {d = d} (spells_arm k e body arms o x t ts vs ws kx s kt u v) within n le i us w =
        let tail : List Lexeme = canon.else_of i o ++ end_line i key.EndIf in
        let bodies = canon.stmts (suc i) body in
        let others = canon.arms_from i key.Elsif arms in
        let h = heading i k key.Then e (bodies ++ (others ++ tail)) us (regrouped_twice c (head_line i k key.Then e) bodies others tail us w) in
        let r = cut c bodies (others ++ tail) h.back h.back_is in
        let most : n ≤ limit = omega (arith, le, within.0) in
        let parts = within-split limit ts (at d t ∷ (vs ++ ws)) within.1 in
        let inner = within-split limit vs ws parts.1.1 in
        let p = expr_again b c limit s parts.0 n le (omega arith) h.middle h.middle_is in
        let q = stmts_again u inner.0 (suc n) (omega (arith, le)) (suc i) r.front r.front_is in
        let m = more_arms_again v inner.1 n le i r.back r.back_is in
        let rest : Ended limit h.back = ended_both limit r.front r.back h.back r.parts q.placing m.ended in
        record {
          trees = and_arm p.tree q.trees h.first.spot m.trees;
          otherwise = m.otherwise;
          ended = headed n us most h p.placing rest;
          spells = spells_arm k p.tree q.trees m.trees m.otherwise h.first h.last p.placing.placed q.placing.placed m.ended.placing.placed h.first_is p.spells h.last_is q.spells m.spells;
          same = λ j. and_arm (p.same j) (q.same j) nowhere (m.same j);
          same_other = m.same_other;
        }

    more_arms_again : {d : ℕ} {arms : ArmTrees} {o : OtherTree} {ps : List Placed} → SpellsMoreArms b d arms o ps → Within limit ps → (n : ℕ) → n ≤ d
        → (i : ℕ) (us : List Token)
        → Written c (canon.arms_from i key.Elsif arms ++ (canon.else_of i o ++ end_line i key.EndIf)) us → MoreArmsAgain c limit n arms o us
    more_arms_again (spells_elsif arms o ts s) within n le i us w =
        let q = arms_again s within n le i us w in
        record {
          trees = q.trees;
          otherwise = q.otherwise;
          ended = q.ended;
          spells = spells_elsif q.trees q.otherwise q.ended.placing.placed q.spells;
          same = q.same;
          same_other = q.same_other;
        }
    more_arms_again {d = d} (spells_if_else body l e ts kl s ke) within n le i us w =
        let bodies = canon.stmts (suc i) body in
        let v = line_before c i (lexeme.word key.Else ∷ []) (bodies ++ end_line i key.EndIf) us
        (regrouped c (lexeme.line i (lexeme.word key.Else ∷ [])) bodies (end_line i key.EndIf) us w) in
        let r = cut c bodies (end_line i key.EndIf) v.1 v.5 in
        let z = closing i key.EndIf r.back r.back_is in
        let most : n ≤ limit = omega (arith, le, within.0) in
        let parts = within-split limit ts (at d e ∷ []) within.1 in
        let q = stmts_again s parts.0 (suc n) (omega (arith, le)) (suc i) r.front r.front_is in
        record {
          trees = no_arms;
          otherwise = other q.trees;
          ended = ended_token limit n v.0 v.1 us most v.2 (ended_both limit r.front r.back v.1 r.parts q.placing (closed n r.back most z));
          spells = spells_if_else q.trees v.0 z.token q.placing.placed v.3 q.spells z.is;
          same = refl;
          same_other = ap (λ (x : StmtTrees). other x) q.same;
        }
    more_arms_again (spells_end_if e k) within n le i us w =
        let z = closing i key.EndIf us w in
        record {
          trees = no_arms;
          otherwise = no_other;
          ended = closed n us (omega (arith, le, within.0)) z;
          spells = spells_end_if z.token z.is;
          same = refl;
          same_other = refl;
        }

    branches_again : {d : ℕ} {branches : BranchTrees} {o : OtherTree} {ps : List Placed} → SpellsBranches b d branches o ps → Within limit ps → (n : ℕ) → n ≤ d
        → (i : ℕ) (us : List Token)
        → Written c (canon.branches_of i branches ++ (canon.else_of i o ++ end_line i key.EndCase)) us → BranchesAgain c limit n branches o us
    branches_again (spells_branch ls body cases o ts vs ws s u v) within n le i us w =
        let tail : List Lexeme = canon.else_of i o ++ end_line i key.EndCase in
        let before : List Lexeme = canon.labels ls ++ lexeme.symbol symbol.Colon ∷ [] in
        let bodies = canon.stmts (suc (suc i)) body in
        let others = canon.branches_of i cases in
        let r = cut c before (bodies ++ (others ++ tail)) us
        (line_before c (suc i) before (bodies ++ (others ++ tail)) us (regrouped_twice c (lexeme.line (suc i) before) bodies others tail us w)) in
        let r2 = cut c bodies (others ++ tail) r.back r.back_is in
        let parts = within-split limit ts (vs ++ ws) within in
        let inner = within-split limit vs ws parts.1 in
        let p = labels_again b c limit s parts.0 (suc n) (omega (arith, le)) r.front r.front_is in
        let q = stmts_again u inner.0 (suc n) (omega (arith, le)) (suc (suc i)) r2.front r2.front_is in
        let m = more_branches_again v inner.1 n le i r2.back r2.back_is in
        let rest : Ended limit r.back = ended_both limit r2.front r2.back r.back r2.parts q.placing m.ended in
        record {
          trees = and_branch p.trees q.trees m.trees;
          otherwise = m.otherwise;
          ended = ended_both limit r.front r.back us r.parts p.placing rest;
          spells = spells_branch p.trees q.trees m.trees m.otherwise p.placing.placed q.placing.placed m.ended.placing.placed p.spells q.spells m.spells;
          same = λ j. and_branch (p.same j) (q.same j) (m.same j);
          same_other = m.same_other;
        }

    more_branches_again : {d : ℕ} {branches : BranchTrees} {o : OtherTree} {ps : List Placed} → SpellsMoreBranches b d branches o ps → Within limit ps → (n : ℕ)
        → n ≤ d → (i : ℕ) (us : List Token)
        → Written c (canon.branches_of i branches ++ (canon.else_of i o ++ end_line i key.EndCase)) us → MoreBranchesAgain c limit n branches o us
    more_branches_again (spells_next_branch cases o ts s) within n le i us w =
        let q = branches_again s within n le i us w in
        record {
          trees = q.trees;
          otherwise = q.otherwise;
          ended = q.ended;
          spells = spells_next_branch q.trees q.otherwise q.ended.placing.placed q.spells;
          same = q.same;
          same_other = q.same_other;
        }
    more_branches_again {d = d} (spells_case_else body l e ts kl s ke) within n le i us w =
        let bodies = canon.stmts (suc i) body in
        let v = line_before c i (lexeme.word key.Else ∷ []) (bodies ++ end_line i key.EndCase) us
        (regrouped c (lexeme.line i (lexeme.word key.Else ∷ [])) bodies (end_line i key.EndCase) us w) in
        let r = cut c bodies (end_line i key.EndCase) v.1 v.5 in
        let z = closing i key.EndCase r.back r.back_is in
        let most : n ≤ limit = omega (arith, le, within.0) in
        let parts = within-split limit ts (at d e ∷ []) within.1 in
        let q = stmts_again s parts.0 (suc n) (omega (arith, le)) (suc i) r.front r.front_is in
        record {
          trees = no_branches;
          otherwise = other q.trees;
          ended = ended_token limit n v.0 v.1 us most v.2 (ended_both limit r.front r.back v.1 r.parts q.placing (closed n r.back most z));
          spells = spells_case_else q.trees v.0 z.token q.placing.placed v.3 q.spells z.is;
          same = refl;
          same_other = ap (λ (x : StmtTrees). other x) q.same;
        }
    more_branches_again (spells_end_case e k) within n le i us w =
        let z = closing i key.EndCase us w in
        record {
          trees = no_branches;
          otherwise = no_other;
          ended = closed n us (omega (arith, le, within.0)) z;
          spells = spells_end_case z.token z.is;
          same = refl;
          same_other = refl;
        }
