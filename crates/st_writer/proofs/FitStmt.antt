-- The lexemes of statements fit, before any that fit.
use Rattle.std.proofs.Common.{ℕ, zero, suc, List, [], ◌∷◌, ◌++◌, Option, Some, None, refl}
use Rattle.st_lexer.specs.declared.token.Key.{Key}
use Rattle.st_lexer.specs.declared.token.Key.TheVariants as key
use Rattle.st_lexer.specs.declared.token.Sym.TheVariants as symbol
use Rattle.st_tree.specs.declared.expr.UnOp.TheVariants as un
use Rattle.st_tree.specs.ExprTree.{ExprTree, literal, name, unary, binary, call}
use Rattle.st_tree.specs.StmtTree.{LabelTree, StmtTree, StmtTrees, ArmTrees, BranchTrees, OtherTree, assign, if_, case, for_, no_stmts, and_stmt, no_arms}
use Rattle.st_tree.specs.StmtTree.{and_arm, no_branches, and_branch, no_other, other}
use Rattle.st_tree.specs.Operators.{any_level}
use Rattle.st_writer.specs.Lexemes as lexeme
use Rattle.st_writer.specs.CanonicalExpr.{expr}
use Rattle.st_writer.specs.CanonicalStmt.{negated, constant, last_of_range, label, more_labels, labels, step, stmt, stmts, arms_from, branches_of, else_of}
use Rattle.st_writer.proofs.IsReadable.{IsName, ReadableExpr, ReadableOrNone, ReadableLabels, ReadableStmt, ReadableStmts, ReadableArms, ReadableBranches}
use Rattle.st_writer.proofs.IsReadable.{ReadableOther}
use Rattle.st_writer.proofs.Fits.{fit-blank, fit-line-end, fit-semi, fit-comma, fit-minus, fit-assign, fit-dots, fit-colon-at-end, fit-word, fit-key}
use Rattle.st_writer.proofs.Fits.{fit-number}
use Rattle.st_writer.proofs.Covered.{AllFit}
use Rattle.st_writer.proofs.FitExpr.{Ends, joined, fit-expr, fit-expr-and}

-- ---- lines

fit-indent : (n : ℕ) (ys : List lexeme.Lexeme) → AllFit ys → AllFit (lexeme.indent n ++ ys)
fit-indent zero ys fit = fit
fit-indent (suc n) ys fit = (fit-blank _, (fit-blank _, fit-indent n ys fit))

pub fit-line : (n : ℕ) (xs ys : List lexeme.Lexeme) → AllFit (xs ++ lexeme.line_end ∷ ys) → AllFit (lexeme.line n xs ++ ys)
fit-line n xs ys fit =
    let end = lexeme.line_end ∷ [] in
    joined (lexeme.indent n) (xs ++ end) ys (fit-indent n ((xs ++ end) ++ ys) (joined xs end ys fit))

-- ---- labels

fit-negated : (e : ExprTree) (ys : List lexeme.Lexeme) → ReadableExpr e → Ends ys → AllFit ys → AllFit (negated e ++ ys)
fit-negated (literal ty v s) ys r ends fit = (fit-number ty v (lexeme.text_of ys) r ends, fit)
fit-negated (name n s) ys r ends fit = fit-expr any_level (name n s) ys r ends fit
fit-negated (unary op a s) ys r ends fit = fit-expr any_level (unary op a s) ys r ends fit
fit-negated (binary op a b s) ys r ends fit = fit-expr any_level (binary op a b s) ys r ends fit
fit-negated (call n es s) ys r ends fit = fit-expr any_level (call n es s) ys r ends fit

fit-constant : (e : ExprTree) (ys : List lexeme.Lexeme) → ReadableExpr e → Ends ys → AllFit ys → AllFit (constant e ++ ys)
fit-constant (literal ty v s) ys r ends fit = fit-expr any_level (literal ty v s) ys r ends fit
fit-constant (name n s) ys r ends fit = fit-expr any_level (name n s) ys r ends fit
fit-constant (unary un.Neg a s) ys r ends fit = (fit-minus _, fit-negated a ys r ends fit)
fit-constant (unary un.Not a s) ys r ends fit = fit-expr any_level (unary un.Not a s) ys r ends fit
fit-constant (binary op a b s) ys r ends fit = fit-expr any_level (binary op a b s) ys r ends fit
fit-constant (call n es s) ys r ends fit = fit-expr any_level (call n es s) ys r ends fit

ends-first : (o : Option ExprTree) (ys : List lexeme.Lexeme) → Ends ys → Ends (last_of_range o ++ ys)
ends-first None ys ends = ends
ends-first (Some e) ys ends = refl

fit-last : (o : Option ExprTree) (ys : List lexeme.Lexeme) → ReadableOrNone o → Ends ys → AllFit ys → AllFit (last_of_range o ++ ys)
fit-last None ys r ends fit = fit
fit-last (Some e) ys r ends fit = (fit-dots _, fit-constant e ys r ends fit)

fit-label : (l : LabelTree) (ys : List lexeme.Lexeme) → ReadableExpr l.first → ReadableOrNone l.last → Ends ys → AllFit ys → AllFit (label l ++ ys)
fit-label l ys r q ends fit =
    joined (constant l.first) (last_of_range l.last) ys
    (fit-constant l.first (last_of_range l.last ++ ys) r (ends-first l.last ys ends) (fit-last l.last ys q ends fit))

ends-more : (ls : List LabelTree) (ys : List lexeme.Lexeme) → Ends ys → Ends (more_labels ls ++ ys)
ends-more [] ys ends = ends
ends-more (l ∷ ls) ys ends = refl

fit-more : (ls : List LabelTree) (ys : List lexeme.Lexeme) → ReadableLabels ls → Ends ys → AllFit ys → AllFit (more_labels ls ++ ys)
fit-more [] ys r ends fit = fit
fit-more (l ∷ ls) ys r ends fit = (
  fit-comma _,
  (fit-blank _, joined (label l) (more_labels ls) ys (fit-label l (more_labels ls ++ ys) r.0 r.1 (ends-more ls ys ends) (fit-more ls ys r.2 ends fit))),
)

fit-labels : (ls : List LabelTree) (ys : List lexeme.Lexeme) → ReadableLabels ls → Ends ys → AllFit ys → AllFit (labels ls ++ ys)
fit-labels [] ys r ends fit = fit
fit-labels (l ∷ ls) ys r ends fit =
    joined (label l) (more_labels ls) ys (fit-label l (more_labels ls ++ ys) r.0 r.1 (ends-more ls ys ends) (fit-more ls ys r.2 ends fit))

-- ---- statements

fit-step : (o : Option ExprTree) (ys : List lexeme.Lexeme) → ReadableOrNone o → AllFit ys → AllFit (step o ++ ys)
fit-step None ys r fit = fit
fit-step (Some e) ys r fit =
    (fit-key key.By _ refl, (fit-blank _, fit-expr-and e (lexeme.blank ∷ []) ys r refl (fit-blank _, fit)))

-- a name, `:=` and what stands behind them
fit-target : (f : List ℕ) (ys : List lexeme.Lexeme) → IsName f → AllFit ys
    → AllFit (lexeme.name f ∷ lexeme.blank ∷ lexeme.symbol symbol.Assign ∷ lexeme.blank ∷ ys)
fit-target f ys r fit = (fit-word f _ _ r refl, (fit-blank _, (fit-assign _, (fit-blank _, fit))))

-- a keyword with a space behind it
fit-first : (k : Key) (ys : List lexeme.Lexeme) → AllFit ys → AllFit (lexeme.word k ∷ lexeme.blank ∷ ys)
fit-first k ys fit = (fit-key k _ refl, (fit-blank _, fit))

-- a keyword that ends its line
fit-last-word : (k : Key) (ys : List lexeme.Lexeme) → AllFit ys → AllFit (lexeme.blank ∷ lexeme.word k ∷ lexeme.line_end ∷ ys)
fit-last-word k ys fit = (fit-blank _, (fit-key k _ refl, (fit-line-end _, fit)))

-- the end of a statement with bodies
fit-end : (n : ℕ) (k : Key) (ys : List lexeme.Lexeme) → AllFit ys → AllFit (lexeme.line n (lexeme.word k ∷ lexeme.symbol symbol.Semi ∷ []) ++ ys)
fit-end n k ys fit =
    fit-line n (lexeme.word k ∷ lexeme.symbol symbol.Semi ∷ []) ys (fit-key k _ refl, (fit-semi _, (fit-line-end _, fit)))

-- a line with an expression between two keywords
fit-tested : (n : ℕ) (k l : Key) (e : ExprTree) (ys : List lexeme.Lexeme) → ReadableExpr e → AllFit ys
    → AllFit (lexeme.line n (lexeme.word k ∷ lexeme.blank ∷ (expr any_level e ++ lexeme.blank ∷ lexeme.word l ∷ [])) ++ ys)
fit-tested n k l e ys r fit =
    let last = lexeme.blank ∷ lexeme.word l ∷ [] in
    let after = lexeme.line_end ∷ ys in
    fit-line n (lexeme.word k ∷ lexeme.blank ∷ (expr any_level e ++ last)) ys
    (fit-first k ((expr any_level e ++ last) ++ after) (fit-expr-and e last after r refl (fit-last-word l ys fit)))

-- the line of FOR, from the word TO
abbrev from_to : ExprTree → Option ExprTree → List lexeme.Lexeme
from_to last by = lexeme.word key.To ∷ lexeme.blank ∷ (expr any_level last ++ lexeme.blank ∷ (step by ++ lexeme.word key.Do ∷ []))

fit-to : (last : ExprTree) (by : Option ExprTree) (ys : List lexeme.Lexeme) → ReadableExpr last → ReadableOrNone by → AllFit ys
    → AllFit (from_to last by ++ lexeme.line_end ∷ ys)
fit-to last by ys r q fit =
    let after = lexeme.line_end ∷ ys in
    let last_word = lexeme.word key.Do ∷ [] in
    let rest = step by ++ last_word in
    let fit_rest : AllFit (rest ++ after) =
    joined (step by) last_word after (fit-step by (last_word ++ after) q (fit-key key.Do _ refl, (fit-line-end _, fit))) in
    fit-first key.To ((expr any_level last ++ lexeme.blank ∷ rest) ++ after) (fit-expr-and last (lexeme.blank ∷ rest) after r refl (fit-blank _, fit_rest))

-- the line of FOR
fit-for : (n : ℕ) (f : List ℕ) (first last : ExprTree) (by : Option ExprTree) (ys : List lexeme.Lexeme)
    → IsName f → ReadableExpr first → ReadableExpr last → ReadableOrNone by → AllFit ys
    → AllFit (
    lexeme.line n (
    lexeme.word key.For ∷ lexeme.blank ∷ lexeme.name f ∷ lexeme.blank ∷ lexeme.symbol symbol.Assign ∷ lexeme.blank
    ∷ (expr any_level first ++ lexeme.blank ∷ from_to last by))
    ++ ys)
fit-for n f first last by ys r q s t fit =
    let after = lexeme.line_end ∷ ys in
    let rest = expr any_level first ++ lexeme.blank ∷ from_to last by in
    let head = lexeme.name f ∷ lexeme.blank ∷ lexeme.symbol symbol.Assign ∷ lexeme.blank ∷ rest in
    let fit_rest : AllFit (rest ++ after) =
    fit-expr-and first (lexeme.blank ∷ from_to last by) after q refl (fit-blank _, fit-to last by ys s t fit) in
    fit-line n (lexeme.word key.For ∷ lexeme.blank ∷ head) ys (fit-first key.For (head ++ after) (fit-target f (rest ++ after) r fit_rest))

mutual
  pub fit-stmt : (n : ℕ) (s : StmtTree) (ys : List lexeme.Lexeme) → ReadableStmt s → AllFit ys → AllFit (stmt n s ++ ys)
  fit-stmt n (assign f e s) ys r fit =
      let semi = lexeme.symbol symbol.Semi ∷ [] in
      let after = lexeme.line_end ∷ ys in
      let value = expr any_level e ++ semi in
      fit-line n (lexeme.name f ∷ lexeme.blank ∷ lexeme.symbol symbol.Assign ∷ lexeme.blank ∷ value) ys
      (fit-target f (value ++ after) r.0 (fit-expr-and e semi after r.1 refl (fit-semi _, (fit-line-end _, fit))))
  fit-stmt n (if_ arms o) ys r fit =
      let end = lexeme.line n (lexeme.word key.EndIf ∷ lexeme.symbol symbol.Semi ∷ []) in
      let rest = else_of n o ++ end in
      let fit_rest : AllFit (rest ++ ys) = joined (else_of n o) end ys (fit-other n o (end ++ ys) r.1 (fit-end n key.EndIf ys fit)) in
      joined (arms_from n key.If arms) rest ys (fit-arms n key.If arms (rest ++ ys) r.0 fit_rest)
  fit-stmt n (case e branches o s) ys r fit =
      let end = lexeme.line n (lexeme.word key.EndCase ∷ lexeme.symbol symbol.Semi ∷ []) in
      let other_and_end = else_of n o ++ end in
      let rest = branches_of n branches ++ other_and_end in
      let fit_other : AllFit (other_and_end ++ ys) = joined (else_of n o) end ys (fit-other n o (end ++ ys) r.2 (fit-end n key.EndCase ys fit)) in
      let fit_rest : AllFit (rest ++ ys) = joined (branches_of n branches) other_and_end ys (fit-branches n branches (other_and_end ++ ys) r.1 fit_other) in
      joined (lexeme.line n (lexeme.word key.Case ∷ lexeme.blank ∷ (expr any_level e ++ lexeme.blank ∷ lexeme.word key.Of ∷ []))) rest ys
      (fit-tested n key.Case key.Of e (rest ++ ys) r.0 fit_rest)
  fit-stmt n (for_ f p first last by body s) ys r fit =
      let end = lexeme.line n (lexeme.word key.EndFor ∷ lexeme.symbol symbol.Semi ∷ []) in
      let rest = stmts (suc n) body ++ end in
      let fit_rest : AllFit (rest ++ ys) = joined (stmts (suc n) body) end ys (fit-stmts (suc n) body (end ++ ys) r.4 (fit-end n key.EndFor ys fit)) in
      joined
      (lexeme.line n
      (lexeme.word key.For ∷ lexeme.blank ∷ lexeme.name f ∷ lexeme.blank ∷ lexeme.symbol symbol.Assign ∷ lexeme.blank
      ∷ (expr any_level first ++ lexeme.blank ∷ from_to last by)))
      rest ys (fit-for n f first last by (rest ++ ys) r.0 r.1 r.2 r.3 fit_rest)

  pub fit-stmts : (n : ℕ) (ss : StmtTrees) (ys : List lexeme.Lexeme) → ReadableStmts ss → AllFit ys → AllFit (stmts n ss ++ ys)
  fit-stmts n no_stmts ys r fit = fit
  fit-stmts n (and_stmt s ss) ys r fit = joined (stmt n s) (stmts n ss) ys (fit-stmt n s (stmts n ss ++ ys) r.0 (fit-stmts n ss ys r.1 fit))

  fit-arms : (n : ℕ) (k : Key) (arms : ArmTrees) (ys : List lexeme.Lexeme) → ReadableArms arms → AllFit ys → AllFit (arms_from n k arms ++ ys)
  fit-arms n k no_arms ys r fit = fit
  fit-arms n k (and_arm e body s arms) ys r fit =
      let more = arms_from n key.Elsif arms in
      let rest = stmts (suc n) body ++ more in
      let fit_rest : AllFit (rest ++ ys) =
      joined (stmts (suc n) body) more ys (fit-stmts (suc n) body (more ++ ys) r.1 (fit-arms n key.Elsif arms ys r.2 fit)) in
      joined (lexeme.line n (lexeme.word k ∷ lexeme.blank ∷ (expr any_level e ++ lexeme.blank ∷ lexeme.word key.Then ∷ []))) rest ys
      (fit-tested n k key.Then e (rest ++ ys) r.0 fit_rest)

  fit-branches : (n : ℕ) (branches : BranchTrees) (ys : List lexeme.Lexeme) → ReadableBranches branches → AllFit ys → AllFit (branches_of n branches ++ ys)
  fit-branches n no_branches ys r fit = fit
  fit-branches n (and_branch ls body branches) ys r fit =
      let colon = lexeme.symbol symbol.Colon ∷ [] in
      let more = branches_of n branches in
      let rest = stmts (suc (suc n)) body ++ more in
      let after = lexeme.line_end ∷ (rest ++ ys) in
      let fit_rest : AllFit (rest ++ ys) =
      joined (stmts (suc (suc n)) body) more ys (fit-stmts (suc (suc n)) body (more ++ ys) r.1 (fit-branches n branches ys r.2 fit)) in
      joined (lexeme.line (suc n) (labels ls ++ colon)) rest ys
      (fit-line (suc n) (labels ls ++ colon) (rest ++ ys)
      (joined (labels ls) colon after (fit-labels ls (colon ++ after) r.0 refl (fit-colon-at-end _, (fit-line-end _, fit_rest)))))

  fit-other : (n : ℕ) (o : OtherTree) (ys : List lexeme.Lexeme) → ReadableOther o → AllFit ys → AllFit (else_of n o ++ ys)
  fit-other n no_other ys r fit = fit
  fit-other n (other body) ys r fit =
      let head = lexeme.word key.Else ∷ [] in
      joined (lexeme.line n head) (stmts (suc n) body) ys
      (fit-line n head (stmts (suc n) body ++ ys) (fit-key key.Else _ refl, (fit-line-end _, fit-stmts (suc n) body ys r fit)))
