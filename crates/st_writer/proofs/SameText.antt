-- Programs that are one, spots aside, have one canonical text.
use Rattle.std.proofs.Common.{◌≡◌, ℕ, suc, nat_lt, List, [], ◌∷◌, ◌++◌, Option, Some, None, map, flat_map, refl, ap, sym, ◌∙◌}
use Rattle.st_lexer.specs.declared.token.Key.{Key}
use Rattle.st_lexer.specs.declared.token.Key.TheVariants as key
use Rattle.st_lexer.specs.declared.token.Sym.TheVariants as symbol
use Rattle.st_tree.specs.declared.expr.UnOp.TheVariants as un
use Rattle.st_tree.specs.ExprTree.{ExprTree, ExprTrees, literal, name, unary, binary, call, no_exprs, and_expr}
use Rattle.st_tree.specs.StmtTree.{LabelTree, StmtTree, StmtTrees, ArmTrees, BranchTrees, OtherTree, assign, if_, case, for_, no_stmts, and_stmt, no_arms}
use Rattle.st_tree.specs.StmtTree.{and_arm, no_branches, and_branch, no_other, other}
use Rattle.st_tree.specs.ProgramTree.{DeclaredTree, DeclTree, BlockTree, ProgramTree}
use Rattle.st_tree.specs.Bare.{bare_expr, bare_exprs, bare_expr_or_none, bare_label, bare_stmt, bare_stmts, bare_arms, bare_branches, bare_other, bare_declared}
use Rattle.st_tree.specs.Bare.{bare_decl, bare_block, bare}
use Rattle.st_tree.specs.Operators.{level, any_level, unary_level}
use Rattle.st_tree.specs.Programs.{type_key}
use Rattle.st_writer.specs.Lexemes as lexeme
use Rattle.st_writer.specs.Lexemes.{Lexeme}
use Rattle.st_writer.specs.CanonicalExpr.{sign, operator, bracketed, expr, args, more_args}
use Rattle.st_writer.specs.CanonicalStmt.{negated, constant, last_of_range, label, more_labels, labels, step, stmt, stmts, arms_from, branches_of, else_of}
use Rattle.st_writer.specs.CanonicalProgram.{more_names, names, init, decl, head, block, program, canonical}

mutual
  expr-bare : (l : ℕ) (e : ExprTree) → expr l (bare_expr e) ≡ expr l e
  expr-bare l (literal t v s) = refl
  expr-bare l (name n s) = refl
  expr-bare l (unary op a s) = ap (λ (xs : List Lexeme). sign op ++ xs) (expr-bare unary_level a)
  expr-bare l (binary op a b s) =
      let left = expr-bare (level op) a in
      let right = expr-bare (suc (level op)) b in
      λ i. bracketed (nat_lt (level op) l) (left i ++ lexeme.blank ∷ operator op ∷ lexeme.blank ∷ right i)
  expr-bare l (call n es s) =
      ap (λ (xs : List Lexeme). lexeme.name n ∷ lexeme.symbol symbol.LParen ∷ (xs ++ lexeme.symbol symbol.RParen ∷ [])) (args-bare es)

  args-bare : (es : ExprTrees) → args (bare_exprs es) ≡ args es
  args-bare no_exprs = refl
  args-bare (and_expr e es) = let first = expr-bare any_level e in let rest = more_args-bare es in λ i. first i ++ rest i

  more_args-bare : (es : ExprTrees) → more_args (bare_exprs es) ≡ more_args es
  more_args-bare no_exprs = refl
  more_args-bare (and_expr e es) =
      let first = expr-bare any_level e in
      let rest = more_args-bare es in
      λ i. lexeme.symbol symbol.Comma ∷ lexeme.blank ∷ (first i ++ rest i)

negated-bare : (e : ExprTree) → negated (bare_expr e) ≡ negated e
negated-bare (literal t v s) = refl
negated-bare (name n s) = refl
negated-bare (unary op a s) = expr-bare any_level (unary op a s)
negated-bare (binary op a b s) = expr-bare any_level (binary op a b s)
negated-bare (call n es s) = expr-bare any_level (call n es s)

constant-bare : (e : ExprTree) → constant (bare_expr e) ≡ constant e
constant-bare (literal t v s) = refl
constant-bare (name n s) = refl
constant-bare (unary un.Neg a s) = ap (λ (xs : List Lexeme). lexeme.symbol symbol.Minus ∷ xs) (negated-bare a)
constant-bare (unary un.Not a s) = expr-bare any_level (unary un.Not a s)
constant-bare (binary op a b s) = expr-bare any_level (binary op a b s)
constant-bare (call n es s) = expr-bare any_level (call n es s)

last-bare : (e : Option ExprTree) → last_of_range (bare_expr_or_none e) ≡ last_of_range e
last-bare None = refl
last-bare (Some e) = ap (λ (xs : List Lexeme). lexeme.symbol symbol.DotDot ∷ xs) (constant-bare e)

label-bare : (l : LabelTree) → label (bare_label l) ≡ label l
label-bare l = let first = constant-bare l.first in let last = last-bare l.last in λ i. first i ++ last i

more_labels-bare : (ls : List LabelTree) → more_labels (map bare_label ls) ≡ more_labels ls
more_labels-bare [] = refl
more_labels-bare (l ∷ ls) =
    let first = label-bare l in
    let rest = more_labels-bare ls in
    λ i. lexeme.symbol symbol.Comma ∷ lexeme.blank ∷ (first i ++ rest i)

labels-bare : (ls : List LabelTree) → labels (map bare_label ls) ≡ labels ls
labels-bare [] = refl
labels-bare (l ∷ ls) = let first = label-bare l in let rest = more_labels-bare ls in λ i. first i ++ rest i

step-bare : (e : Option ExprTree) → step (bare_expr_or_none e) ≡ step e
step-bare None = refl
step-bare (Some e) = ap (λ (xs : List Lexeme). lexeme.word key.By ∷ lexeme.blank ∷ (xs ++ lexeme.blank ∷ [])) (expr-bare any_level e)

mutual
  stmt-bare : (n : ℕ) (s : StmtTree) → stmt n (bare_stmt s) ≡ stmt n s
  stmt-bare n (assign f e s) =
      ap (λ (xs : List Lexeme). lexeme.line n
      (lexeme.name f ∷ lexeme.blank ∷ lexeme.symbol symbol.Assign ∷ lexeme.blank ∷ (xs ++ lexeme.symbol symbol.Semi ∷ []))) (expr-bare any_level e)
  stmt-bare n (if_ arms o) =
      let first = arms-bare n key.If arms in
      let rest = else-bare n o in
      λ i. first i ++ (rest i ++ lexeme.line n (lexeme.word key.EndIf ∷ lexeme.symbol symbol.Semi ∷ []))
  stmt-bare n (case e cases o s) =
      let on = expr-bare any_level e in
      let first = branches-bare n cases in
      let rest = else-bare n o in
      λ i. lexeme.line n (lexeme.word key.Case ∷ lexeme.blank ∷ (on i ++ lexeme.blank ∷ lexeme.word key.Of ∷ []))
      ++ (first i ++ (rest i ++ lexeme.line n (lexeme.word key.EndCase ∷ lexeme.symbol symbol.Semi ∷ [])))
  stmt-bare n (for_ f p first last by body s) =
      let from = expr-bare any_level first in
      let to = expr-bare any_level last in
      let steps = step-bare by in
      let bodies = stmts-bare (suc n) body in
      λ i. lexeme.line n (
      lexeme.word key.For ∷ lexeme.blank ∷ lexeme.name f ∷ lexeme.blank ∷ lexeme.symbol symbol.Assign ∷ lexeme.blank
      ∷ (from i ++ lexeme.blank ∷ lexeme.word key.To ∷ lexeme.blank ∷ (to i ++ lexeme.blank ∷ (steps i ++ lexeme.word key.Do ∷ []))))
      ++ (bodies i ++ lexeme.line n (lexeme.word key.EndFor ∷ lexeme.symbol symbol.Semi ∷ []))

  stmts-bare : (n : ℕ) (ss : StmtTrees) → stmts n (bare_stmts ss) ≡ stmts n ss
  stmts-bare n no_stmts = refl
  stmts-bare n (and_stmt s ss) = let first = stmt-bare n s in let rest = stmts-bare n ss in λ i. first i ++ rest i

  arms-bare : (n : ℕ) (k : Key) (arms : ArmTrees) → arms_from n k (bare_arms arms) ≡ arms_from n k arms
  arms-bare n k no_arms = refl
  arms-bare n k (and_arm e body s arms) =
      let on = expr-bare any_level e in
      let first = stmts-bare (suc n) body in
      let rest = arms-bare n key.Elsif arms in
      λ i. lexeme.line n (lexeme.word k ∷ lexeme.blank ∷ (on i ++ lexeme.blank ∷ lexeme.word key.Then ∷ [])) ++ (first i ++ rest i)

  branches-bare : (n : ℕ) (cases : BranchTrees) → branches_of n (bare_branches cases) ≡ branches_of n cases
  branches-bare n no_branches = refl
  branches-bare n (and_branch ls body cases) =
      let on = labels-bare ls in
      let first = stmts-bare (suc (suc n)) body in
      let rest = branches-bare n cases in
      λ i. lexeme.line (suc n) (on i ++ lexeme.symbol symbol.Colon ∷ []) ++ (first i ++ rest i)

  else-bare : (n : ℕ) (o : OtherTree) → else_of n (bare_other o) ≡ else_of n o
  else-bare n no_other = refl
  else-bare n (other body) = ap (λ (xs : List Lexeme). lexeme.line n (lexeme.word key.Else ∷ []) ++ xs) (stmts-bare (suc n) body)

more_names-bare : (ds : List DeclaredTree) → more_names (map bare_declared ds) ≡ more_names ds
more_names-bare [] = refl
more_names-bare (d ∷ ds) = ap (λ (xs : List Lexeme). lexeme.symbol symbol.Comma ∷ lexeme.blank ∷ lexeme.name d.name ∷ xs) (more_names-bare ds)

names-bare : (ds : List DeclaredTree) → names (map bare_declared ds) ≡ names ds
names-bare [] = refl
names-bare (d ∷ ds) = ap (λ (xs : List Lexeme). lexeme.name d.name ∷ xs) (more_names-bare ds)

init-bare : (e : Option ExprTree) → init (bare_expr_or_none e) ≡ init e
init-bare None = refl
init-bare (Some e) = ap (λ (xs : List Lexeme). lexeme.blank ∷ lexeme.symbol symbol.Assign ∷ lexeme.blank ∷ xs) (expr-bare any_level e)

decl-bare : (d : DeclTree) → decl (bare_decl d) ≡ decl d
decl-bare d =
    let called = names-bare d.names in
    let value = init-bare d.init in
    λ i. lexeme.line 1 (
    called i ++ lexeme.blank ∷ lexeme.symbol symbol.Colon ∷ lexeme.blank ∷ lexeme.word (type_key d.ty) ∷ (value i ++ lexeme.symbol symbol.Semi ∷ []))

decls-bare : (ds : List DeclTree) → flat_map decl (map bare_decl ds) ≡ flat_map decl ds
decls-bare [] = refl
decls-bare (d ∷ ds) = let first = decl-bare d in let rest = decls-bare ds in λ i. first i ++ rest i

blocks-bare : (bs : List BlockTree) → flat_map block (map bare_block bs) ≡ flat_map block bs
blocks-bare [] = refl
blocks-bare (b ∷ bs) =
    let first = decls-bare b.decls in
    let rest = blocks-bare bs in
    λ i. (lexeme.line 0 (head b.section) ++ (first i ++ lexeme.line 0 (lexeme.word key.EndVar ∷ []))) ++ rest i

program-bare : (p : ProgramTree) → program (bare p) ≡ program p
program-bare p =
    let first = blocks-bare p.blocks in
    let rest = stmts-bare 1 p.body in
    λ i. lexeme.line 0
    (lexeme.word key.Program ∷ lexeme.blank ∷ lexeme.name p.name ∷ []) ++ (first i ++ (rest i ++ lexeme.line 0 (lexeme.word key.EndProgram ∷ [])))

-- so the canonical text of what the canonical text spells is that text
pub same_text : (p q : ProgramTree) → bare q ≡ bare p → canonical q ≡ canonical p
same_text p q e = ap lexeme.text_of (sym (program-bare q) ∙ ap program e ∙ program-bare p)
