-- Expressions: tokens that the canonical text of a spelled one spells, spell it again, no deeper than before.
use Rattle.std.proofs.Common.{◌≡◌, ℕ, suc, ◌+◌, ◌==◌, ◌<◌, ◌≤◌, nat_lt, Bool, true, cond, le-ltb, lt-ltb, List, [], ◌∷◌, ◌++◌, refl, ap, sym, ◌∙◌, subst, inl}
use Rattle.std.proofs.Common.{inr, arith}
use Rattle.std.proofs.str.Laws.{order}
use Rattle.st_lexer.specs.declared.token.Sym.TheVariants as symbol
use Rattle.st_lexer.specs.declared.token.Token.{Token}
use Rattle.st_tree.specs.declared.expr.UnOp.{UnOp}
use Rattle.st_tree.specs.declared.expr.UnOp.TheVariants as un
use Rattle.st_tree.specs.declared.expr.BinOp.{BinOp}
use Rattle.st_tree.specs.declared.expr.BinOp.TheVariants as bin
use Rattle.st_tree.specs.ExprTree.{ExprTree, ExprTrees, literal, name, unary, binary, call, no_exprs, and_expr}
use Rattle.st_tree.specs.Bare.{bare_expr, bare_exprs, nowhere}
use Rattle.st_tree.specs.Operators.{sign, operator, level, any_level, unary_level, chain}
use Rattle.st_tree.specs.Placed.{Placed, at, Within}
use Rattle.st_tree.specs.Expressions.{SpellsExpr, SpellsArgs, spells_literal, spells_name, spells_unary, spells_binary, spells_call, spells_brackets}
use Rattle.st_tree.specs.Expressions.{spells_last, spells_next}
use Rattle.st_writer.specs.Lexemes as lexeme
use Rattle.st_writer.specs.Lexemes.{Lexeme}
use Rattle.st_writer.specs.CanonicalExpr as canon
use Rattle.st_writer.proofs.Written.{Written}
use Rattle.st_writer.proofs.WrittenParts.{cut, regrouped, literal_again, Placing, token_before, last_token, both, within-split}

-- ---- levels

level-pos : (op : BinOp) → 1 ≤ level op
level-pos bin.Mul = omega arith
level-pos bin.Div = omega arith
level-pos bin.Mod = omega arith
level-pos bin.Add = omega arith
level-pos bin.Sub = omega arith
level-pos bin.Lt = omega arith
level-pos bin.Gt = omega arith
level-pos bin.Le = omega arith
level-pos bin.Ge = omega arith
level-pos bin.Eq = omega arith
level-pos bin.Ne = omega arith
level-pos bin.And = omega arith
level-pos bin.Xor = omega arith
level-pos bin.Or = omega arith

level-most : (op : BinOp) → suc (level op) ≤ unary_level
level-most bin.Mul = omega arith
level-most bin.Div = omega arith
level-most bin.Mod = omega arith
level-most bin.Add = omega arith
level-most bin.Sub = omega arith
level-most bin.Lt = omega arith
level-most bin.Gt = omega arith
level-most bin.Le = omega arith
level-most bin.Ge = omega arith
level-most bin.Eq = omega arith
level-most bin.Ne = omega arith
level-most bin.And = omega arith
level-most bin.Xor = omega arith
level-most bin.Or = omega arith

-- the strongest level that an expression has without brackets round it
abbrev top : ExprTree → ℕ
top (binary op a b s) = level op
top _ = unary_level

raise : {bytes : Token → List ℕ} {d l : ℕ} {e : ExprTree} {ps : List Placed} → SpellsExpr bytes d l e ps → (m : ℕ) → m ≤ top e → SpellsExpr bytes d m e ps
raise (spells_literal v t k) m le = spells_literal v t k
raise (spells_name t k) m le = spells_name t k
raise (spells_unary op a t ts k s) m le = spells_unary op a t ts k s
raise (spells_binary op a b t ts us l k s u) m le = spells_binary op a b t ts us le k s u
raise (spells_call f o es ts kf ko s) m le = spells_call f o es ts kf ko s
raise (spells_brackets e o c ts ko kc s) m le = spells_brackets e o c ts ko kc s

-- ---- spots don't tell

top-bare : (e : ExprTree) → top (bare_expr e) ≡ top e
top-bare (literal t v s) = refl
top-bare (name n s) = refl
top-bare (unary op a s) = refl
top-bare (binary op a b s) = refl
top-bare (call n es s) = refl

chain-bare : (l : ℕ) (e : ExprTree) → chain l (bare_expr e) ≡ chain l e
chain-bare l (literal t v s) = refl
chain-bare l (name n s) = refl
chain-bare l (unary op a s) = refl
chain-bare l (binary op a b s) = ap (λ (n : ℕ). cond (level op == l) (suc n) 0) (chain-bare l a)
chain-bare l (call n es s) = refl

same-top : (e f : ExprTree) → bare_expr e ≡ bare_expr f → top e ≡ top f
same-top e f h = sym (top-bare e) ∙ ap top h ∙ top-bare f

same-chain : (l : ℕ) (e f : ExprTree) → bare_expr e ≡ bare_expr f → chain l e ≡ chain l f
same-chain l e f h = sym (chain-bare l e) ∙ ap (chain l) h ∙ chain-bare l f

-- ---- brackets that are needed, and brackets that are not

without : (op : BinOp) (l : ℕ) (xs : List Lexeme) → l ≤ level op → canon.bracketed (nat_lt (level op) l) xs ≡ xs
without op l xs le = ap (λ (needed : Bool). canon.bracketed needed xs) (le-ltb (level op) l le)

with_them : (op : BinOp) (l : ℕ) (xs : List Lexeme) → level op < l → canon.bracketed (nat_lt (level op) l) xs ≡ canon.bracketed true xs
with_them op l xs lt = ap (λ (needed : Bool). canon.bracketed needed xs) (lt-ltb (level op) l lt)

-- the operands of an operator and what stands between them
abbrev between : BinOp → ExprTree → ExprTree → List Lexeme
between op a b = canon.expr (level op) a ++ lexeme.blank ∷ canon.operator op ∷ lexeme.blank ∷ canon.expr (suc (level op)) b

needless : (e : ExprTree) (l : ℕ) → l ≤ top e → canon.expr l e ≡ canon.expr any_level e
needless (literal t v s) l le = refl
needless (name n s) l le = refl
needless (unary op a s) l le = refl
needless (binary op a b s) l le = without op l (between op a b) le ∙ sym (without op any_level (between op a b) (level-pos op))
needless (call n es s) l le = refl

needed : (e : ExprTree) (l : ℕ) → l ≤ unary_level → top e < l → canon.expr l e ≡ canon.bracketed true (canon.expr any_level e)
needed (literal t v s) l le lt = absurd (omega (arith, le, lt))
needed (name n s) l le lt = absurd (omega (arith, le, lt))
needed (unary op a s) l le lt = absurd (omega (arith, le, lt))
needed (binary op a b s) l le lt =
    with_them op l (between op a b) lt ∙ ap (λ (xs : List Lexeme). canon.bracketed true xs) (sym (without op any_level (between op a b) (level-pos op)))
needed (call n es s) l le lt = absurd (omega (arith, le, lt))

-- ---- spelled again

-- the tokens spell the expression at depth d, spots aside
pub record ExprAgain (bytes : Token → List ℕ) (limit d l : ℕ) (e : ExprTree) (ts : List Token) : Type 0 where
  pub tree : ExprTree
  pub placing : Placing limit ts
  pub spells : SpellsExpr bytes d l tree placing.placed
  pub same : bare_expr tree ≡ bare_expr e

pub record ArgsAgain (bytes : Token → List ℕ) (limit d : ℕ) (es : ExprTrees) (ts : List Token) : Type 0 where
  pub trees : ExprTrees
  pub placing : Placing limit ts
  pub spells : SpellsArgs bytes d trees placing.placed
  pub same : bare_exprs trees ≡ bare_exprs es

module _ (b c : Token → List ℕ) (limit : ℕ) where
  -- in brackets or not, as the place wants
  rebracket : (n d l : ℕ) (e : ExprTree) → n ≤ d → d ≤ limit → l ≤ unary_level
      → ((m : ℕ) → m ≤ suc d → (us : List Token) → Written c (canon.expr any_level e) us → ExprAgain c limit m any_level e us)
      → (us : List Token) → Written c (canon.expr l e) us → ExprAgain c limit n l e us
  rebracket n d l e le k most again us w =
      elim (order (top e) l) [
        | inl lt ↦
            let o = subst (λ (xs : List Lexeme). Written c xs us) (needed e l most lt) w in
            let r = cut c (canon.expr any_level e) (lexeme.symbol symbol.RParen ∷ []) o.1 o.5 in
            let x = r.back_is in
            let q = again (suc n) (omega (arith, le)) r.front r.front_is in
            let closed : Placing limit r.back = last_token limit n x.0 x.1 r.back (omega (arith, le, k)) x.2 x.5 in
            record {
              tree = q.tree;
              placing = token_before limit n o.0 o.1 us (omega (arith, le, k)) o.2 (both limit r.front r.back o.1 r.parts q.placing closed);
              spells = spells_brackets q.tree o.0 x.0 q.placing.placed o.3 x.3 q.spells;
              same = q.same;
            }
        | inr ge ↦
            let q = again n (omega (arith, le)) us (subst (λ (xs : List Lexeme). Written c xs us) (needless e l ge) w) in
            record { tree = q.tree; placing = q.placing; spells = raise q.spells l (omega (arith, ge, same-top q.tree e q.same)); same = q.same }
      ]

  signed : (op : UnOp) (xs : List Lexeme) (us : List Token) → Written c (canon.sign op ++ xs) us
      → (t : Token) × (ts : List Token) × (us ≡ t ∷ ts) × (t.tok ≡ sign op) × Written c xs ts
  signed un.Neg xs us w = (w.0, w.1, w.2, w.3, w.5)
  signed un.Not xs us w = (w.0, w.1, w.2, w.3, w.5)

  operated : (op : BinOp) (xs : List Lexeme) (us : List Token) → Written c (lexeme.blank ∷ canon.operator op ∷ lexeme.blank ∷ xs) us
      → (t : Token) × (ts : List Token) × (us ≡ t ∷ ts) × (t.tok ≡ operator op) × Written c xs ts
  operated bin.Mul xs us w = (w.0, w.1, w.2, w.3, w.5)
  operated bin.Div xs us w = (w.0, w.1, w.2, w.3, w.5)
  operated bin.Mod xs us w = (w.0, w.1, w.2, w.3, w.5)
  operated bin.Add xs us w = (w.0, w.1, w.2, w.3, w.5)
  operated bin.Sub xs us w = (w.0, w.1, w.2, w.3, w.5)
  operated bin.Lt xs us w = (w.0, w.1, w.2, w.3, w.5)
  operated bin.Gt xs us w = (w.0, w.1, w.2, w.3, w.5)
  operated bin.Le xs us w = (w.0, w.1, w.2, w.3, w.5)
  operated bin.Ge xs us w = (w.0, w.1, w.2, w.3, w.5)
  operated bin.Eq xs us w = (w.0, w.1, w.2, w.3, w.5)
  operated bin.Ne xs us w = (w.0, w.1, w.2, w.3, w.5)
  operated bin.And xs us w = (w.0, w.1, w.2, w.3, w.5)
  operated bin.Xor xs us w = (w.0, w.1, w.2, w.3, w.5)
  operated bin.Or xs us w = (w.0, w.1, w.2, w.3, w.5)

  commas : {d : ℕ} {es : ExprTrees} {ps : List Placed} → SpellsArgs b d es ps → canon.more_args es ≡ lexeme.symbol symbol.Comma ∷ lexeme.blank ∷ canon.args es
  commas (spells_last e t ts k s) = refl
  commas (spells_next e es t ts us k s u) = refl

  mutual
    pub expr_again : {d l : ℕ} {e : ExprTree} {ps : List Placed} → SpellsExpr b d l e ps → Within limit ps → (n : ℕ) → n ≤ d → l ≤ unary_level
        → (us : List Token) → Written c (canon.expr l e) us
        → ExprAgain c limit n l e us
    expr_again (spells_literal v t k) within n le most us w =
        let r = literal_again c v us w in
        record {
          tree = literal v.ty v.value r.token.spot;
          placing = last_token limit n r.token [] us (omega (arith, le, within.0)) r.parts refl;
          spells = spells_literal v r.token r.is;
          same = refl;
        }
    expr_again (spells_name t k) within n le most us w =
        record {
          tree = name (c w.0) w.0.spot;
          placing = last_token limit n w.0 w.1 us (omega (arith, le, within.0)) w.2 w.5;
          spells = spells_name w.0 w.3;
          same = ap (λ (x : List ℕ). name x nowhere) w.4;
        }
    expr_again (spells_unary op a t ts k s) within n le most us w =
        let o = signed op (canon.expr unary_level a) us w in
        let q = expr_again s within.1 (suc n) (omega (arith, le)) (omega arith) o.1 o.4 in
        record {
          tree = unary op q.tree o.0.spot;
          placing = token_before limit n o.0 o.1 us (omega (arith, le, within.0)) o.2 q.placing;
          spells = spells_unary op q.tree o.0 q.placing.placed o.3 q.spells;
          same = ap (λ (x : ExprTree). unary op x nowhere) q.same;
        }
    expr_again {d = d} {l = l} (spells_binary op a e t ts vs lower k s u) within n le most us w =
        let plain = subst (λ (xs : List Lexeme). Written c xs us) (without op l (between op a e) lower) w in
        let r = cut c (canon.expr (level op) a) (lexeme.blank ∷ canon.operator op ∷ lexeme.blank ∷ canon.expr (suc (level op)) e) us plain in
        let o = operated op (canon.expr (suc (level op)) e) r.back r.back_is in
        let parts = within-split limit ts (at (d + chain (level op) a) t ∷ vs) within in
        let x = expr_again s parts.0 n le (omega (arith, level-most op)) r.front r.front_is in
        let chains : chain (level op) x.tree ≡ chain (level op) a = same-chain (level op) x.tree a x.same in
        let y = expr_again u parts.1.1 (n + suc (chain (level op) x.tree)) (omega (arith, le, chains)) (level-most op) o.1 o.4 in
        let behind : Placing limit r.back =
        token_before limit (n + chain (level op) x.tree) o.0 o.1 r.back (omega (arith, le, chains, parts.1.0)) o.2 y.placing in
        record {
          tree = binary op x.tree y.tree o.0.spot;
          placing = both limit r.front r.back us r.parts x.placing behind;
          spells = spells_binary op x.tree y.tree o.0 x.placing.placed y.placing.placed lower o.3 x.spells y.spells;
          same = λ i. binary op (x.same i) (y.same i) nowhere;
        }
    expr_again (spells_call f o es ts kf ko s) within n le most us w =
        let p = w.5 in
        let q = args_again s within.1.1 n le p.1 p.5 in
        record {
          tree = call (c w.0) q.trees w.0.spot;
          placing = token_before limit n w.0 w.1 us (omega (arith, le, within.0)) w.2
              (token_before limit n p.0 p.1 w.1 (omega (arith, le, within.0)) p.2 q.placing);
          spells = spells_call w.0 p.0 q.trees q.placing.placed w.3 p.3 q.spells;
          same = λ i. call (w.4 i) (q.same i) nowhere;
        }
    expr_again {d = d} {l = l} (spells_brackets e o x ts ko kx s) within n le most us w =
        let inner = within-split limit ts (at d x ∷ []) within.1 in
        rebracket n d l e le within.0 most (λ m k vs v. expr_again s inner.0 m k (omega arith) vs v) us w

    -- the arguments and the bracket behind them
    args_again : {d : ℕ} {es : ExprTrees} {ps : List Placed} → SpellsArgs b d es ps → Within limit ps → (n : ℕ) → n ≤ d → (us : List Token)
        → Written c (canon.args es ++ lexeme.symbol symbol.RParen ∷ []) us → ArgsAgain c limit n es us
    args_again {d = d} (spells_last e t ts k s) within n le us w =
        let r = cut c (canon.expr any_level e) (lexeme.symbol symbol.RParen ∷ []) us
        (regrouped c (canon.expr any_level e) [] (lexeme.symbol symbol.RParen ∷ []) us w) in
        let x = r.back_is in
        let parts = within-split limit ts (at d t ∷ []) within in
        let q = expr_again s parts.0 (suc n) (omega (arith, le)) (omega arith) r.front r.front_is in
        let closed : Placing limit r.back = last_token limit n x.0 x.1 r.back (omega (arith, le, parts.1.0)) x.2 x.5 in
        record {
          trees = and_expr q.tree no_exprs;
          placing = both limit r.front r.back us r.parts q.placing closed;
          spells = spells_last q.tree x.0 q.placing.placed x.3 q.spells;
          same = ap (λ (y : ExprTree). and_expr y no_exprs) q.same;
        }
    args_again {d = d} (spells_next e es t ts vs k s u) within n le us w =
        let closing : List Lexeme = lexeme.symbol symbol.RParen ∷ [] in
        let r = cut c (canon.expr any_level e) (canon.more_args es ++ closing) us (regrouped c (canon.expr any_level e) (canon.more_args es) closing us w) in
        let x = subst (λ (xs : List Lexeme). Written c (xs ++ closing) r.back) (commas u) r.back_is in
        let parts = within-split limit ts (at (suc d) t ∷ vs) within in
        let q = expr_again s parts.0 (suc n) (omega (arith, le)) (omega arith) r.front r.front_is in
        let more = args_again u parts.1.1 n le x.1 x.5 in
        let behind : Placing limit r.back = token_before limit (suc n) x.0 x.1 r.back (omega (arith, le, parts.1.0)) x.2 more.placing in
        record {
          trees = and_expr q.tree more.trees;
          placing = both limit r.front r.back us r.parts q.placing behind;
          spells = spells_next q.tree more.trees x.0 q.placing.placed more.placing.placed x.3 q.spells more.spells;
          same = λ i. and_expr (q.same i) (more.same i);
        }
