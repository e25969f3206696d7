-- Expressions: the tokens that spell them.
--
--   primary = number | TRUE | FALSE | name | name "(" expr {"," expr} ")" | "(" expr ")"
--
-- with signs before an operand and operators between operands; operators of one level go from left to right.
use Rattle.std.specs.Prelude.{◌≡◌, ℕ, suc, ◌+◌, ◌≤◌, ℤ, pos, List, [], ◌∷◌, ◌++◌, Option, Some, None}
use Rattle.vcp_base.specs.declared.ty.Ty.{Ty}
use Rattle.vcp_base.specs.declared.ty.Ty.TheVariants as ty
use Rattle.st_lexer.specs.declared.token.Key.TheVariants as key
use Rattle.st_lexer.specs.declared.token.Sym.TheVariants as sym
use Rattle.st_lexer.specs.declared.token.Tok.{Tok}
use Rattle.st_lexer.specs.declared.token.Tok.TheVariants as tok
use Rattle.st_lexer.specs.declared.token.Token.{Token}
use Rattle.st_tree.specs.declared.expr.UnOp.{UnOp}
use Rattle.st_tree.specs.declared.expr.BinOp.{BinOp}
use Rattle.st_tree.specs.ExprTree.{ExprTree, ExprTrees, literal, name, unary, binary, call, no_exprs, and_expr}
use Rattle.st_tree.specs.Operators.{sign, operator, level, any_level, unary_level, chain}
use Rattle.st_tree.specs.Placed.{Placed, at}

-- a literal's type, where it is typed, and its value
pub record Value : Type 0 where
  pub ty : Option Ty
  pub value : ℤ

-- the literal that a token is; TRUE and FALSE are the BOOL literals 1 and 0
abbrev pub literal_of : Tok → Option Value
literal_of (tok.Number t v) = Some (record { ty = t; value = v })
literal_of (tok.Key key.True) = Some (record { ty = Some ty.Bool; value = pos 1 })
literal_of (tok.Key key.False) = Some (record { ty = Some ty.Bool; value = pos 0 })
literal_of _ = None

-- At depth d, where an operator of level l or more is wanted. A name in the tree is the bytes of its token.
mutual
  pub data SpellsExpr (bytes : Token → List ℕ) : ℕ → ℕ → ExprTree → List Placed → Type 0 where
    spells_literal : {d l : ℕ} (v : Value) (t : Token) →
        literal_of t.tok ≡ Some v →
        SpellsExpr bytes d l (literal v.ty v.value t.spot) (at d t ∷ [])
    spells_name : {d l : ℕ} (t : Token) →
        t.tok ≡ tok.Name →
        SpellsExpr bytes d l (name (bytes t) t.spot) (at d t ∷ [])
    spells_unary : {d l : ℕ} (op : UnOp) (a : ExprTree) (t : Token) (ts : List Placed) →
        t.tok ≡ sign op →
        SpellsExpr bytes (suc d) unary_level a ts →
        SpellsExpr bytes d l (unary op a t.spot) (at d t ∷ ts)
    spells_binary : {d l : ℕ} (op : BinOp) (a b : ExprTree) (t : Token) (ts us : List Placed) →
        l ≤ level op →
        t.tok ≡ operator op →
        SpellsExpr bytes d (level op) a ts →
        SpellsExpr bytes (d + suc (chain (level op) a)) (suc (level op)) b us →
        SpellsExpr bytes d l (binary op a b t.spot) (ts ++ at (d + chain (level op) a) t ∷ us)
    spells_call : {d l : ℕ} (f o : Token) (es : ExprTrees) (ts : List Placed) →
        f.tok ≡ tok.Name →
        o.tok ≡ tok.Sym sym.LParen →
        SpellsArgs bytes d es ts →
        SpellsExpr bytes d l (call (bytes f) es f.spot) (at d f ∷ at d o ∷ ts)
    spells_brackets : {d l : ℕ} (e : ExprTree) (o c : Token) (ts : List Placed) →
        o.tok ≡ tok.Sym sym.LParen →
        c.tok ≡ tok.Sym sym.RParen →
        SpellsExpr bytes (suc d) any_level e ts →
        SpellsExpr bytes d l e (at d o ∷ (ts ++ at d c ∷ []))

  -- the arguments of a call at depth d, from the first to the bracket that closes them
  pub data SpellsArgs (bytes : Token → List ℕ) : ℕ → ExprTrees → List Placed → Type 0 where
    spells_last : {d : ℕ} (e : ExprTree) (c : Token) (ts : List Placed) →
        c.tok ≡ tok.Sym sym.RParen →
        SpellsExpr bytes (suc d) any_level e ts →
        SpellsArgs bytes d (and_expr e no_exprs) (ts ++ at d c ∷ [])
    spells_next : {d : ℕ} (e : ExprTree) (es : ExprTrees) (c : Token) (ts us : List Placed) →
        c.tok ≡ tok.Sym sym.Comma →
        SpellsExpr bytes (suc d) any_level e ts →
        SpellsArgs bytes d es us →
        SpellsArgs bytes d (and_expr e es) (ts ++ at (suc d) c ∷ us)
