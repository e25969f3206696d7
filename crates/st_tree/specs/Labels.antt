-- Labels: the tokens that spell the labels of a branch of a CASE.
--
--   label = const [".." const]
--   const = ["-"] number | TRUE | FALSE | name
use Rattle.std.specs.Prelude.{◌≡◌, ℕ, suc, ℤ, List, [], ◌∷◌, ◌++◌, Option, Some, None}
use Rattle.vcp_base.specs.declared.ty.Ty.{Ty}
use Rattle.st_lexer.specs.declared.token.Sym.TheVariants as sym
use Rattle.st_lexer.specs.declared.token.Tok.TheVariants as tok
use Rattle.st_lexer.specs.declared.token.Token.{Token}
use Rattle.st_tree.specs.declared.expr.UnOp.TheVariants as un
use Rattle.st_tree.specs.ExprTree.{ExprTree, literal, name, unary}
use Rattle.st_tree.specs.StmtTree.{LabelTree}
use Rattle.st_tree.specs.Placed.{Placed, at}
use Rattle.st_tree.specs.Expressions.{Value, literal_of}

-- a constant of a label at depth d; the number behind a sign is in its operand
pub data SpellsConst (bytes : Token → List ℕ) : ℕ → ExprTree → List Placed → Type 0 where
  spells_value : {d : ℕ} (v : Value) (t : Token) →
      literal_of t.tok ≡ Some v →
      SpellsConst bytes d (literal v.ty v.value t.spot) (at d t ∷ [])
  spells_named : {d : ℕ} (t : Token) →
      t.tok ≡ tok.Name →
      SpellsConst bytes d (name (bytes t) t.spot) (at d t ∷ [])
  spells_negative : {d : ℕ} (ty : Option Ty) (value : ℤ) (m t : Token) →
      m.tok ≡ tok.Sym sym.Minus →
      t.tok ≡ tok.Number ty value →
      SpellsConst bytes d (unary un.Neg (literal ty value t.spot) m.spot) (at d m ∷ at (suc d) t ∷ [])

-- a label at depth d
pub data SpellsLabel (bytes : Token → List ℕ) : ℕ → LabelTree → List Placed → Type 0 where
  spells_one : {d : ℕ} (e : ExprTree) (ts : List Placed) →
      SpellsConst bytes d e ts →
      SpellsLabel bytes d (record { first = e; last = None }) ts
  spells_range : {d : ℕ} (e f : ExprTree) (r : Token) (ts us : List Placed) →
      SpellsConst bytes d e ts →
      r.tok ≡ tok.Sym sym.DotDot →
      SpellsConst bytes d f us →
      SpellsLabel bytes d (record { first = e; last = Some f }) (ts ++ at d r ∷ us)

-- the labels of a branch at depth d, from the first to the colon behind the last
pub data SpellsLabels (bytes : Token → List ℕ) : ℕ → List LabelTree → List Placed → Type 0 where
  spells_last_label : {d : ℕ} (l : LabelTree) (c : Token) (ts : List Placed) →
      SpellsLabel bytes d l ts →
      c.tok ≡ tok.Sym sym.Colon →
      SpellsLabels bytes d (l ∷ []) (ts ++ at d c ∷ [])
  spells_next_label : {d : ℕ} (l : LabelTree) (ls : List LabelTree) (c : Token) (ts us : List Placed) →
      SpellsLabel bytes d l ts →
      c.tok ≡ tok.Sym sym.Comma →
      SpellsLabels bytes d ls us →
      SpellsLabels bytes d (l ∷ ls) (ts ++ at d c ∷ us)
