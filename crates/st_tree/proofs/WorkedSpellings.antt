-- Worked: small expressions with the depths of their tokens.
use Rattle.std.specs.Prelude.{refl, ℕ, List, [], ◌∷◌}
use Rattle.std.proofs.Common.{arith}
use Rattle.vcp_base.specs.declared.spot.Spot.{Spot}
use Rattle.st_lexer.specs.declared.token.Sym.TheVariants as sym
use Rattle.st_lexer.specs.declared.token.Tok.{Tok}
use Rattle.st_lexer.specs.declared.token.Tok.TheVariants as tok
use Rattle.st_lexer.specs.declared.token.Token.{Token}
use Rattle.st_tree.specs.declared.expr.UnOp.TheVariants as un
use Rattle.st_tree.specs.declared.expr.BinOp.TheVariants as bin
use Rattle.st_tree.specs.ExprTree.{ExprTree, name, unary, binary}
use Rattle.st_tree.specs.Placed.{Placed, at}
use Rattle.st_tree.specs.Expressions.{SpellsExpr, spells_name, spells_unary, spells_binary, spells_brackets}

abbrev spot : ℕ → Spot
spot n = record { line = 1; col = n }

abbrev t : ℕ → Tok → Token
t n k = record { tok = k; from = n; to = n; spot = spot n }

abbrev bytes : Token → List ℕ
bytes x = x.from ∷ []

abbrev v : ℕ → ExprTree
v n = name (n ∷ []) (spot n)

-- the tokens of (a + b) + c: the brackets round the first operand are left aside, so that c has two operators before it
abbrev chained : List Placed
chained =
    at 0 (t 1 (tok.Sym sym.LParen)) ∷ at 1 (t 2 tok.Name) ∷ at 1 (t 3 (tok.Sym sym.Plus)) ∷ at 2 (t 4 tok.Name) ∷ at 0 (t 5 (tok.Sym sym.RParen))
    ∷ at 1 (t 6 (tok.Sym sym.Plus)) ∷ at 2 (t 7 tok.Name) ∷ []

chained_is : SpellsExpr bytes 0 1 (binary bin.Add (binary bin.Add (v 2) (v 4) (spot 3)) (v 7) (spot 6)) chained
chained_is =
    spells_binary bin.Add (binary bin.Add (v 2) (v 4) (spot 3)) (v 7) (t 6 (tok.Sym sym.Plus))
    (at 0 (t 1 (tok.Sym sym.LParen)) ∷ at 1 (t 2 tok.Name) ∷ at 1 (t 3 (tok.Sym sym.Plus)) ∷ at 2 (t 4 tok.Name) ∷ at 0 (t 5 (tok.Sym sym.RParen)) ∷ [])
    (at 2 (t 7 tok.Name) ∷ [])
    (omega arith) refl
    (spells_brackets (binary bin.Add (v 2) (v 4) (spot 3)) (t 1 (tok.Sym sym.LParen)) (t 5 (tok.Sym sym.RParen))
    (at 1 (t 2 tok.Name) ∷ at 1 (t 3 (tok.Sym sym.Plus)) ∷ at 2 (t 4 tok.Name) ∷ []) refl refl
    (spells_binary bin.Add (v 2) (v 4) (t 3 (tok.Sym sym.Plus)) (at 1 (t 2 tok.Name) ∷ []) (at 2 (t 4 tok.Name) ∷ []) (omega arith) refl
    (spells_name (t 2 tok.Name) refl) (spells_name (t 4 tok.Name) refl)))
    (spells_name (t 7 tok.Name) refl)

-- a - -b * c: the operand of the sign is b alone, and c stands behind one operator of each level
abbrev signed : List Placed
signed =
    at 0 (t 1 tok.Name) ∷ at 0 (t 2 (tok.Sym sym.Minus)) ∷ at 1 (t 3 (tok.Sym sym.Minus)) ∷ at 2 (t 4 tok.Name) ∷ at 1 (t 5 (tok.Sym sym.Star)) ∷ at 2
    (t 6 tok.Name) ∷ []

signed_is : SpellsExpr bytes 0 1 (binary bin.Sub (v 1) (binary bin.Mul (unary un.Neg (v 4) (spot 3)) (v 6) (spot 5)) (spot 2)) signed
signed_is =
    spells_binary bin.Sub (v 1) (binary bin.Mul (unary un.Neg (v 4) (spot 3)) (v 6) (spot 5)) (t 2 (tok.Sym sym.Minus)) (at 0 (t 1 tok.Name) ∷ [])
    (at 1 (t 3 (tok.Sym sym.Minus)) ∷ at 2 (t 4 tok.Name) ∷ at 1 (t 5 (tok.Sym sym.Star)) ∷ at 2 (t 6 tok.Name) ∷ [])
    (omega arith) refl
    (spells_name (t 1 tok.Name) refl)
    (spells_binary bin.Mul (unary un.Neg (v 4) (spot 3)) (v 6) (t 5 (tok.Sym sym.Star)) (at 1 (t 3 (tok.Sym sym.Minus)) ∷ at 2 (t 4 tok.Name) ∷ [])
    (at 2 (t 6 tok.Name) ∷ []) (omega arith) refl
    (spells_unary un.Neg (v 4) (t 3 (tok.Sym sym.Minus)) (at 2 (t 4 tok.Name) ∷ []) refl (spells_name (t 4 tok.Name) refl))
    (spells_name (t 6 tok.Name) refl))
