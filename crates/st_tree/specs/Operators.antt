-- Operators: their tokens, and how strongly they bind.
use Rattle.std.specs.Prelude.{ℕ, suc, ◌==◌, cond}
use Rattle.st_lexer.specs.declared.token.Key.TheVariants as key
use Rattle.st_lexer.specs.declared.token.Sym.TheVariants as sym
use Rattle.st_lexer.specs.declared.token.Tok.{Tok}
use Rattle.st_lexer.specs.declared.token.Tok.TheVariants as tok
use Rattle.st_tree.specs.declared.expr.UnOp.{UnOp}
use Rattle.st_tree.specs.declared.expr.UnOp.TheVariants as un
use Rattle.st_tree.specs.declared.expr.BinOp.{BinOp}
use Rattle.st_tree.specs.declared.expr.BinOp.TheVariants as bin
use Rattle.st_tree.specs.ExprTree.{ExprTree, binary}

-- the token of an operator before its operand
abbrev pub sign : UnOp → Tok
sign un.Neg = tok.Sym sym.Minus
sign un.Not = tok.Key key.Not

-- the token of an operator between its operands
abbrev pub operator : BinOp → Tok
operator bin.Mul = tok.Sym sym.Star
operator bin.Div = tok.Sym sym.Slash
operator bin.Mod = tok.Key key.Mod
operator bin.Add = tok.Sym sym.Plus
operator bin.Sub = tok.Sym sym.Minus
operator bin.Lt = tok.Sym sym.Lt
operator bin.Gt = tok.Sym sym.Gt
operator bin.Le = tok.Sym sym.Le
operator bin.Ge = tok.Sym sym.Ge
operator bin.Eq = tok.Sym sym.Eq
operator bin.Ne = tok.Sym sym.Ne
operator bin.And = tok.Key key.And
operator bin.Xor = tok.Key key.Xor
operator bin.Or = tok.Key key.Or

-- the level of an operator: the greater, the more strongly it binds
abbrev pub level : BinOp → ℕ
level bin.Or = 1
level bin.Xor = 2
level bin.And = 3
level bin.Eq = 4
level bin.Ne = 4
level bin.Lt = 5
level bin.Gt = 5
level bin.Le = 5
level bin.Ge = 5
level bin.Add = 6
level bin.Sub = 6
level bin.Mul = 7
level bin.Div = 7
level bin.Mod = 7

-- the level of any expression, and that of an operand with its signs alone
abbrev pub any_level : ℕ
any_level = 1

abbrev pub unary_level : ℕ
unary_level = 8

-- The operators of this level in the chain that ends in the expression: those that join it from the left. Brackets
-- round the first operand are left aside, since a tree has none.
abbrev pub chain : ℕ → ExprTree → ℕ
chain l (binary op a b s) = cond (level op == l) (suc (chain l a)) 0
chain l _ = 0
