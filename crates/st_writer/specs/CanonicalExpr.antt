-- CanonicalExpr: the canonical text of expressions.
use Rattle.std.specs.Prelude.{ℕ, suc, nat_lt, Bool, List, [], ◌∷◌, ◌++◌, cond}
use Rattle.st_lexer.specs.declared.token.Key.TheVariants as key
use Rattle.st_lexer.specs.declared.token.Sym.TheVariants as sym
use Rattle.st_tree.specs.declared.expr.UnOp.{UnOp}
use Rattle.st_tree.specs.declared.expr.UnOp.TheVariants as un
use Rattle.st_tree.specs.declared.expr.BinOp.{BinOp}
use Rattle.st_tree.specs.declared.expr.BinOp.TheVariants as bin
use Rattle.st_tree.specs.ExprTree.{ExprTree, ExprTrees, literal, name, unary, binary, call, no_exprs, and_expr}
use Rattle.st_tree.specs.Operators.{level, any_level, unary_level}
use Rattle.st_writer.specs.Lexemes as lexeme

-- an operator before its operand: `-` has no space behind it, NOT has one
abbrev pub sign : UnOp → List lexeme.Lexeme
sign un.Neg = lexeme.symbol sym.Minus ∷ []
sign un.Not = lexeme.word key.Not ∷ lexeme.blank ∷ []

-- an operator between its operands
abbrev pub operator : BinOp → lexeme.Lexeme
operator bin.Mul = lexeme.symbol sym.Star
operator bin.Div = lexeme.symbol sym.Slash
operator bin.Mod = lexeme.word key.Mod
operator bin.Add = lexeme.symbol sym.Plus
operator bin.Sub = lexeme.symbol sym.Minus
operator bin.Lt = lexeme.symbol sym.Lt
operator bin.Gt = lexeme.symbol sym.Gt
operator bin.Le = lexeme.symbol sym.Le
operator bin.Ge = lexeme.symbol sym.Ge
operator bin.Eq = lexeme.symbol sym.Eq
operator bin.Ne = lexeme.symbol sym.Ne
operator bin.And = lexeme.word key.And
operator bin.Xor = lexeme.word key.Xor
operator bin.Or = lexeme.word key.Or

-- in brackets where they are needed
abbrev pub bracketed : Bool → List lexeme.Lexeme → List lexeme.Lexeme
bracketed needed xs = cond needed (lexeme.symbol sym.LParen ∷ (xs ++ lexeme.symbol sym.RParen ∷ [])) xs

-- The expression where an operator of level l or more is wanted: one that binds more weakly is in brackets. The right
-- operand of an operator is where a stronger one is wanted, so that one of the same level is in brackets there.
abbrev mutual
  pub expr : ℕ → ExprTree → List lexeme.Lexeme
  expr l (literal ty v s) = lexeme.literal ty v ∷ []
  expr l (name n s) = lexeme.name n ∷ []
  expr l (unary op a s) = sign op ++ expr unary_level a
  expr l (binary op a b s) =
      bracketed (nat_lt (level op) l) (expr (level op) a ++ lexeme.blank ∷ operator op ∷ lexeme.blank ∷ expr (suc (level op)) b)
  expr l (call n es s) = lexeme.name n ∷ lexeme.symbol sym.LParen ∷ (args es ++ lexeme.symbol sym.RParen ∷ [])

  -- the arguments of a call
  pub args : ExprTrees → List lexeme.Lexeme
  args no_exprs = []
  args (and_expr e es) = expr any_level e ++ more_args es

  pub more_args : ExprTrees → List lexeme.Lexeme
  more_args no_exprs = []
  more_args (and_expr e es) = lexeme.symbol sym.Comma ∷ lexeme.blank ∷ (expr any_level e ++ more_args es)
