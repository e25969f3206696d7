-- Lists of expressions.
use Rattle.std.proofs.Common.{◌≡◌, ℕ, suc, List, [], ◌∷◌, ◌++◌, refl, ap}
use Rattle.st_lexer.specs.declared.token.Sym.TheVariants as symbols
use Rattle.st_tree.specs.declared.expr.Expr.{Expr}
use Rattle.st_tree.specs.ExprViews.{expr_tree, expr_trees}
use Rattle.st_tree.specs.Operators.{any_level}
use Rattle.st_writer.specs.Lexemes as lexeme
use Rattle.st_writer.specs.Lexemes.{Lexeme}
use Rattle.st_writer.specs.CanonicalExpr.{expr, args, more_args}
use Rattle.st_writer.specs.Adds.{separator}
use Rattle.st_writer.proofs.Lists.{all}

-- an argument, behind what separates it from the one before
abbrev pub arg : ℕ → Expr → List Lexeme
arg i e = separator i ++ expr any_level (expr_tree e)

more-args-are : (es : List Expr) → all (λ i. arg (suc i)) es ≡ more_args (expr_trees es)
more-args-are [] = refl
more-args-are (e ∷ es) =
    ap (λ (t : List Lexeme). lexeme.symbol symbols.Comma ∷ lexeme.blank ∷ (expr any_level (expr_tree e) ++ t)) (more-args-are es)

pub args-are : (es : List Expr) → all arg es ≡ args (expr_trees es)
args-are [] = refl
args-are (e ∷ es) = ap (λ (t : List Lexeme). expr any_level (expr_tree e) ++ t) (more-args-are es)
