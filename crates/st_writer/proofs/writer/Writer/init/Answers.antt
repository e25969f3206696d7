use Rattle.std.proofs.Common.{◌∷◌, [], refl, ap, sym}
use Rattle.st_lexer.specs.declared.token.Sym.TheVariants as symbols
use Rattle.st_tree.specs.ExprViews.{expr_tree_or_none}
use Rattle.st_writer.specs.CanonicalProgram as spec
use Rattle.st_writer.specs.Lexemes as lexeme
use Rattle.st_writer.proofs.Added.{and_then, same}
use Rattle.st_writer.proofs.writer.Writer.init.Goals as goal

pub returns-in-Some : goal.returns-in-Some
returns-in-Some c =
    same (ap (λ e. spec.init (expr_tree_or_none e)) (sym c.in-Some.is))
    (and_then (c.put.ensures (lexeme.blank ∷ lexeme.symbol symbols.Assign ∷ lexeme.blank ∷ []) refl) c.expr.ensures)
