use Rattle.std.proofs.Common.{◌∷◌, [], refl, ap, sym}
use Rattle.st_lexer.specs.declared.token.Sym.TheVariants as symbols
use Rattle.st_tree.specs.ExprViews.{expr_tree_or_none}
use Rattle.st_writer.specs.CanonicalStmt.{last_of_range}
use Rattle.st_writer.specs.Lexemes as lexeme
use Rattle.st_writer.proofs.Added.{and_then, same}
use Rattle.st_writer.proofs.writer.Writer.label.Goals as goal

pub returns-in-Some : goal.returns-in-Some
returns-in-Some c =
    and_then c.constant-first.ensures (same (ap (λ last. last_of_range (expr_tree_or_none last)) (sym c.in-Some.is))
    (and_then (c.put.ensures (lexeme.symbol symbols.DotDot ∷ []) refl) c.constant.ensures))
