use Rattle.std.proofs.Common.{◌∷◌, [], ◌∙◌, refl, ap, sym}
use Rattle.st_lexer.specs.declared.token.Sym.TheVariants as symbols
use Rattle.st_tree.specs.ExprTree.{unary}
use Rattle.st_tree.specs.ExprViews.{expr_tree}
use Rattle.st_writer.specs.CanonicalStmt.{constant, negated}
use Rattle.st_writer.specs.Lexemes as lexeme
use Rattle.st_writer.proofs.Added.{and_then, same}
use Rattle.st_writer.proofs.writer.Writer.constant.Goals as goal

pub returns-in-Neg : goal.returns-in-Neg
returns-in-Neg c =
    let e = c.in-Unary in
    same (ap (λ op. constant (unary op (expr_tree e.arg.value) e.spot)) (sym c.in-Neg.is) ∙ ap (λ x. constant (expr_tree x)) (sym e.is))
    (and_then (c.put.ensures (lexeme.symbol symbols.Minus ∷ []) refl) (same (ap (λ x. negated (expr_tree x)) c.deref.ensures) c.negated.ensures))
