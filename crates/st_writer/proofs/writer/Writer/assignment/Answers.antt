use Rattle.std.proofs.Common.{◌∷◌, [], refl}
use Rattle.st_lexer.specs.declared.token.Sym.TheVariants as symbols
use Rattle.st_tree.specs.ExprViews.{expr_tree}
use Rattle.st_tree.specs.Operators.{any_level}
use Rattle.st_writer.specs.CanonicalExpr.{expr}
use Rattle.st_writer.specs.Lexemes as lexeme
use Rattle.st_writer.proofs.Added.{and_then, head_ends}
use Rattle.st_writer.proofs.writer.Writer.assignment.Goals as goal

pub returns : goal.returns
returns c =
    let sign = lexeme.blank ∷ lexeme.symbol symbols.Assign ∷ lexeme.blank ∷ [] in
    head_ends (lexeme.indent c.args.level) (lexeme.name c.args.name.now ∷ sign) (expr any_level (expr_tree c.args.value.now)) (lexeme.symbol symbols.Semi ∷ [])
    (and_then c.indent.ensures (and_then (and_then c.name.ensures (c.put.ensures sign refl))
    (and_then c.expr.ensures (c.put-2.ensures (lexeme.symbol symbols.Semi ∷ lexeme.line_end ∷ []) refl))))
