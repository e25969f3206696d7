use Rattle.std.proofs.Common.{◌∷◌, [], ◌++◌}
use Rattle.st_tree.specs.ExprViews.{expr_tree}
use Rattle.st_tree.specs.Operators.{any_level}
use Rattle.st_writer.specs.CanonicalExpr.{expr}
use Rattle.st_writer.specs.Lexemes as lexeme
use Rattle.st_writer.proofs.Added.{and_then, head_ends}
use Rattle.st_writer.proofs.writer.Writer.head.Goals as goal

pub returns : goal.returns
returns c = λ xs ys before behind.
    head_ends (lexeme.indent c.args.level) xs (expr any_level (expr_tree c.args.e.now)) ys
    (and_then c.indent.ensures (and_then (c.put.ensures xs before) (and_then c.expr.ensures (c.put-2.ensures (ys ++ lexeme.line_end ∷ []) behind))))
