use Rattle.std.proofs.Common.{◌∷◌, [], ◌++◌, refl}
use Rattle.st_lexer.specs.declared.token.Key.TheVariants as keys
use Rattle.st_lexer.specs.declared.token.Sym.TheVariants as symbols
use Rattle.st_tree.specs.ExprViews.{expr_tree, expr_tree_or_none}
use Rattle.st_tree.specs.Operators.{any_level}
use Rattle.st_writer.specs.CanonicalExpr.{expr}
use Rattle.st_writer.specs.CanonicalStmt as canonical
use Rattle.st_writer.specs.Lexemes as lexeme
use Rattle.st_writer.proofs.Added.{and_then, head_ends}
use Rattle.st_writer.proofs.writer.Writer.for_line.Goals as goal

pub returns : goal.returns
returns c =
    let begin = lexeme.word keys.For ∷ lexeme.blank ∷ [] in
    let sign = lexeme.blank ∷ lexeme.symbol symbols.Assign ∷ lexeme.blank ∷ [] in
    let to = lexeme.blank ∷ lexeme.word keys.To ∷ lexeme.blank ∷ [] in
    let first = expr any_level (expr_tree c.args.first.now) in
    let last = expr any_level (expr_tree c.args.last.now) in
    head_ends (lexeme.indent c.args.level) (begin ++ lexeme.name c.args.name.now ∷ sign ++ first) (to ++ last)
    (lexeme.blank ∷ (canonical.step (expr_tree_or_none c.args.by.now) ++ lexeme.word keys.Do ∷ []))
    (and_then c.indent.ensures
    (and_then (and_then (c.put.ensures begin refl) (and_then c.name.ensures (and_then (c.put-2.ensures sign refl) c.expr.ensures)))
    (and_then (and_then (c.put-3.ensures to refl) c.expr-2.ensures) c.step.ensures)))
