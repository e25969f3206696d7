use Rattle.std.proofs.Common.{◌∷◌, [], ◌++◌, List, ◌∙◌, refl, ap, sym, append_assoc}
use Rattle.st_lexer.specs.declared.token.Key.TheVariants as keys
use Rattle.st_tree.specs.ExprViews.{expr_tree, expr_tree_or_none}
use Rattle.st_tree.specs.Operators.{any_level}
use Rattle.st_writer.specs.CanonicalExpr.{expr}
use Rattle.st_writer.specs.CanonicalStmt as canonical
use Rattle.st_writer.specs.Lexemes as lexeme
use Rattle.st_writer.specs.Lexemes.{Lexeme}
use Rattle.st_writer.proofs.Added.{and_then, same}
use Rattle.st_writer.proofs.writer.Writer.step.Goals as goal

pub returns-in-Some : goal.returns-in-Some
returns-in-Some c =
    let end = lexeme.line_end ∷ [] in
    let do_end = lexeme.word keys.Do ∷ end in
    let by = lexeme.blank ∷ lexeme.word keys.By ∷ lexeme.blank ∷ [] in
    let e = expr any_level (expr_tree c.in-Some.e) in
    let grouped = sym (append_assoc (e ++ lexeme.blank ∷ []) (lexeme.word keys.Do ∷ []) end ∙ append_assoc e (lexeme.blank ∷ []) do_end) in
    same (ap (λ (t : List Lexeme). by ++ t) grouped
    ∙ ap (λ o. lexeme.blank ∷ ((canonical.step (expr_tree_or_none o) ++ lexeme.word keys.Do ∷ []) ++ end)) (sym c.in-Some.is))
    (and_then (c.put-in-Some.ensures by refl) (and_then c.expr.ensures (c.put-in-Some-2.ensures (lexeme.blank ∷ do_end) refl)))
