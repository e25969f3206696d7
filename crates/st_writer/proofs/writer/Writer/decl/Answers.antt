use Rattle.std.proofs.Common.{◌∷◌, [], ◌++◌, refl, ap, sym}
use Rattle.std.specs.Prelude.{map}
use Rattle.st_lexer.specs.declared.token.Sym.TheVariants as symbols
use Rattle.st_tree.specs.ExprViews.{expr_tree_or_none}
use Rattle.st_tree.specs.Programs.{type_key}
use Rattle.st_tree.specs.ProgramViews.{declared_tree}
use Rattle.st_writer.specs.CanonicalProgram as spec
use Rattle.st_writer.specs.Lexemes as lexeme
use Rattle.st_writer.proofs.Added.{and_then, same, head_ends}
use Rattle.st_writer.proofs.writer.Writer.decl.Goals as goal

pub returns : goal.returns
returns c =
    let ty = lexeme.blank ∷ lexeme.symbol symbols.Colon ∷ lexeme.blank ∷ lexeme.word (type_key c.args.decl.now.ty) ∷ [] in
    let blanks = lexeme.blank ∷ lexeme.blank ∷ [] in
    head_ends blanks (spec.names (map declared_tree c.args.decl.now.names.items.items)) (ty ++ spec.init (expr_tree_or_none c.args.decl.now.init))
    (lexeme.symbol symbols.Semi ∷ [])
    (and_then (c.put.ensures blanks refl) (and_then (same (ap (λ x. spec.names (map declared_tree x)) c.deref.ensures.value) c.names.ensures)
    (and_then (and_then (c.put-2.ensures ty (sym c.type_text.ensures)) c.init.ensures)
    (c.put-3.ensures (lexeme.symbol symbols.Semi ∷ lexeme.line_end ∷ []) refl))))
