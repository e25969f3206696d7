use Rattle.std.proofs.Common.{◌∷◌, [], refl, ap, sym}
use Rattle.std.specs.Prelude.{map, flat_map}
use Rattle.st_lexer.specs.declared.token.Key.TheVariants as keys
use Rattle.st_tree.specs.ProgramViews.{decl_tree}
use Rattle.st_writer.specs.CanonicalProgram as spec
use Rattle.st_writer.specs.Lexemes as lexeme
use Rattle.st_writer.proofs.Added.{and_then, same}
use Rattle.st_writer.proofs.writer.Writer.block.Goals as goal

pub returns : goal.returns
returns c =
    and_then (c.put.ensures (lexeme.line 0 (spec.head c.args.block.now.section)) (sym c.head_text.ensures))
    (and_then (same (ap (λ x. flat_map spec.decl (map decl_tree x)) c.deref.ensures.value) c.decls.ensures)
    (c.put-2.ensures (lexeme.word keys.EndVar ∷ lexeme.line_end ∷ []) refl))
