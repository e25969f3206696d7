use Rattle.std.proofs.Common.{◌∷◌, [], refl, ap}
use Rattle.std.specs.Prelude.{map, flat_map}
use Rattle.st_lexer.specs.declared.token.Key.TheVariants as keys
use Rattle.st_tree.specs.ProgramViews.{block_tree}
use Rattle.st_tree.specs.StmtViews.{stmt_trees}
use Rattle.st_writer.specs.CanonicalProgram as spec
use Rattle.st_writer.specs.CanonicalStmt.{stmts}
use Rattle.st_writer.specs.Lexemes as lexeme
use Rattle.st_writer.proofs.Added.{and_then, same}
use Rattle.st_writer.proofs.writer.Writer.program.Goals as goal

pub returns : goal.returns
returns c =
    and_then (c.put.ensures (lexeme.word keys.Program ∷ lexeme.blank ∷ []) refl) (and_then c.name.ensures (and_then (c.put-2.ensures (lexeme.line_end ∷ []) refl)
    (and_then (same (ap (λ x. flat_map spec.block (map block_tree x)) c.deref.ensures.value) c.blocks-2.ensures)
    (and_then (same (ap (λ x. stmts 1 (stmt_trees x)) c.deref-2.ensures.value) c.stmts.ensures)
    (c.put-3.ensures (lexeme.word keys.EndProgram ∷ lexeme.line_end ∷ []) refl)))))
