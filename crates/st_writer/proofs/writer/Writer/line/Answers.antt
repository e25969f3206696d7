use Rattle.std.proofs.Common.{◌∷◌, [], ◌++◌}
use Rattle.st_writer.specs.Lexemes as lexeme
use Rattle.st_writer.proofs.Added.{and_then}
use Rattle.st_writer.proofs.writer.Writer.line.Goals as goal

pub returns : goal.returns
returns c = λ xs is. and_then c.indent.ensures (c.put.ensures (xs ++ lexeme.line_end ∷ []) is)
