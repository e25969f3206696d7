use Rattle.std.proofs.Common.{sym}
use Rattle.st_writer.specs.Lexemes as lexeme
use Rattle.st_writer.proofs.Added.{one_put}
use Rattle.st_writer.proofs.writer.Writer.name.Goals as goal

pub returns : goal.returns
returns c = one_put (lexeme.name c.args.name.now) (sym c.bytes.ensures) c.put.ensures
