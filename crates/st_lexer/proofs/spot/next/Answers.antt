use Rattle.st_lexer.proofs.Spotted.{behind-lf, behind-other}
use Rattle.st_lexer.proofs.spot.next.Goals as goal

pub returns-then-byte-eq10-clause-spot : goal.returns-then-byte-eq10-clause-spot
returns-then-byte-eq10-clause-spot c = λ before e. behind-lf c.args.spot before c.args.byte e c.if-byte-eq10.true

pub returns-else-byte-eq10-clause-spot : goal.returns-else-byte-eq10-clause-spot
returns-else-byte-eq10-clause-spot c = λ before e. behind-other c.args.spot before c.args.byte e c.if-byte-eq10.false
