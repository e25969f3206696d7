use Rattle.std.proofs.Common.{sym, subst}
use Rattle.il_front.specs.Answers.{NotIl}
use Rattle.il_front.proofs.HeadLaws.{lexer_refuses}
use Rattle.il_front.proofs.reading.read.Goals as goal

pub returns-in-Err-clause-err : goal.returns-in-Err-clause-err
returns-in-Err-clause-err c =
    subst (NotIl c.args.text.now) (sym c.from.ensures) (lexer_refuses c.args.text.now _ c.in-Err.ensures.err)
