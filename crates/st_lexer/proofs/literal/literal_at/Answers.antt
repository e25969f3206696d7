use Rattle.st_lexer.proofs.Fronts.{literal-within}
use Rattle.st_lexer.proofs.literal.literal_at.Goals as goal

pub returns-then-is_signed-clause-within : goal.returns-then-is_signed-clause-within
returns-then-is_signed-clause-within c =
    literal-within c.args.ty c.args.rest.now c.signed_literal.result c.signed_literal.ensures

pub returns-else-is_signed-clause-within : goal.returns-else-is_signed-clause-within
returns-else-is_signed-clause-within c =
    literal-within c.args.ty c.args.rest.now c.plain_literal.result c.plain_literal.ensures
