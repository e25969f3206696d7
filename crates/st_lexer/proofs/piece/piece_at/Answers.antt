use Rattle.st_lexer.proofs.Fronts.{finds-within}
use Rattle.st_lexer.proofs.Openings.{finds-at}
use Rattle.st_lexer.proofs.piece.piece_at.Goals as goal

pub returns-clause-finds : goal.returns-clause-finds
returns-clause-finds c = finds-at c.args.at c.args.rest.now c.found_at.result c.found_at.ensures

pub returns-clause-within : goal.returns-clause-within
returns-clause-within c =
    finds-within c.args.at c.args.rest.now c.found_at.result c.requires (finds-at c.args.at c.args.rest.now c.found_at.result c.found_at.ensures)
