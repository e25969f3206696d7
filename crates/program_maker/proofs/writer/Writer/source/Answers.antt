use Rattle.program_maker.proofs.Turns.{and_then}
use Rattle.program_maker.proofs.writer.Writer.source.Goals as goal

pub returns-clause-text : goal.returns-clause-text
returns-clause-text c = λ number h.
    and_then (and_then c.put.ensures (and_then c.names.ensures c.put-2.ensures)) (and_then (c.statements.ensures.text number h) c.put-3.ensures)
