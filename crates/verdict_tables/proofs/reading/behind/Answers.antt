use Rattle.verdict_tables.proofs.LinesRead.{no_line, nothing_behind, more_behind}
use Rattle.verdict_tables.proofs.reading.behind.Goals as goal

pub returns-then-is_empty-clause-ok : goal.returns-then-is_empty-clause-ok
returns-then-is_empty-clause-ok c = nothing_behind c.args.number _ (no_line c.args.rest.now c.is_empty.result c.is_empty.ensures c.if-is_empty.true)

pub returns-clause-refusal : goal.returns-clause-refusal
returns-clause-refusal c = more_behind c.args.number _ _ _ c.first_line.ensures.lines
