use Rattle.verdict_tables.proofs.LinesRead.{no_line, next_is, next_lacks}
use Rattle.verdict_tables.proofs.reading.next_verdict.Goals as goal

pub returns-then-is_empty-clause-refusal : goal.returns-then-is_empty-clause-refusal
returns-then-is_empty-clause-refusal c = λ other.
    next_lacks c.args.graph.now c.args.at c.args.number _ (no_line c.args.rest.now c.is_empty.result c.is_empty.ensures c.if-is_empty.true)

pub returns-in-Ok-clause-ok : goal.returns-in-Ok-clause-ok
returns-in-Ok-clause-ok c =
    next_is c.args.graph.now c.args.at c.args.number _ c.first_line.result.0.now _ _ c.first_line.ensures.lines c.in-Ok.ensures.ok

pub returns-in-Err-clause-refusal : goal.returns-in-Err-clause-refusal
returns-in-Err-clause-refusal c = λ other.
    next_is c.args.graph.now c.args.at c.args.number _ c.first_line.result.0.now _ _ c.first_line.ensures.lines (c.in-Err.ensures.refusal other)
