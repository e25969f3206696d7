use Rattle.std.proofs.Common.{◌≡◌, length, arith}
use Rattle.fault_cover.specs.Telling.{subject}
use Rattle.fault_cover.proofs.Lining.{lines_more}
use Rattle.fault_cover.proofs.left.lines_left.Goals as goal

pub operations-preserved : goal.operations-preserved
operations-preserved c = λ none stops survey.
    let added = c.add_lines_at.ensures none in
    lines_more (subject c.args.subject.now.graph.now c.args.subject.now.table.now c.args.subject.now.survey.now.horizon stops) c.args.classes.now
    c.operations.k _ _ (c.operations.invariant added.0 stops survey) (added.1 stops survey)

pub returns : goal.returns
returns c =
    let all : c.operations.k ≡ length c.args.subject.now.graph.now.operations =
    omega (arith, c.operations-test.false, c.operations.auto.k-end, c.len-k-end.ensures.count) in
    rw all at (c.operations.invariant c.if-lacked.false)

pub add_lines_at-requires-clause-table : goal.add_lines_at-requires-clause-table
add_lines_at-requires-clause-table c = c.requires.table

pub add_lines_at-requires-clause-mapped : goal.add_lines_at-requires-clause-mapped
add_lines_at-requires-clause-mapped c = c.requires.mapped

pub returns-then-lacked : goal.returns-then-lacked
returns-then-lacked c = tt
