use Rattle.std.proofs.Common.{sym, ◌∙◌}
use Rattle.verdict_tables.proofs.LinesRead.{is_number, wordless, other_first, verdict_ok, verdict_err}
use Rattle.verdict_tables.proofs.reading.verdict_on.Goals as goal

pub returns-in-None-clause-refusal : goal.returns-in-None-clause-refusal
returns-in-None-clause-refusal c = λ other.
    wordless c.args.graph.now c.args.at c.args.number c.args.line.now _ (sym c.new-words.ensures ∙ c.in-None.ensures.none.0)

pub returns-else-eq-clause-refusal : goal.returns-else-eq-clause-refusal
returns-else-eq-clause-refusal c = λ other.
    let word = c.in-Some.word.now in
    let first = is_number word c.as_bytes.result.now c.format.result.now c.args.at c.eq.result c.eq.ensures c.as_bytes.ensures.value c.format.ensures.text in
    other_first c.args.graph.now c.args.at c.args.number c.args.line.now _ word c.next.new.self c.eq.result (sym c.new-words.ensures ∙ c.in-Some.ensures.some)
    first c.if-eq.false

pub returns-then-eq-clause-ok : goal.returns-then-eq-clause-ok
returns-then-eq-clause-ok c =
    let word = c.in-Some.word.now in
    let first = is_number word c.as_bytes.result.now c.format.result.now c.args.at c.eq.result c.eq.ensures c.as_bytes.ensures.value c.format.ensures.text in
    verdict_ok c.args.graph.now c.args.at c.args.number c.args.line.now _ word c.next.new.self c.eq.result (sym c.new-words.ensures ∙ c.in-Some.ensures.some)
    first c.if-eq.true c.verdict_by.result c.verdict_by.ensures.ok

pub returns-then-eq-clause-refusal : goal.returns-then-eq-clause-refusal
returns-then-eq-clause-refusal c =
    let word = c.in-Some.word.now in
    let first = is_number word c.as_bytes.result.now c.format.result.now c.args.at c.eq.result c.eq.ensures c.as_bytes.ensures.value c.format.ensures.text in
    verdict_err c.args.graph.now c.args.at c.args.number c.args.line.now _ word c.next.new.self c.eq.result (sym c.new-words.ensures ∙ c.in-Some.ensures.some)
    first c.if-eq.true c.verdict_by.result c.verdict_by.ensures.refusal
