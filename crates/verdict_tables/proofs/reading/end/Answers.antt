use Rattle.std.proofs.Common.{sym, ◌∙◌}
use Rattle.verdict_tables.proofs.Kept.{kept}
use Rattle.verdict_tables.proofs.LinesRead.{no_line, totals_lack, other_totals, totals_ok, totals_err}
use Rattle.verdict_tables.proofs.reading.end.Goals as goal

pub returns-then-is_empty-clause-refusal : goal.returns-then-is_empty-clause-refusal
returns-then-is_empty-clause-refusal c = λ other.
    totals_lack c.args.totals.now c.args.number _ (no_line c.args.rest.now c.is_empty.result c.is_empty.ensures c.if-is_empty.true)

pub returns-then-is_text-clause-ok : goal.returns-then-is_text-clause-ok
returns-then-is_text-clause-ok c =
    let same = kept c.new-told.result c.totals_line.new.out _ c.new-told.ensures c.in-Ok.ensures.whole in
    let told = sym c.if-is_text.true ∙ (rw (c.bytes.ensures, same) at c.is_text.ensures) in
    totals_ok c.args.totals.now c.args.number _ _ _ c.first_line.ensures.lines told c.behind.result c.behind.ensures.ok

pub returns-then-is_text-clause-refusal : goal.returns-then-is_text-clause-refusal
returns-then-is_text-clause-refusal c =
    let same = kept c.new-told.result c.totals_line.new.out _ c.new-told.ensures c.in-Ok.ensures.whole in
    let told = sym c.if-is_text.true ∙ (rw (c.bytes.ensures, same) at c.is_text.ensures) in
    totals_err c.args.totals.now c.args.number _ _ _ c.first_line.ensures.lines told c.behind.result c.behind.ensures.refusal

pub returns-in-Ok-clause-refusal : goal.returns-in-Ok-clause-refusal
returns-in-Ok-clause-refusal c =
    let same = kept c.new-told.result c.totals_line.new.out _ c.new-told.ensures c.in-Ok.ensures.whole in
    let told = sym c.if-is_text.false ∙ (rw (c.bytes.ensures, same) at c.is_text.ensures) in
    λ other. other_totals c.args.totals.now c.args.number _ _ _ c.first_line.ensures.lines told
