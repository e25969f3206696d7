use Rattle.std.proofs.Common.{Some, None, sym, ◌∙◌}
use Rattle.vcp_inputs.specs.Forms.{rows_of}
use Rattle.vcp_study_core.proofs.SumWords.{next_at_end, next_from}
use Rattle.vcp_study_core.proofs.words.next_behind.Goals as goal

pub returns-then-is_end-clause-next : goal.returns-then-is_end-clause-next
returns-then-is_end-clause-next c = next_at_end c.args.words.now (sym c.is_end.ensures ∙ c.if-is_end.true)

pub returns-in-None-clause-next : goal.returns-in-None-clause-next
returns-in-None-clause-next c = next_from c.args.words.now None (sym c.is_end.ensures ∙ c.if-is_end.false) c.in-None.ensures.rows

pub returns-in-Some-clause-next : goal.returns-in-Some-clause-next
returns-in-Some-clause-next c =
    c.next_after.ensures.next
    ∙ next_from c.args.words.now (Some (rows_of c.in-Some.rows, c.rows.new.self)) (sym c.is_end.ensures ∙ c.if-is_end.false) c.in-Some.ensures.rows
