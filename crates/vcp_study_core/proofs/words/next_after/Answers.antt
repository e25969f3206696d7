use Rattle.std.proofs.Common.{ap, sym, ◌∙◌}
use Rattle.vcp_inputs.specs.Forms.{rows_of}
use Rattle.vcp_study_core.proofs.SumWords.{last_rows, script_next, cycles_next}
use Rattle.vcp_study_core.proofs.words.next_after.Goals as goal

pub returns-then-is_end-clause-next : goal.returns-then-is_end-clause-next
returns-then-is_end-clause-next c = sym (last_rows (rows_of c.args.rows) c.args.words.now (sym c.is_end.ensures ∙ c.if-is_end.true))

pub returns-in-None-clause-next : goal.returns-in-None-clause-next
returns-in-None-clause-next c =
    script_next c.args.words.now (rows_of c.args.rows) _ _ (sym c.is_end.ensures ∙ c.if-is_end.false) (ap rows_of c.in-File.is) c.in-None.ensures

pub returns-in-Some-clause-next : goal.returns-in-Some-clause-next
returns-in-Some-clause-next c =
    script_next c.args.words.now (rows_of c.args.rows) _ _ (sym c.is_end.ensures ∙ c.if-is_end.false) (ap rows_of c.in-File.is) c.in-Some.ensures

pub returns-in-Cycles-clause-next : goal.returns-in-Cycles-clause-next
returns-in-Cycles-clause-next c =
    cycles_next c.args.words.now (rows_of c.args.rows) _ (sym c.is_end.ensures ∙ c.if-is_end.false) (ap rows_of c.in-Cycles.is)
