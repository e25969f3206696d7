use Rattle.std.proofs.Common.{◌∙◌, ap, length, sym}
use Rattle.fault_cover.specs.declared.tally.Tally.{Tally}
use Rattle.fault_cover.proofs.Covering.{if_ok_weaker, nothing_left}
use Rattle.fault_cover.proofs.writing.left_of.Goals as goal

pub returns-then-all-eq0-2 : goal.returns-then-all-eq0-2
returns-then-all-eq0-2 c = λ stops survey covered are is.
    c.new.ensures.items
    ∙ sym
    (nothing_left c.args.subject.now.graph.now c.args.subject.now.survey.now.horizon (length c.args.subject.now.graph.now.operations) covered
    (sym (ap (λ (t : Tally). t.runs_on) is) ∙ c.if-all-eq0.true) (sym (ap (λ (t : Tally). t.beyond) is) ∙ c.if-all-eq0-2.true))

pub returns : goal.returns
returns c = if_ok_weaker c.lines_left.result _ _ (λ lines are. λ stops survey covered cover is. are stops survey covered cover) c.lines_left.ensures

pub lines_left-requires-clause-table : goal.lines_left-requires-clause-table
lines_left-requires-clause-table c = c.requires.table

pub lines_left-requires-clause-mapped : goal.lines_left-requires-clause-mapped
lines_left-requires-clause-mapped c = c.requires.mapped
