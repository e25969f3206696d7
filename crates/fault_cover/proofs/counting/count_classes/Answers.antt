use Rattle.std.proofs.Common.{◌≤◌, length, subst, arith}
use Rattle.std.proofs.lemmas.Result.{IfOk-from_err}
use Rattle.std.proofs.lemmas.List.{take_all}
use Rattle.fault_cover.specs.Counts.{AreCountsOf}
use Rattle.fault_cover.specs.Telling.{subject}
use Rattle.fault_cover.proofs.Tallying.{counts_next}
use Rattle.fault_cover.proofs.counting.count_classes.Goals as goal

pub classes-preserved : goal.classes-preserved
classes-preserved c = λ stops survey.
    counts_next (subject c.args.subject.now.graph.now c.args.subject.now.table.now c.args.subject.now.survey.now.horizon stops) c.args.classes.now c.classes.i
    c.item-class.result _ _ c.count_class.result c.item-class.ensures (c.classes.invariant stops survey)
    (c.count_class.ensures stops survey) c.in_ok-push.ensures.items

pub returns : goal.returns
returns c = λ stops survey.
    let past : length c.args.classes.now ≤ c.classes.i = omega (arith, c.classes-test.false) in
    subst (λ cs. AreCountsOf (subject c.args.subject.now.graph.now c.args.subject.now.table.now c.args.subject.now.survey.now.horizon stops) cs
    c.classes.counts.items)
    (take_all c.classes.i c.args.classes.now past) (c.classes.invariant stops survey)

pub count_class-requires-clause-table : goal.count_class-requires-clause-table
count_class-requires-clause-table c = c.requires.table

pub count_class-requires-clause-mapped : goal.count_class-requires-clause-mapped
count_class-requires-clause-mapped c = c.requires.mapped

pub returns-in_err-push : goal.returns-in_err-push
returns-in_err-push c = IfOk-from_err c.from_residual.result _ c.from_residual.ensures.0
