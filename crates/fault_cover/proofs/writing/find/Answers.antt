use Rattle.std.proofs.Common.{subst, sym}
use Rattle.std.proofs.lemmas.Result.{IfOk-from_err}
use Rattle.fault_cover.specs.Counts.{AreCounted}
use Rattle.fault_cover.specs.Leftovers.{AreCovered}
use Rattle.fault_cover.specs.Telling.{subject}
use Rattle.fault_cover.proofs.Hearing.{few_heard}
use Rattle.fault_cover.proofs.writing.find.Goals as goal

pub returns : goal.returns
returns c = λ stops survey.
    let s = subject c.args.subject.now.graph.now c.args.subject.now.table.now c.args.subject.now.survey.now.horizon stops in
    let counted = c.in_ok-counts.ensures stops survey in
    let few = few_heard s c.operations-operations.ensures.rules.part c.args.classes.now counted.covered counted.classes_are counted.all c.requires.few in
    let are : AreCovered s c.args.classes.now counted.covered = record { classes_are = counted.classes_are; all = counted.all; few = few } in
    let all_is = c.total-all.ensures counted.covered (subst (λ ns. AreCounted ns counted.covered) (sym c.deref.ensures.value) counted.counted_are) few in
    record {
      covered = counted.covered;
      are = are;
      counted_are = counted.counted_are;
      all_is = all_is;
      lines_are = c.in_ok-lines.ensures stops survey counted.covered are all_is;
    }

pub returns-in_err-counts : goal.returns-in_err-counts
returns-in_err-counts c = IfOk-from_err c.from_residual.result _ c.from_residual.ensures.0

pub returns-in_err-lines : goal.returns-in_err-lines
returns-in_err-lines c = IfOk-from_err c.from_residual-in_err-lines.result _ c.from_residual-in_err-lines.ensures.0

pub count_classes-requires-clause-table : goal.count_classes-requires-clause-table
count_classes-requires-clause-table c = c.requires.table

pub count_classes-requires-clause-mapped : goal.count_classes-requires-clause-mapped
count_classes-requires-clause-mapped c = c.requires.mapped

pub left_of-requires-clause-table : goal.left_of-requires-clause-table
left_of-requires-clause-table c = c.requires.table

pub left_of-requires-clause-mapped : goal.left_of-requires-clause-mapped
left_of-requires-clause-mapped c = c.requires.mapped
