use Rattle.std.proofs.Common.{sym, ap, ◌∙◌, arith}
use Rattle.std.specs.List.{list_any}
use Rattle.verdict_tables.specs.Endings.{comes_to}
use Rattle.verdict_tables.proofs.Found.{any_here, any_behind}
use Rattle.verdict_tables.proofs.Lists.{drop_behind}
use Rattle.verdict_tables.proofs.endless.run.comes_to_any.Goals as goal

pub faults-preserved : goal.faults-preserved
faults-preserved c =
    c.faults.invariant
    ∙ any_behind (comes_to c.args.cycle c.args.answers.now) c.args.group.now c.faults.i c.at.result c.comes_to.result c.at.ensures
    c.comes_to.ensures c.if-comes_to.false

pub returns-then-comes_to : goal.returns-then-comes_to
returns-then-comes_to c =
    sym (c.faults.invariant
    ∙ any_here (comes_to c.args.cycle c.args.answers.now) c.args.group.now c.faults.i c.at.result c.comes_to.result c.at.ensures
    c.comes_to.ensures c.if-comes_to.true)

pub returns : goal.returns
returns c =
    sym (c.faults.invariant
    ∙ ap (λ fs. list_any (comes_to c.args.cycle c.args.answers.now) fs)
    (drop_behind c.args.group.now c.faults.i (omega (arith, c.faults-test.false, c.len-i-end.ensures))))
