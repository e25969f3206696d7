use Rattle.std.proofs.Common.{◌≤◌, ◌+◌, ◌++◌, flat_map, length, take, take_all, ap, arith}
use Rattle.fault_cover.specs.Classes.{singles_of}
use Rattle.fault_cover.proofs.Going.{passes_both, passes_none, passes_same, taken_more}
use Rattle.fault_cover.proofs.faults.then_faults_at.Goals as goal

pub classes-init : goal.classes-init
classes-init g c = λ stops survey. passes_none

pub classes-preserved : goal.classes-preserved
classes-preserved g c = λ stops survey.
    let one = c.item-class.result in
    let i = c.classes.i in
    let past = flat_map (λ d. singles_of d c.args.subject.now.graph.now c.args.k) (take i c.args.classes.now) in
    passes_same (past ++ singles_of one c.args.subject.now.graph.now c.args.k) (flat_map (λ d. singles_of d c.args.subject.now.graph.now c.args.k) (take (i
    + 1) c.args.classes.now))
    (passes_both past (singles_of one c.args.subject.now.graph.now c.args.k) (c.classes.invariant stops survey) (c.then_operation_faults-listener.ensures stops survey))
    (taken_more (λ d. singles_of d c.args.subject.now.graph.now c.args.k) c.args.classes.now i one c.item-class.ensures)

pub returns : goal.returns
returns g c = λ stops survey.
    let past : length c.args.classes.now ≤ c.classes.i = omega (arith, c.classes-test.false) in
    passes_same _ _ (c.classes.invariant stops survey)
    (ap (flat_map (λ d. singles_of d c.args.subject.now.graph.now c.args.k)) (take_all c.classes.i c.args.classes.now past))
