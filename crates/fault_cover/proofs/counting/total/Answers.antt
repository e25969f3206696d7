use Rattle.std.proofs.Common.{◌≤◌, length, ap, ◌∙◌, arith}
use Rattle.std.proofs.lemmas.List.{take_all}
use Rattle.fault_cover.specs.CoverText.{heard_of, tally}
use Rattle.fault_cover.proofs.Tallying.{total_next, counted_many}
use Rattle.fault_cover.proofs.counting.total.Goals as goal

pub classes-init : goal.classes-init
classes-init c = λ covered are few. c.none-all.ensures

pub classes-preserved : goal.classes-preserved
classes-preserved c = λ covered are few.
    total_next c.args.counts.now covered c.classes.i c.item-count.result are few c.item-count.ensures c.classes.all c.with-all.result
    (c.classes.invariant covered are few) c.with-all.ensures

pub returns : goal.returns
returns c = λ covered are few.
    let many = counted_many c.args.counts.now covered are in
    let past : length covered ≤ c.classes.i = omega (arith, c.classes-test.false, many) in
    c.classes.invariant covered are few ∙ ap (λ cs. tally (heard_of cs)) (take_all c.classes.i covered past)
