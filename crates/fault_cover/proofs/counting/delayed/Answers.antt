use Rattle.std.proofs.Common.{◌≤◌, length, ap, ◌∙◌, arith, refl}
use Rattle.std.proofs.lemmas.List.{take_all}
use Rattle.fault_cover.specs.CoverText.{delays, heard_of}
use Rattle.fault_cover.proofs.Tallying.{delay_next, counted_many}
use Rattle.fault_cover.proofs.counting.delayed.Goals as goal

pub classes-init : goal.classes-init
classes-init c = λ covered are few. refl

pub classes-preserved : goal.classes-preserved
classes-preserved c = λ covered are few.
    delay_next c.args.counts.now covered c.classes.i c.item-count.result c.args.n c.requires are few c.item-count.ensures c.classes.all
    c.plus-all.result
    (c.classes.invariant covered are few) c.plus-all.ensures

pub returns : goal.returns
returns c = λ covered are few.
    let many = counted_many c.args.counts.now covered are in
    let past : length covered ≤ c.classes.i = omega (arith, c.classes-test.false, many) in
    c.classes.invariant covered are few ∙ ap (λ cs. delays (heard_of cs) c.args.n) (take_all c.classes.i covered past)
