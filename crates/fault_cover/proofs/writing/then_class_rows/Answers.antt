use Rattle.std.proofs.Common.{◌≤◌, flat_map, length, ap, sym, arith}
use Rattle.std.proofs.lemmas.List.{take_all}
use Rattle.fault_cover.specs.Writing.{count_row}
use Rattle.fault_cover.proofs.Covering.{small_at}
use Rattle.fault_cover.proofs.Going.{taken_more}
use Rattle.vcp_outside.specs.Pens.{unmoved, and_then, same}
use Rattle.fault_cover.proofs.writing.then_class_rows.Goals as goal

pub classes-init : goal.classes-init
classes-init g c = λ small. unmoved

pub classes-preserved : goal.classes-preserved
classes-preserved g c = λ small.
    let n = c.item-count.result in
    same (and_then (c.classes.invariant small) (c.then_class_row-pen.ensures (small_at c.args.counts.now c.classes.i n c.item-count.ensures small)))
    (sym (taken_more count_row c.args.counts.now c.classes.i n c.item-count.ensures))

pub returns : goal.returns
returns g c = λ small.
    let past : length c.args.counts.now ≤ c.classes.i = omega (arith, c.classes-test.false) in
    same (c.classes.invariant small) (ap (flat_map count_row) (sym (take_all c.classes.i c.args.counts.now past)))
