use Rattle.std.proofs.Common.{refl, sum_by}
use Rattle.std.proofs.lemmas.List.Sums.{sum_by-cons}
use Rattle.std.specs.List.{list_any}
use Rattle.vcp_typed.specs.declared.slot.Slot.{Slot}
use Rattle.vcp_typed.specs.Size.{section_size}
use Rattle.vcp_typed.specs.Wide.{is_lint}
use Rattle.vcp_typed.proofs.Growths.{grown, grows-more, grows-end}
use Rattle.vcp_typed.proofs.measure.slots_measure.Goals as goal

pub each-init : goal.each-init
each-init c = λ r h. h

pub each-preserved : goal.each-preserved
each-preserved c = λ r h.
    let s = c.s-item.result in
    let here = grown c.each.sum c.more-sum.result _ (section_size s.section) _ (is_lint s.ty) c.section_size.ensures c.is_lint.ensures
    c.more-sum.ensures.size c.more-sum.ensures.wide in
    c.each.invariant r
    (grows-more (sum_by (λ (x : Slot). section_size x.section)) (λ (x : Slot). section_size x.section) (list_any (λ (x : Slot). is_lint x.ty))
    (λ (x : Slot). is_lint x.ty) c.args.slots.now c.each.s-index s _ _ r (λ y ys. sum_by-cons (λ (x : Slot). section_size x.section) y ys) (λ _ _. refl)
    c.each-test.true c.s-item.is here h)

pub returns : goal.returns
returns c =
    c.each.invariant c.each.sum
    (grows-end (sum_by (λ (x : Slot). section_size x.section)) (list_any (λ (x : Slot). is_lint x.ty)) c.args.slots.now c.each.s-index c.each.sum refl refl
    c.each-test.false)
