use Rattle.std.proofs.Common.{sym, subst, ◌∙◌}
use Rattle.std.proofs.lemmas.Option.{same_Some}
use Rattle.vcp_base.specs.Values.{at}
use Rattle.range_walk.specs.Intervals.{IsIn}
use Rattle.range_walk.specs.Walking.{Tells}
use Rattle.range_walk.proofs.InputValues.{input_tells}
use Rattle.range_walk.proofs.inputs.told_by_input.Goals as goal

pub returns-in-Input : goal.returns-in-Input
returns-in-Input c = λ held row vs other there inside tells.
    let op = c.operation-op.result in
    let t = c.args.told in
    let same = same_Some op other (sym c.operation-op.ensures ∙ there) in
    let r = c.within_input-range.result in
    let within = subst (λ p. IsIn t.range (at row p) → IsIn r (at row p)) c.own_place-place.ensures (c.within_input-range.ensures row inside) in
    subst (λ o. Tells held row vs o (record { range = r; stops = t.stops })) same
    (input_tells held row vs op t r c.in-Input.is within (subst (λ o. Tells held row vs o t) (sym same) tells))
