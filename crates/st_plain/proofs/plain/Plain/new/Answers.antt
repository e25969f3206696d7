use Rattle.std.proofs.Common.{length, pos, ap, sym, subst, ◌∙◌, arith}
use Rattle.vcp_typed.specs.Fitting.{AreFit}
use Rattle.std.proofs.lemmas.List.{length-replicate}
use Rattle.vcp_typed.specs.SourceRun.{initial}
use Rattle.st_plain.proofs.Cells.{starts}
use Rattle.st_plain.proofs.plain.Plain.new.Goals as goal

pub invariant_of-result : goal.invariant_of-result
invariant_of-result c =
    let slots = c.deref.ensures.value ∙ c.slots-slots.ensures.slots in
    let fit = subst (λ m. AreFit c.args.program.now.slots m) (sym (c.in_ok-values.ensures ∙ ap initial slots))
    (c.values_fit.ensures.initial c.args.program.now c.slots-slots.ensures.checked) in
    let long = ap length c.in_ok-zeros.ensures ∙ length-replicate c.len.result (pos 0) ∙ c.len.ensures ∙ ap length c.slots-slots.ensures.slots in
    starts c.args.program.now c.in_ok-values.values c.in_ok-zeros.field-0 c.new.result c.in_ok-with_capacity.field-0.items _ fit long c.new.ensures
    c.in_ok-with_capacity.ensures.items (omega (arith, c.size.ensures.size, c.in_ok-with_capacity.ensures.capacity))
