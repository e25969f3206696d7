use Rattle.std.proofs.Common.{◌≡◌, length, rules, vec_capacity, ap, sym, subst, ◌∙◌}
use Rattle.std.specs.Prelude.{IfSome}
use Rattle.vcp_base.specs.declared.kind.StopKind.TheVariants as why
use Rattle.vcp_typed.specs.Fitting.{AreFit}
use Rattle.st_plain.specs.Standing.{Standing}
use Rattle.st_plain.proofs.Cells.{fit-length, stands}
use Rattle.st_plain.proofs.plain.Plain.cycle.Goals as goal

pub returns-in-Some-clause-cause : goal.returns-in-Some-clause-cause
returns-in-Some-clause-cause c = subst (λ o. IfSome o (λ s. s.kind ≡ why.Operand → ⊥)) c.in-Some.is c.self.invariant.cause

pub set_outputs-requires-clause-values : goal.set_outputs-requires-clause-values
set_outputs-requires-clause-values c =
    ap length c.swap.ensures.x_after ∙ fit-length c.self.inside.program.now.slots c.run_cycle.new.working.values c.in-Ok.ensures.fit
    ∙ ap length (sym (c.deref.ensures.value ∙ c.slots.ensures.slots))

pub invariant_of-self : goal.invariant_of-self
invariant_of-self c =
    let s = stands c.self.inside.program.now c.self.inside.values c.swap.new.x c.self.inside.working.values c.self.inside.stop c.self.inside.turns _ c.run_cycle.new.working.turns.items _ _ c.in_default.not-Some c.self.invariant
    (subst (λ m. AreFit c.self.inside.program.now.slots m)
    (sym c.swap.ensures.x_after) c.in-Ok.ensures.fit) c.in-Ok.ensures.outside c.run_cycle.ensures.capacity in
    subst (λ m. Standing c.self.inside.program.now c.swap.new.x m c.self.inside.stop c.self.inside.turns c.run_cycle.new.working.turns.items
    (vec_capacity c.run_cycle.new.working.turns)) (sym c.swap.ensures.y_after) s

pub returns-in-Ok : goal.returns-in-Ok
returns-in-Ok c = search rules

pub returns-in-Err : goal.returns-in-Err
returns-in-Err c = search rules
