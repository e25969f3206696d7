use Rattle.std.proofs.Common.{rules, ◌≡◌, ap, subst, ◌∙◌, arith, [], cond, true, false, vec_capacity, length}
use Rattle.coded_machine.specs.State.{State, given}
use Rattle.coded_machine.specs.Sound.{Sound}
use Rattle.coded_machine.proofs.Turns.{halted_finished, all_finished}
use Rattle.coded_machine.proofs.machine.Machine.pending.Goals as goal

pub returns-then-self : goal.returns-then-self
returns-then-self c =
    let sound : Sound c.args.self.now c.self.inside.halted (vec_capacity c.self.inside.answers) =
    subst (λ m. Sound m c.self.inside.halted (vec_capacity c.self.inside.answers)) c.self.view_is c.self.invariant in
    let halted : Sound c.args.self.now true (vec_capacity c.self.inside.answers) =
    subst (λ b. Sound c.args.self.now b (vec_capacity c.self.inside.answers)) c.if-self.true sound in
    record { none = λ e. halted_finished c.args.self.now _ halted; some = tt }

pub returns-then-answered-len-clause-none : goal.returns-then-answered-len-clause-none
returns-then-answered-len-clause-none c = λ e.
    let sound : Sound c.args.self.now c.self.inside.halted (vec_capacity c.self.inside.answers) =
    subst (λ m. Sound m c.self.inside.halted (vec_capacity c.self.inside.answers)) c.self.view_is c.self.invariant in
    let going : Sound c.args.self.now false (vec_capacity c.self.inside.answers) =
    subst (λ b. Sound c.args.self.now b (vec_capacity c.self.inside.answers)) c.if-self.false sound in
    let same : c.given.result.now ≡ given c.args.self.now =
    c.given.ensures ∙ ap (λ xs. cond c.self.inside.under_way xs []) c.deref.ensures.value ∙ ap given c.self.view_is in
    all_finished c.args.self.now _ going
    (omega (arith, ap length same, ap (λ (m : State). length m.graph.operations) c.self.view_is, c.len.ensures.count, c.if-answered-len.true))

pub returns-then-is_some : goal.returns-then-is_some
returns-then-is_some c = search rules

pub returns : goal.returns
returns c = search rules
