use Rattle.std.proofs.Common.{rules, sym, subst, refl}
use Rattle.coded_machine.specs.Calls.{Next, HasOwnNumber}
use Rattle.coded_machine.specs.State.{setting, given}
use Rattle.coded_machine.proofs.Growth.{next_is}
use Rattle.coded_machine.proofs.Turns.{finished_not_awaits}
use Rattle.coded_machine.proofs.machine.Machine.next_call.Goals as goal

pub returns-in-Some-clause-none : goal.returns-in-Some-clause-none
returns-in-Some-clause-none c = (λ e. absurd cc, λ f. absurd (finished_not_awaits c.args.self.now f c.in-Some.ensures.some.0))

pub returns-in-Some-clause-next : goal.returns-in-Some-clause-next
returns-in-Some-clause-next c =
    subst (λ call. Next (setting c.args.self.now c.args.row.now) (given c.args.self.now) call) (sym c.call.ensures.call)
    (next_is (setting c.args.self.now c.args.row.now) (given c.args.self.now) c.in-Some.op c.in-Some.ensures.some.1)

pub returns-in-Some-clause-own : goal.returns-in-Some-clause-own
returns-in-Some-clause-own c =
    subst (λ call. HasOwnNumber c.args.self.now.graph c.args.row.now call) (sym c.call.ensures.call)
    (record { profile = refl; op = c.in-Some.op; there = c.in-Some.ensures.some.1; number = refl })

pub returns-in-None-clause-some : goal.returns-in-None-clause-some
returns-in-None-clause-some c = (λ e. absurd cc, λ w. absurd (finished_not_awaits c.args.self.now (c.pending.ensures.none c.in-None.is) w))

pub call-requires : goal.call-requires
call-requires c = search rules
