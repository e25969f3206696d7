use Rattle.std.proofs.Common.{IfSome, ◌<◌, ◌∙◌, sym, ap, subst}
use Rattle.vcp_base.specs.Limits.{most_cycles}
use Rattle.coded_machine.specs.Calls.{CallsNextOperation, Next}
use Rattle.coded_machine.specs.State.{given, setting}
use Rattle.pair_channel.specs.PairStates.{PairState}
use Rattle.pair_channel.proofs.States.{finished_as, awaits_as}
use Rattle.pair_channel.proofs.pair.Pair.next_call.Goals as goal

pub next_call-requires : goal.next_call-requires
next_call-requires c =
    let together = c.self.invariant.together c.in-None.is in
    subst (λ n. n < most_cycles) (sym (together.first_cycles ∙ ap (λ (q : PairState). q.cycles) c.self.view_is)) c.requires

pub returns-in-None-clause-none : goal.returns-in-None-clause-none
returns-in-None-clause-none c =
    let s = c.self.inside in
    let p : PairState = record { first = s.first; second = s.second; cycles = s.cycles; ended = s.ended } in
    finished_as p c.args.self.now _ c.self.view_is c.in-None.is c.next_call.ensures.none

pub returns-in-None-clause-some : goal.returns-in-None-clause-some
returns-in-None-clause-some c =
    let s = c.self.inside in
    let p : PairState = record { first = s.first; second = s.second; cycles = s.cycles; ended = s.ended } in
    awaits_as p c.args.self.now _ c.self.view_is c.in-None.is c.next_call.ensures.some

pub returns-in-None-clause-next : goal.returns-in-None-clause-next
returns-in-None-clause-next c =
    subst (λ (q : PairState). IfSome c.next_call.result (λ call. Next (setting q.first c.args.row.now) (given q.first) call)) c.self.view_is
    c.next_call.ensures.next

pub returns-in-None-clause-call : goal.returns-in-None-clause-call
returns-in-None-clause-call c =
    subst (λ (q : PairState). IfSome c.next_call.result (λ call. CallsNextOperation (setting q.first c.args.row.now) (given q.first) call)) c.self.view_is
    c.next_call.ensures.call
