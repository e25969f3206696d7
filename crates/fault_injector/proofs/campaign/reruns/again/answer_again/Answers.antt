use Rattle.std.proofs.Common.{sym, ◌∙◌, rules}
use Rattle.fault_injector.specs.Begun.{begun}
use Rattle.fault_injector.proofs.AgainRuns.{comes_untouched}
use Rattle.fault_injector.proofs.campaign.reruns.again.answer_again.Goals as goal

pub returns-then-not-mark : goal.returns-then-not-mark
returns-then-not-mark g c op there =
    let seen = g.U.Unit.seen c.args.unit.now in
    comes_untouched (begun c.args.b.now) c.args.own.now op c.answer_at.result seen.log seen.wrong (sym c.mark.ensures ∙ c.if-not-mark.true) c.answer_at.ensures
    (c.cycles_by_hand_are_whole.ensures.nothing_carried seen.log seen.wrong)

pub act_at-act-requires : goal.act_at-act-requires
act_at-act-requires g c = c.requires.standing

pub taken-word-requires : goal.taken-word-requires
taken-word-requires g c = c.requires.few

pub call_again-call-requires : goal.call_again-call-requires
call_again-call-requires g c = search rules
