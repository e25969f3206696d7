use Rattle.std.proofs.Common.{[], ◌∷◌, None, Option, Some, refl, sym, subst, ◌∙◌}
use Rattle.coded_unit.specs.declared.call.Call.{Call}
use Rattle.coded_unit.specs.declared.call.Answer.TheVariants as answer
use Rattle.coded_machine.specs.Calls.{Carried}
use Rattle.fault_script.specs.declared.act.Act.{Act}
use Rattle.fault_injector.specs.Begun.{Comes}
use Rattle.fault_injector.specs.Reruns.{source_touched}
use Rattle.fault_injector.proofs.AgainRuns.{comes_asked, comes_skipped}
use Rattle.fault_injector.proofs.campaign.reruns.again.perform_under.Goals as goal

pub returns-in_default : goal.returns-in_default
returns-in_default g c =
    let old = g.U.Unit.seen c.args.unit.now in
    let new = g.U.Unit.seen c.perform.new.self in
    let laws = c.cycles_by_hand_are_whole.ensures in
    let carried =
    laws.one_carried [] c.args.call.now c.perform.result old.log old.log new.log old.wrong old.wrong new.wrong (laws.nothing_carried old.log old.wrong)
    c.perform.ensures.log c.perform.ensures.wrong in
    subst (λ (a : Option Act). Comes (source_touched a c.args.word.now c.args.call.now) (Some c.perform.result) old.log new.log old.wrong new.wrong)
    (sym c.in_default.is)
    (comes_asked None c.args.word.now c.args.call.now c.perform.result c.perform.result old.log new.log old.wrong new.wrong refl refl carried)

pub returns-then-is_skip : goal.returns-then-is_skip
returns-then-is_skip g c =
    let seen = g.U.Unit.seen c.args.unit.now in
    subst
    (λ (a : Option Act). Comes (source_touched a c.args.word.now c.args.call.now) (Some (answer.Word c.args.word.now)) seen.log seen.log seen.wrong seen.wrong)
    (sym c.in-Some.is)
    (comes_skipped (Some c.in-Some.act) c.args.word.now c.args.call.now seen.log seen.wrong (sym c.is_skip.ensures ∙ c.if-is_skip.true)
    (c.cycles_by_hand_are_whole.ensures.nothing_carried seen.log seen.wrong))

pub returns : goal.returns
returns g c =
    let old = g.U.Unit.seen c.args.unit.now in
    let new = g.U.Unit.seen c.perform-given.new.self in
    let laws = c.cycles_by_hand_are_whole.ensures in
    let given = c.perform-given.result in
    let carried =
    laws.one_carried [] c.changed.result given old.log old.log new.log old.wrong old.wrong new.wrong (laws.nothing_carried old.log old.wrong)
    c.perform-given.ensures.log c.perform-given.ensures.wrong in
    subst (λ (a : Option Act). Comes (source_touched a c.args.word.now c.args.call.now) (Some c.answered.result) old.log new.log old.wrong new.wrong)
    (sym c.in-Some.is)
    (comes_asked (Some c.in-Some.act) c.args.word.now c.args.call.now given c.answered.result old.log new.log old.wrong new.wrong
    (sym c.is_skip.ensures ∙ c.if-is_skip.false) c.answered.ensures
    (subst (λ (call : Call). Carried ((call, given) ∷ []) old.log new.log old.wrong new.wrong) c.changed.ensures.call carried))

pub perform-given-requires : goal.perform-given-requires
perform-given-requires g c = c.changed.ensures.asked c.requires
