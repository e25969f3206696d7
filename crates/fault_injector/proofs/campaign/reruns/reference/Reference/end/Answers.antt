use Rattle.std.proofs.Common.{◌≡◌, sym, ap, subst, ◌∙◌, arith}
use Rattle.coded_machine.specs.Runs.{outcome_over}
use Rattle.fault_injector.specs.References.{KeptRun}
use Rattle.fault_injector.proofs.KeptParts.{ended_early, ended_late}
use Rattle.fault_injector.proofs.campaign.reruns.reference.Reference.end.Goals as goal

pub returns-then-n-last : goal.returns-then-n-last
returns-then-n-last c =
    let r = c.args.self.now in
    sym (ended_early r.graph r.table r.rows r.answers c.args.n c.cycles-last.ensures.sound.5 (omega (arith, c.if-n-last.true, c.cycles-last.ensures.count)))

pub returns-else-n-last : goal.returns-else-n-last
returns-else-n-last c =
    let r = c.args.self.now in
    let ended = subst (λ (k : KeptRun). (outcome_over k.graph k.table 0 k.answers).end ≡ k.end) c.self.view_is c.self.invariant.ended in
    ap (λ (k : KeptRun). k.end) c.self.view_is
    ∙ (sym ended
    ∙ sym (ended_late r.graph r.table r.rows r.answers c.args.n c.cycles-last.ensures.sound.5
    (omega (arith, c.if-n-last.false, c.cycles-last.ensures.count, c.requires))))
