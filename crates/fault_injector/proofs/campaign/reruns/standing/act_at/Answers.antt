use Rattle.std.proofs.Common.{ap, ◌∙◌}
use Rattle.fault_script.specs.Changes.{acts_of}
use Rattle.fault_injector.proofs.Acts.{acts_in}
use Rattle.fault_injector.proofs.campaign.reruns.standing.act_at.Goals as goal

pub returns : goal.returns
returns c =
    let s = c.args.standing.now in
    c.first_act.ensures ∙ (ap (λ fs. acts_of fs s.cycle c.args.op) c.requires ∙ acts_in s.cycle s.group.now c.args.op)
