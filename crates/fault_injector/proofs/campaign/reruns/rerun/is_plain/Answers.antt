use Rattle.std.proofs.Common.{sym, ap, ◌∙◌, arith}
use Rattle.fault_script.specs.Changes.{acts_of}
use Rattle.fault_injector.proofs.Acts.{acts_in, none_of}
use Rattle.fault_injector.proofs.campaign.reruns.rerun.is_plain.Goals as goal

pub returns-clause-none : goal.returns-clause-none
returns-clause-none c = λ whole k.
    let s = c.args.standing.now in
    sym (acts_in s.cycle s.group.now k)
    ∙ (ap (λ fs. acts_of fs s.cycle k) (sym c.requires) ∙ none_of s.faults.now s.cycle k (omega (arith, c.if-standing-gt0.false)))
