use Rattle.std.proofs.Common.{◌∙◌, sym}
use Rattle.fault_injector.proofs.ListsOfReruns.{same_bools}
use Rattle.fault_injector.proofs.campaign.reruns.rerun.same_marks.Goals as goal

pub returns : goal.returns
returns c = λ same. same_bools c.args.marks.now c.args.others.now (sym c.eq.ensures ∙ same)
