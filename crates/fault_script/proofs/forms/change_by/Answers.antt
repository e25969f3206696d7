use Rattle.std.proofs.Common.{sym, subst}
use Rattle.fault_script.proofs.Moderate.{IsModerate, moderate_act}
use Rattle.fault_script.proofs.forms.change_by.Goals as goal

pub returns-in-Some-act-clause-moderate : goal.returns-in-Some-act-clause-moderate
returns-in-Some-act-clause-moderate c = subst IsModerate (sym c.in-Some-act.ensures) (moderate_act c.args.verb.now c.args.more.now)
