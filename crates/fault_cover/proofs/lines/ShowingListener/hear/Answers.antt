use Rattle.std.proofs.Common.{◌≡◌, [], ap, rules}
use Rattle.vcp_outside.specs.Pens.{and_then, same}
use Rattle.fault_cover.specs.Classes.{fault_at}
use Rattle.fault_cover.specs.CoverText.{heard_as, shows_text}
use Rattle.fault_cover.proofs.Going.{told_next, told_nothing}
use Rattle.fault_cover.proofs.lines.ShowingListener.hear.Goals as goal

pub returns-in-Shows : goal.returns-in-Shows
returns-in-Shows g c = λ start past is.
    told_next (λ h. shows_text c.args.graph.now h.fault h.told) past (heard_as c.args.k c.args.disturbance.now c.args.told.now) is
    (same (and_then c.numbered.ensures (and_then (rw c.variable_name-name.ensures at c.texts-pen.ensures) c.then_fault.ensures))
    (ap (λ t. shows_text c.args.graph.now (fault_at c.args.k c.args.disturbance.now) t) c.in-Shows.is))

pub returns-in_default : goal.returns-in_default
returns-in_default g c = λ start past is.
    let none : shows_text c.args.graph.now (fault_at c.args.k c.args.disturbance.now) c.args.told.now ≡ [] = search rules in
    told_nothing (λ h. shows_text c.args.graph.now h.fault h.told) past (heard_as c.args.k c.args.disturbance.now c.args.told.now) is none
