use Rattle.std.proofs.Common.{◌∙◌, ap, sym, rules, refl}
use Rattle.vcp_inputs.specs.Lines.{diagnostic_text}
use Rattle.vcp_inputs.specs.Told.{as_diagnostic}
use Rattle.vcp_inputs.proofs.Lines.{writes_same}
use Rattle.vcp_inputs.proofs.ToldLines.{told_line}
use Rattle.vcp_outside.specs.Pens.{ended}
use Rattle.vcp_inputs.proofs.telling.tell_refusal.Goals as goal

pub returns-in-Memory : goal.returns-in-Memory
returns-in-Memory g c =
    writes_same c.write_all.ensures (ap (diagnostic_text c.args.name.now) (sym c.told_of-told.ensures ∙ ap as_diagnostic c.in-Memory.is))

pub returns : goal.returns
returns g c =
    let named = c.text-pen.ensures _ _ _ (c.new.ensures) in
    writes_same (ended g.E.Sink.seen (search rules) (c.then_told.ensures _ _ _ named) c.end.ensures refl)
    (ap (diagnostic_text c.args.name.now) (sym c.told_of-told.ensures) ∙ told_line c.args.name.now c.told_of-told.result c.in_default.not-Memory)
