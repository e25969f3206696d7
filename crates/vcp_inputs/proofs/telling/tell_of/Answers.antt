use Rattle.std.proofs.Common.{append_assoc, rules, refl}
use Rattle.vcp_inputs.proofs.Lines.{writes_same}
use Rattle.vcp_outside.specs.Pens.{ended}
use Rattle.vcp_inputs.proofs.telling.tell_of.Goals as goal

pub returns : goal.returns
returns g c = writes_same (ended g.E.Sink.seen (search rules) (c.texts.ensures _ _ _ (c.new.ensures)) c.end.ensures refl) (simp append_assoc)
