use Rattle.std.proofs.Common.{append_assoc, rules, refl}
use Rattle.vcp_core.proofs.Written.{writes_same}
use Rattle.vcp_outside.specs.Pens.{ended}
use Rattle.vcp_core.proofs.source.ok_line.Goals as goal

pub returns : goal.returns
returns g c =
    let all = c.count.ensures _ _ _ (c.text.ensures _ _ _ (c.new.ensures)) in
    writes_same (ended g.O.Sink.seen (search rules) all c.end.ensures refl) (simp append_assoc)
