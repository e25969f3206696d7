use Rattle.std.proofs.Common.{sym, ◌∙◌, rules, refl}
use Rattle.fault_sites.proofs.WrittenScripts.{number_written, sink_failed}
use Rattle.vcp_outside.specs.Pens.{ended}
use Rattle.fault_sites.proofs.scripts.number.write_number.Goals as goal

pub returns-clause-writes : goal.returns-clause-writes
returns-clause-writes g c =
    let written = ended g.O.Sink.seen (search rules) (c.count-pen.ensures _ _ _ (c.new.ensures)) c.end.ensures refl in
    rw c.outcome.ensures (number_written c.args.number c.end.result written)

pub returns-clause-failed : goal.returns-clause-failed
returns-clause-failed g c = λ is.
    let written = ended g.O.Sink.seen (search rules) (c.count-pen.ensures _ _ _ (c.new.ensures)) c.end.ensures refl in
    sink_failed c.end.result written (sym c.outcome.ensures ∙ is)
