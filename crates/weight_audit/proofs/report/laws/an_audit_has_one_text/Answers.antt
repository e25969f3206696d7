use Rattle.std.proofs.Common.{refl}
use Rattle.weight_audit.specs.AuditText.{audit_text}
use Rattle.weight_audit.proofs.KeptMarks.{one_text, blind_is}
use Rattle.weight_audit.proofs.report.laws.an_audit_has_one_text.Goals as goal

pub returns-clause-some : goal.returns-clause-some
returns-clause-some c = λ g horizon is.
    let a = c.each_graph_has_an_audit.ensures g horizon is in
    (audit_text g a.0 horizon, record { audit = a.0; is = a.1; told = refl })

pub returns-clause-one : goal.returns-clause-one
returns-clause-one c = one_text

pub returns-clause-blind : goal.returns-clause-blind
returns-clause-blind c = blind_is
