use Rattle.vcp_outside.specs.Pens.{and_then}
use Rattle.fault_sites.proofs.writing.then_remark.Goals as goal

pub returns : goal.returns
returns g c = and_then c.texts.ensures c.texts-2.ensures
