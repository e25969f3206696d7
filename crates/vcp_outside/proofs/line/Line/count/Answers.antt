use Rattle.std.proofs.Common.{rules}
use Rattle.vcp_outside.proofs.line.Line.count.Goals as goal

pub returns : goal.returns
returns g c = search rules
