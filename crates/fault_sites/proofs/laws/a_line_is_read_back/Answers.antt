use Rattle.fault_sites.proofs.ReadBack.{line_back}
use Rattle.fault_sites.proofs.laws.a_line_is_read_back.Goals as goal

pub returns : goal.returns
returns c = line_back
