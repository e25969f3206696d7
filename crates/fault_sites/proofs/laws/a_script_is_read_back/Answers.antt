use Rattle.fault_sites.proofs.ReadBack.{read_back}
use Rattle.fault_sites.proofs.Short.{is_short}
use Rattle.fault_sites.proofs.laws.a_script_is_read_back.Goals as goal

pub returns : goal.returns
returns c = record { read = read_back; short = is_short }
