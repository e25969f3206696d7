use Rattle.fault_sites.proofs.RunFit.{each_run_site_fits, run_read_back, run_short}
use Rattle.fault_sites.proofs.laws.a_script_of_a_run_is_read_back.Goals as goal

pub returns : goal.returns
returns c = record { fit = each_run_site_fits; read = run_read_back; short = run_short }
