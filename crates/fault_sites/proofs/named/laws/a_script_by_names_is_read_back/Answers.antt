use Rattle.fault_sites.proofs.Checked.{compiled, is_short}
use Rattle.fault_sites.proofs.named.laws.a_script_by_names_is_read_back.Goals as goal

pub returns : goal.returns
returns c = record { read = compiled c.a_line_is_read_back.ensures; short = is_short }
