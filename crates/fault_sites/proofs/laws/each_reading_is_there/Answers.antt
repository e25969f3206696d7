use Rattle.fault_sites.proofs.GroupsFit.{readings_read}
use Rattle.fault_sites.proofs.laws.each_reading_is_there.Goals as goal

pub returns : goal.returns
returns c = λ g more k part. readings_read g k more c.entries_keep_their_rules.ensures part
