use Rattle.fault_sites.proofs.SitesHave.{has_each}
use Rattle.fault_sites.proofs.laws.each_fault_of_a_class_has_a_site.Goals as goal

pub returns : goal.returns
returns c = has_each
