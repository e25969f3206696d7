use Rattle.fault_sites.proofs.SitesOnce.{each_once}
use Rattle.fault_sites.proofs.laws.each_site_stands_once.Goals as goal

pub returns : goal.returns
returns c = each_once
