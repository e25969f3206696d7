use Rattle.fault_sites.proofs.SitesFit.{each_fits}
use Rattle.fault_sites.proofs.laws.each_site_fits.Goals as goal

pub returns : goal.returns
returns c = each_fits
