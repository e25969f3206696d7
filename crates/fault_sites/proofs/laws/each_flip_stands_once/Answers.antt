use Rattle.fault_sites.proofs.RunOnce.{each_flip_once}
use Rattle.fault_sites.proofs.laws.each_flip_stands_once.Goals as goal

pub returns : goal.returns
returns c = each_flip_once
