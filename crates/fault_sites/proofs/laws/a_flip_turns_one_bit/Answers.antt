use Rattle.fault_sites.proofs.OneBit.{flips_one_bit}
use Rattle.fault_sites.proofs.laws.a_flip_turns_one_bit.Goals as goal

pub returns : goal.returns
returns c = flips_one_bit
