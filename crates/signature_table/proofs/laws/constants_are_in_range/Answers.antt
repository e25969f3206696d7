use Rattle.signature_table.proofs.Distinct.{modulus_positive, modulus_below}
use Rattle.signature_table.proofs.laws.constants_are_in_range.Goals as goal

pub returns : goal.returns
returns c = record { positive = modulus_positive; small = modulus_below }
