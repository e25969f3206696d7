use Rattle.signature_table.proofs.Distinct.{expected_below}
use Rattle.signature_table.proofs.laws.expected_residues_are_residues.Goals as goal

pub returns : goal.returns
returns c = expected_below
