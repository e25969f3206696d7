use Rattle.signature_table.proofs.Distinct.{residues_repeat}
use Rattle.signature_table.proofs.laws.a_cycle_later_residues_are_five_steps_apart.Goals as goal

pub returns : goal.returns
returns c = residues_repeat
