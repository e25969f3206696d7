use Rattle.signature_table.proofs.Distinct.{signature_distinct}
use Rattle.signature_table.proofs.laws.signatures_are_distinct.Goals as goal

pub returns : goal.returns
returns c = signature_distinct
