use Rattle.coded_unit.proofs.Shifts.{shifted}
use Rattle.coded_unit.proofs.laws.shifted_words_keep_their_parts.Goals as goal

pub returns : goal.returns
returns c = shifted
