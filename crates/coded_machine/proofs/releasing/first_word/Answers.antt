use Rattle.std.proofs.Common.{rules}
use Rattle.coded_machine.proofs.releasing.first_word.Goals as goal

pub packed-requires : goal.packed-requires
packed-requires c = search rules
