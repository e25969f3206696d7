use Rattle.std.proofs.Common.{arith}
use Rattle.telegram.proofs.RunLookups.{small_product}
use Rattle.telegram.proofs.runs.run.room.Goals as goal

pub overflow_mul-cycles : goal.overflow_mul-cycles
overflow_mul-cycles c = let most = small_product c.args.cycles c.args.senders c.requires.senders c.requires.cycles in omega (arith, most)
