use Rattle.std.proofs.Common.{arith}
use Rattle.telegram.proofs.RunLookups.{small_product}
use Rattle.telegram.proofs.runs.run.word_at.Goals as goal

pub overflow_mul-result : goal.overflow_mul-result
overflow_mul-result c =
    let most = small_product c.args.number c.args.senders c.requires.senders (omega (arith, c.requires.number)) in omega (arith, most)

pub overflow_add-result : goal.overflow_add-result
overflow_add-result c =
    let most = small_product c.args.number c.args.senders c.requires.senders (omega (arith, c.requires.number)) in
    omega (arith, most, c.requires.id, c.requires.senders)
