use Rattle.pair_channel.proofs.Counting.{front, rose}
use Rattle.pair_channel.proofs.laws.counts_bound_a_pair.Goals as goal

pub returns : goal.returns
returns c =
    let honest = c.one_honest_channel_holds_the_pair.ensures in
    record { front = front honest; rose = rose honest }
