use Rattle.pair_channel.proofs.Runs.{by_hand}
use Rattle.pair_channel.proofs.laws.pairs_by_hand_are_whole.Goals as goal

pub returns : goal.returns
returns c = by_hand c.cycles_by_hand_are_whole.ensures
