use Rattle.pair_channel.proofs.Runs.{starts, goes_on, stands, ends}
use Rattle.pair_channel.proofs.laws.pairs_follow_their_answers.Goals as goal

pub returns : goal.returns
returns c =
    let runs = c.runs_follow_their_answers.ensures in
    record { starts = starts runs; goes_on = goes_on runs; stands = stands runs; ends = ends runs }
