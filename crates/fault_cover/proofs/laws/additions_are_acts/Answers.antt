use Rattle.fault_cover.proofs.AddedRuns.{run_one, verdict_one}
use Rattle.fault_cover.proofs.laws.additions_are_acts.Goals as goal

pub returns : goal.returns
returns c = λ t g acts adds rows graph of are.
    let words = c.words_split_in_one_way.ensures t.profile in
    (run_one t g words acts adds are rows, verdict_one t g words acts adds are rows)
