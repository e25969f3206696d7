use Rattle.verdict_tables.proofs.counts.totals_of_all.Goals as goal

pub returns : goal.returns
returns c = rw c.new.ensures at c.and_all.ensures.totals
