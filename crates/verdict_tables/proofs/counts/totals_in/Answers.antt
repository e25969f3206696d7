use Rattle.verdict_tables.proofs.counts.totals_in.Goals as goal

pub returns : goal.returns
returns c = rw c.new.ensures at c.and_row.ensures.totals
