use Rattle.verdict_tables.proofs.rows.then_column.Goals as goal

pub returns : goal.returns
returns g c = rw c.blanks_before.ensures at c.numbered.ensures
