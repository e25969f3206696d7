use Rattle.std.proofs.Common.{◌∙◌, sym, ap, length}
use Rattle.input_rows.proofs.Flat.{rows_count}
use Rattle.input_rows.proofs.row_list.RowList.len.Goals as goal

pub returns-clause-length : goal.returns-clause-length
returns-clause-length c = sym (rows_count c.self.inside.count c.self.inside.width c.self.inside.values.items) ∙ ap length c.self.view_is
