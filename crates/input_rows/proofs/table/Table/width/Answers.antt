use Rattle.std.proofs.Common.{◌∙◌, sym, ap, length}
use Rattle.input_rows.specs.RowsOf.{RowsLeft}
use Rattle.input_rows.proofs.Lefts.{left-types}
use Rattle.input_rows.proofs.table.Table.width.Goals as goal

pub returns : goal.returns
returns c =
    let s = c.self.inside in
    c.width.ensures ∙ ap length (sym (left-types s.layout s.cycle s.records.left) ∙ ap (λ (left : RowsLeft). left.types) c.self.view_is)
