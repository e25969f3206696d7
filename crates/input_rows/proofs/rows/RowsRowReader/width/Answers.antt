use Rattle.std.proofs.Common.{◌∙◌, sym, ap, length}
use Rattle.input_rows.specs.RowsOf.{RowsLeft}
use Rattle.input_rows.specs.Sources.{rows_left}
use Rattle.input_rows.proofs.Nexts.{wanted_types}
use Rattle.input_rows.proofs.rows.RowsRowReader.width.Goals as goal

pub returns : goal.returns
returns c =
    let s = c.self.inside in
    c.width.ensures ∙ ap length (sym (wanted_types s.wanted (rows_left s.source)) ∙ ap (λ (left : RowsLeft). left.types) c.self.view_is)
