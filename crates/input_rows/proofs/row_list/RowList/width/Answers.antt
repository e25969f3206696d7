use Rattle.std.proofs.Common.{◌≡◌, All, List, ℤ, length, subst}
use Rattle.input_rows.proofs.Flat.{rows_width}
use Rattle.input_rows.proofs.row_list.RowList.width.Goals as goal

pub returns : goal.returns
returns c =
    let s = c.self.inside in
    subst (λ (rows : List (List ℤ)). All (λ row. length row ≡ s.width) rows) c.self.view_is (rows_width s.count s.width s.values.items c.self.invariant)
