use Rattle.std.proofs.Common.{◌≡◌, refl, ap, length, arith}
use Rattle.csv.specs.Records.{fields_of}
use Rattle.input_rows.specs.Header.{IsOrder}
use Rattle.input_rows.proofs.Placing.{order-seen, row-over}
use Rattle.input_rows.proofs.layout.Layout.read.Goals as goal

pub returns-clause-row : goal.returns-clause-row
returns-clause-row c =
    let o = c.args.self.now in
    let own = c.self.inside in
    let order : IsOrder (length o.types) o.places = order-seen own.columns.now own.places.items o c.self.view_is c.self.invariant.0 in
    let seen : length own.places.items ≡ length o.places = ap (λ v. length v.places) c.self.view_is in
    let width : length (fields_of c.args.cells.now) ≡ length o.places = omega (arith, own.places.ok.0) in
    rw (row-over (length o.types) o.types o.places c.args.number
    (fields_of c.args.cells.now) c.args.row.now order refl width c.requires) c.set_values.ensures.row
