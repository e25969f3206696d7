use Rattle.std.proofs.Common.{◌≡◌, ◌∙◌, sym, ap, Some, None, slice_get, slice_set, length, length-set, refl, arith, rules, SFits, w64}
use Rattle.csv.specs.Records.{fields_of}
use Rattle.std.proofs.lemmas.Option.{slice_get_read}
use Rattle.std.proofs.lemmas.Int.{to_z-of_z}
use Rattle.input_rows.specs.Cells.{value_of}
use Rattle.input_rows.specs.RowsOf.{type_at}
use Rattle.input_rows.proofs.Placing.{cell_set, cell_refused, type-there}
use Rattle.input_rows.proofs.layout.Layout.set_values.Goals as goal

pub returns-in-None-clause-row : goal.returns-in-None-clause-row
returns-in-None-clause-row c =
    let fields = fields_of c.args.cells.now in
    let p = c.index-place.result.now in
    let own = c.self.inside.places.items in
    let width : length own ≡ length c.args.self.now.places = ap (λ o. length o.places) c.self.view_is in
    let there : slice_get c.args.self.now.places c.cells.j ≡ Some p =
    ap (λ o. slice_get o.places c.cells.j) (sym c.self.view_is) ∙ slice_get_read own (length own) c.cells.j p refl (omega arith) c.index-place.ensures in
    let types : type_at c.args.self.now.types p ≡ c.at-column.result.now.ty =
    ap (λ o. type_at o.types p) (sym c.self.view_is) ∙ type-there c.self.inside.columns.now p c.at-column.result.now c.at-column.ensures in
    let is : value_of (type_at c.args.self.now.types p) c.field.result.now ≡ None = ap (λ t. value_of t c.field.result.now) types ∙ sym c.in-None.ensures in
    c.cells.invariant.1
    ∙ cell_refused c.args.self.now.types c.args.self.now.places fields c.args.number c.cells.j c.cells.row p c.field.result.now there c.field.ensures is

pub cells-preserved : goal.cells-preserved
cells-preserved c =
    let fields = fields_of c.args.cells.now in
    let p = c.index-place.result.now in
    let own = c.self.inside.places.items in
    let width : length own ≡ length c.args.self.now.places = ap (λ o. length o.places) c.self.view_is in
    let there : slice_get c.args.self.now.places c.cells.j ≡ Some p =
    ap (λ o. slice_get o.places c.cells.j) (sym c.self.view_is) ∙ slice_get_read own (length own) c.cells.j p refl (omega arith) c.index-place.ensures in
    let types : type_at c.args.self.now.types p ≡ c.at-column.result.now.ty =
    ap (λ o. type_at o.types p) (sym c.self.view_is) ∙ type-there c.self.inside.columns.now p c.at-column.result.now c.at-column.ensures in
    let is : value_of (type_at c.args.self.now.types p) c.field.result.now ≡ Some c.in-Some.v = ap (λ t. value_of t c.field.result.now) types
    ∙ sym c.in-Some.ensures in
    let fits : SFits w64 c.in-Some.v = search rules in
    let set : c.set.new.self ≡ slice_set c.cells.row p c.in-Some.v = c.set.ensures ∙ ap (slice_set c.cells.row p) (to_z-of_z w64 c.in-Some.v fits) in (
      rw set (length-set c.cells.row p c.in-Some.v ∙ c.cells.invariant.0),
      rw set (c.cells.invariant.1 ∙ cell_set c.args.self.now.types c.args.self.now.places fields c.args.number c.cells.j c.cells.row p c.field.result.now c.in-Some.v there c.field.ensures is),
    )
