use Rattle.std.proofs.Common.{ap, Ok, Err, Some, sym, ◌∙◌}
use Rattle.csv.specs.Records.{fields_of}
use Rattle.range_walk.specs.RangeTable.{RangeCells, RangesSoFar, place_of, with_cells, with_range}
use Rattle.range_walk.proofs.Records.{not_named, not_three, ranged_by, three, told_by}
use Rattle.range_walk.proofs.assumed.so_far.SoFar.take_record.Goals as goal

pub returns-then-len-ne3 : goal.returns-then-len-ne3
returns-then-len-ne3 c =
    sym (ap (with_cells c.args.columns.now c.args.self.now c.args.number)
    (not_three (fields_of c.args.cells.now) (λ e. c.if-len-ne3.true (c.len.ensures ∙ e))))

pub returns-in_default : goal.returns-in_default
returns-in_default c =
    let free = c.deref.ensures.value ∙ ap (λ (s : RangesSoFar). s.free) c.self.view_is in
    not_named c.args.columns.now c.args.self.now c.args.number (fields_of c.args.cells.now) c.field.result.now (sym c.len.ensures ∙ c.if-len-ne3.false)
    c.field.ensures (sym c.in_default.is ∙ c.place_of.ensures.place ∙ ap (λ f. place_of c.args.columns.now f c.field.result.now) free)

pub returns-in-Ok : goal.returns-in-Ok
returns-in-Ok c =
    let columns = c.args.columns.now in
    let now : RangesSoFar = c.args.self.now in
    let i = c.in-Some.i in
    let cells : RangeCells = record { name = c.field.result.now; least = c.field-2.result.now; greatest = c.field-3.result.now } in
    let free = c.deref.ensures.value ∙ ap (λ (s : RangesSoFar). s.free) c.self.view_is in
    let are = three (fields_of c.args.cells.now) _ _ _ (sym c.len.ensures ∙ c.if-len-ne3.false) c.field.ensures c.field-2.ensures c.field-3.ensures in
    let place = sym c.in-Some.is ∙ c.place_of.ensures.place ∙ ap (λ f. place_of columns f cells.name) free in
    ap (λ (s : RangesSoFar). with_range s i (Ok c.in-Ok.range)) c.self.view_is
    ∙ (ranged_by columns now c.args.number cells i c.at.result.now (Ok c.in-Ok.range) c.at.ensures c.in-Ok.ensures
    ∙ told_by columns now c.args.number (fields_of c.args.cells.now) cells (Some i) are place)

pub returns-in-Err : goal.returns-in-Err
returns-in-Err c =
    let columns = c.args.columns.now in
    let now : RangesSoFar = c.args.self.now in
    let i = c.in-Some.i in
    let cells : RangeCells = record { name = c.field.result.now; least = c.field-2.result.now; greatest = c.field-3.result.now } in
    let free = c.deref.ensures.value ∙ ap (λ (s : RangesSoFar). s.free) c.self.view_is in
    let are = three (fields_of c.args.cells.now) _ _ _ (sym c.len.ensures ∙ c.if-len-ne3.false) c.field.ensures c.field-2.ensures c.field-3.ensures in
    let place = sym c.in-Some.is ∙ c.place_of.ensures.place ∙ ap (λ f. place_of columns f cells.name) free in
    ranged_by columns now c.args.number cells i c.at.result.now (Err c.in-Err.why) c.at.ensures c.in-Err.ensures
    ∙ told_by columns now c.args.number (fields_of c.args.cells.now) cells (Some i) are place
