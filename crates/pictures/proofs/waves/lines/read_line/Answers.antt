use Rattle.std.proofs.Common.{Ok, Err, sym, subst, ◌∙◌}
use Rattle.csv.specs.Records.{fields_of}
use Rattle.pictures.specs.WavesAnswers.{Answers}
use Rattle.pictures.proofs.Reading.{some_cells, no_cells, begins_with, is_row, is_last, row_fits}
use Rattle.pictures.proofs.waves.lines.read_line.Goals as goal

pub field-first-requires : goal.field-first-requires
field-first-requires c = some_cells _ _ c.if-len-eq0.false c.len.ensures

pub row_line_of-requires : goal.row_line_of-requires
row_line_of-requires c = record {
  cells = some_cells _ _ c.if-len-eq0.false c.len.ensures;
  names = c.requires.names;
  cycle = c.requires.cycle;
}

pub returns-then-len-eq0-clause-line : goal.returns-then-len-eq0-clause-line
returns-then-len-eq0-clause-line c = λ other. no_cells c.args.width c.args.cycle (fields_of c.args.cells.now) (sym c.len.ensures ∙ c.if-len-eq0.true)

pub returns-then-eq : goal.returns-then-eq
returns-then-eq c =
    let first = c.field-first.result.now in
    let same = begins_with first c.as_bytes.result.now c.format.result.now c.args.cycle c.eq.result c.eq.ensures c.as_bytes.ensures.value c.format.ensures.text in
    record {
      line =
          subst (λ r. Answers r c.row_line_of.result)
          (sym (is_row c.args.width c.args.cycle (fields_of c.args.cells.now) first c.field-first.ensures (same ∙ c.if-eq.true))) c.row_line_of.ensures.line;
      width = row_fits c.args.width c.args.cycle c.row_line_of.result c.row_line_of.ensures.width c.row_line_of.ensures.cycle;
    }

pub returns-in-Err : goal.returns-in-Err
returns-in-Err c =
    let first = c.field-first.result.now in
    let fields = fields_of c.args.cells.now in
    let same = begins_with first c.as_bytes.result.now c.format.result.now c.args.cycle c.eq.result c.eq.ensures c.as_bytes.ensures.value c.format.ensures.text in
    record {
      line = λ other. is_last c.args.width c.args.cycle fields first c.len-else-eq.result (Err c.in-Err.fault) c.field-first.ensures
          (same ∙ c.if-eq.false) c.len-else-eq.ensures (λ more many. c.in-Err.ensures more many other);
      width = tt;
    }

pub returns-in-Ok-clause-line : goal.returns-in-Ok-clause-line
returns-in-Ok-clause-line c =
    let first = c.field-first.result.now in
    let same = begins_with first c.as_bytes.result.now c.format.result.now c.args.cycle c.eq.result c.eq.ensures c.as_bytes.ensures.value c.format.ensures.text in
    is_last c.args.width c.args.cycle (fields_of c.args.cells.now) first c.len-else-eq.result (Ok c.in-Ok.ending) c.field-first.ensures
    (same ∙ c.if-eq.false) c.len-else-eq.ensures c.in-Ok.ensures
