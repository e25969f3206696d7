use Rattle.std.proofs.Common.{◌≡◌, ◌+◌, length, refl, sym, subst, ◌∙◌, arith}
use Rattle.std.proofs.lemmas.Result.{IfOk-from_err}
use Rattle.csv.specs.Records.{fields_of}
use Rattle.input_rows.specs.RecordsLeft.{Takes}
use Rattle.range_walk.specs.RangeTable.{at_first, cells_of}
use Rattle.range_walk.proofs.Records.{left_next, ends, refused, too_many, with_cells_as_long}
use Rattle.range_walk.proofs.assumed.table.take_ranges.Goals as goal

pub returns-in_err-next-clause-ranges : goal.returns-in_err-next-clause-ranges
returns-in_err-next-clause-ranges c = IfOk-from_err c.from_residual.result _ c.from_residual.ensures.0

pub returns-then-k-count-clause-refusal : goal.returns-then-k-count-clause-refusal
returns-then-k-count-clause-refusal c = λ other.
    let columns = c.args.columns.now in
    let all : c.records.k ≡ length columns = omega (arith, c.if-k-count.true, c.len-count.ensures) in
    too_many columns (at_first columns) c.records.told c.records.k _ c.args.records.now.left c.records.records.left c.next.new.self.left
    (fields_of c.next.new.cells) all refl c.records.invariant.left
    (subst (λ f. Takes c.records.records.left c.next.new.self.left (fields_of c.next.new.cells) f) c.if-branch.true c.in_ok-next.ensures.reads)

pub returns-in-Err-clause-refusal : goal.returns-in-Err-clause-refusal
returns-in-Err-clause-refusal c = λ other.
    let columns = c.args.columns.now in
    refused columns (at_first columns) c.records.told c.records.k c.args.records.now.left c.records.records.left c.next.new.self.left
    (fields_of c.next.new.cells)
    c.in-Err.why (omega (arith, c.if-k-count.false, c.records.invariant.few, c.len-count.ensures)) c.records.invariant.left
    (subst (λ f. Takes c.records.records.left c.next.new.self.left (fields_of c.next.new.cells) f) c.if-branch.true c.in_ok-next.ensures.reads)
    (sym c.in-Err.ensures)

pub records-preserved : goal.records-preserved
records-preserved c =
    let columns = c.args.columns.now in
    let long = with_cells_as_long columns c.records.told c.take_record.new.self (c.records.k + 2) (cells_of (fields_of c.next.new.cells)) (sym c.in-Ok.ensures) in
    record {
      ranges = long.0 ∙ c.records.invariant.ranges;
      free = long.1 ∙ c.records.invariant.free;
      few = omega (arith, c.if-k-count.false, c.records.invariant.few, c.len-count.ensures);
      left = left_next columns (at_first columns) c.records.told c.take_record.new.self c.records.k c.args.records.now.left c.records.records.left c.next.new.self.left
          (fields_of c.next.new.cells) c.records.invariant.left
          (subst (λ f. Takes c.records.records.left c.next.new.self.left (fields_of c.next.new.cells) f) c.if-branch.true c.in_ok-next.ensures.reads)
          (sym c.in-Ok.ensures);
    }

pub returns-clause-ranges : goal.returns-clause-ranges
returns-clause-ranges c =
    let columns = c.args.columns.now in
    ends columns (at_first columns) c.records.told c.records.k c.args.records.now.left c.records.records.left c.next.new.self.left
    (fields_of c.next.new.cells)
    c.records.told.ranges refl c.records.invariant.few c.records.invariant.left
    (subst (λ f. Takes c.records.records.left c.next.new.self.left (fields_of c.next.new.cells) f) c.if-branch.false c.in_ok-next.ensures.reads)
