use Rattle.std.proofs.Common.{◌<◌, ◌≤◌, drop, sym, subst, ◌∙◌, arith}
use Rattle.csv.specs.Records.{fields_of}
use Rattle.pictures.proofs.Reading.{one_name, all_names, header_names, header_of_many, no_header, empty_header, is_cycle, no_cycle, few_named}
use Rattle.pictures.proofs.waves.header.names.Goals as goal
use Rattle.pictures.proofs.waves.header.names.Goals.{then-len-eq0-via-then-len-eq0, then-len-eq0-via-else-len-eq0+then-ne}

pub cells-preserved : goal.cells-preserved
cells-preserved c =
    let fields = fields_of c.args.cells.now in
    rw c.in_ok-push.ensures.ok
    (one_name fields c.cells.names (drop 1 fields) c.cells.j c.field-in-cells.result.now c.field-in-cells.ensures c.cells.invariant)

pub returns-then-len-eq0-clause-names : goal.returns-then-len-eq0-clause-names
returns-then-len-eq0-clause-names c = λ other.
    let fields = fields_of c.args.cells.now in
    elim c.then-len-eq0.branch [
      | then-len-eq0-via-then-len-eq0 w ↦ empty_header fields (sym c.len.ensures ∙ w.if-len-eq0.true)
      | then-len-eq0-via-else-len-eq0+then-ne w ↦
          no_header fields w.field.result.now w.field.ensures
          (no_cycle w.field.result.now w.as_slice.result.now w.ne.result w.ne.ensures w.if-ne.true w.as_slice.ensures)
    ]

pub returns-then-len-clause-names : goal.returns-then-len-clause-names
returns-then-len-clause-names c = λ other.
    header_of_many (fields_of c.args.cells.now) c.field.result.now c.field.ensures
    (is_cycle c.field.result.now c.as_slice.result.now c.ne.result c.ne.ensures c.if-ne.false c.as_slice.ensures)
    (subst (λ n. 1025 < n) c.len-2.ensures c.if-len.true)

pub returns : goal.returns
returns c =
    let fields = fields_of c.args.cells.now in
    let few = subst (λ n. n ≤ 1025) c.len-2.ensures c.if-len.false in
    let all =
    all_names fields c.cells.names (drop 1 fields) c.cells.j (omega (arith, c.cells-test.false, c.cells.auto.j-end, c.len-j-end.ensures)) c.cells.invariant in
    record {
      names =
          header_names fields c.field.result.now c.cells.names c.field.ensures
          (is_cycle c.field.result.now c.as_slice.result.now c.ne.result c.ne.ensures c.if-ne.false c.as_slice.ensures) few all;
      few = few_named fields c.cells.names few all;
    }
