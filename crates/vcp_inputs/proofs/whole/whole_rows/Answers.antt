use Rattle.std.proofs.Common.{◌≡◌, ◌≤◌, ◌∙◌, All, ap, length, subst, sym}
use Rattle.std.proofs.lemmas.List.{length-map}
use Rattle.vcp_base.specs.Limits.{most_cycles}
use Rattle.input_rows.specs.Opening.{source_rows}
use Rattle.vcp_inputs.specs.RowsOutcome.{rows_or_refusal, source_outcome}
use Rattle.vcp_inputs.proofs.Causes.{row_caused}
use Rattle.vcp_inputs.proofs.RowsRead.{row_refused, header_refused}
use Rattle.vcp_inputs.proofs.whole.whole_rows.Goals as goal

pub returns-in-Err : goal.returns-in-Err
returns-in-Err c = record {
  rows = tt;
  fault = rw c.from.ensures (header_refused (source_rows c.args.inputs.now c.args.columns.now) c.in-Err.fault c.in-Err.ensures.refusal);
  caused = rw c.from.ensures (row_caused _);
  width = tt;
  few = tt;
}

pub returns-in-Err-collect_rows : goal.returns-in-Err-collect_rows
returns-in-Err-collect_rows c = record {
  rows = tt;
  fault = rw c.from-in-Err-collect_rows.ensures
      (row_refused (source_outcome c.args.inputs.now c.args.columns.now) c.in-Ok.rows _ (ap rows_or_refusal c.in-Ok.ensures.rows)
      c.in-Err-collect_rows.ensures.refusal);
  caused = rw c.from-in-Err-collect_rows.ensures (row_caused _);
  width = tt;
  few = tt;
}

pub returns-in-Ok-collect_rows-clause-rows : goal.returns-in-Ok-collect_rows-clause-rows
returns-in-Ok-collect_rows-clause-rows c = record {
  left = c.in-Ok.rows;
  comes = ap rows_or_refusal c.in-Ok.ensures.rows;
  rows_are = sym c.in-Ok-collect_rows.ensures.rows;
  whole = c.in-Ok-collect_rows.ensures.whole;
}

pub returns-in-Ok-collect_rows-clause-width : goal.returns-in-Ok-collect_rows-clause-width
returns-in-Ok-collect_rows-clause-width c =
    let wide : length c.in-Ok.rows.types ≡ length c.args.columns.now = ap length c.in-Ok.ensures.types ∙ length-map c.args.columns.now _ in
    subst (λ n. All (λ row. length row ≡ n) c.in-Ok-collect_rows.list) wide c.in-Ok-collect_rows.ensures.width

pub returns-in-Ok-collect_rows-clause-few : goal.returns-in-Ok-collect_rows-clause-few
returns-in-Ok-collect_rows-clause-few c = subst (λ list. length list ≤ most_cycles) (sym c.in-Ok-collect_rows.ensures.rows) c.in-Ok.ensures.few
