use Rattle.std.proofs.lemmas.Result.{IfOk-from_err}
use Rattle.std.proofs.Common.{rules, ◌≡◌, ℕ, ◌+◌, ◌++◌, All, List, ℤ, length, refl, sym, ap, subst, ◌∙◌}
use Rattle.input_rows.specs.RowLists.{rows_in}
use Rattle.input_rows.proofs.Flat.{Gathered, gathered_more, rows_width}
use Rattle.input_rows.proofs.row_list.gather.Goals as goal

pub rows-preserved : goal.rows-preserved
rows-preserved c =
    let width = c.width-width.result in
    let row = c.next.new.out in
    let same : length row ≡ width = c.next.ensures.width ∙ c.rows.invariant.row in
    let one = c.in_ok-next.ensures.row c.if-branch.true in
    record {
      gathered =
          subst (λ (vs : List ℤ). Gathered c.args.rows.now c.next.new.self (c.rows.count + 1) width vs) (sym (c.in-Ok.ensures.items ∙ ap (λ (vs : List ℤ). c.rows.values.items ++ vs) c.all.ensures))
          (gathered_more c.args.rows.now c.rows.rows c.next.new.self c.rows.count width c.rows.values.items row c.rows.invariant.gathered one same);
      row = same;
      width = c.rows.invariant.width;
    }

pub returns-clause-width : goal.returns-clause-width
returns-clause-width c =
    let width = c.width-width.result in
    subst (λ (n : ℕ). All (λ row. length row ≡ n) (rows_in c.rows.count width c.rows.values.items)) c.rows.invariant.width
    (rows_width c.rows.count width c.rows.values.items c.rows.invariant.gathered.many)

pub returns-in_err-row : goal.returns-in_err-row
returns-in_err-row c = record {
  rows = IfOk-from_err c.from_residual.result _ c.from_residual.ensures.0;
  whole = IfOk-from_err c.from_residual.result _ c.from_residual.ensures.0;
  width = IfOk-from_err c.from_residual.result _ c.from_residual.ensures.0;
  refusal = search rules;
}

pub returns-in_err-next : goal.returns-in_err-next
returns-in_err-next c = record {
  rows = IfOk-from_err c.from_residual-in_err-next.result _ c.from_residual-in_err-next.ensures.0;
  whole = IfOk-from_err c.from_residual-in_err-next.result _ c.from_residual-in_err-next.ensures.0;
  width = IfOk-from_err c.from_residual-in_err-next.result _ c.from_residual-in_err-next.ensures.0;
  refusal = search rules;
}

pub returns-in-Err : goal.returns-in-Err
returns-in-Err c = record { rows = tt; whole = tt; width = tt; refusal = λ other. absurd (other refl) }
