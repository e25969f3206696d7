use Rattle.std.proofs.Common.{refl, ap}
use Rattle.input_rows.specs.RecordsLeft.{RecordsLeft}
use Rattle.input_rows.proofs.Openings.{rows_under, no_header, no_order, as_wide}
use Rattle.input_rows.proofs.table.Table.new.Goals as goal

pub returns-in-Ok-false-clause-rows : goal.returns-in-Ok-false-clause-rows
returns-in-Ok-false-clause-rows c = tt

pub returns-in-Err-clause-rows : goal.returns-in-Err-clause-rows
returns-in-Err-clause-rows c = tt

pub returns-in-Err-new-clause-rows : goal.returns-in-Err-new-clause-rows
returns-in-Err-new-clause-rows c = tt

pub returns-clause-rows : goal.returns-clause-rows
returns-clause-rows c = tt

pub returns-in-Ok-zeros-clause-refusal : goal.returns-in-Ok-zeros-clause-refusal
returns-in-Ok-zeros-clause-refusal c = tt

pub returns-in-Err-clause-refusal : goal.returns-in-Err-clause-refusal
returns-in-Err-clause-refusal c = λ other. absurd (other refl)

pub returns-clause-refusal : goal.returns-clause-refusal
returns-clause-refusal c = λ other. absurd (other refl)

pub invariant_of-result : goal.invariant_of-result
invariant_of-result c = as_wide c.args.columns.now c.in-Ok-zeros.ensures c.len.ensures c.in-Ok.ensures.types

pub returns-in-Ok-zeros-clause-rows : goal.returns-in-Ok-zeros-clause-rows
returns-in-Ok-zeros-clause-rows c =
    rows_under c.args.columns.now _ _ _ _ c.in-Ok.layout (ap (λ (r : RecordsLeft). r.left) c.new-records.ensures) c.in-Ok-true.field-0-test c.in-Ok-true.ensures.reads
    c.in-Ok.ensures.order c.in-Ok.ensures.types

pub returns-in-Ok-false-clause-refusal : goal.returns-in-Ok-false-clause-refusal
returns-in-Ok-false-clause-refusal c = λ other.
    no_header c.args.columns.now _ _ _ _ (ap (λ (r : RecordsLeft). r.left) c.new-records.ensures) c.in-Ok-false.field-0-test c.in-Ok-false.ensures.reads

pub returns-in-Err-new-clause-refusal : goal.returns-in-Err-new-clause-refusal
returns-in-Err-new-clause-refusal c = λ other.
    no_order c.args.columns.now _ _ _ _ (ap (λ (r : RecordsLeft). r.left) c.new-records.ensures) c.in-Ok-true.field-0-test c.in-Ok-true.ensures.reads
    (c.in-Err-new.ensures.header other)
