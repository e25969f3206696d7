use Rattle.std.proofs.Common.{◌≡◌, ◌≤◌, length, List, arith, Result, Ok, Err}
use Rattle.std.specs.Prelude.{IfOk}
use Rattle.vcp_base.specs.declared.columns.Column.{Column}
use Rattle.vcp_base.specs.Limits.{most_names}
use Rattle.vcp_typed.specs.declared.slot.Slot.{Slot}
use Rattle.vcp_typed.specs.Fitting.{input_columns}
use Rattle.vcp_core.proofs.PlainNames.{inputs-few}
use Rattle.vcp_core.proofs.loading.input_columns.Goals as goal

-- the columns of few slots are few
few : {E : Type 0} (slots : List Slot) (r : Result (List Column) E) → length slots ≤ most_names → IfOk r (λ columns. columns ≡ input_columns slots)
    → IfOk r (λ columns. length columns ≤ most_names)
few slots (Ok columns) h is = rw is (omega (arith, h, inputs-few slots))
few slots (Err e) h is = tt

pub returns-clause-few : goal.returns-clause-few
returns-clause-few c = few c.args.program.now.slots c.columns.result c.slots.ensures.checked.few c.columns.ensures
