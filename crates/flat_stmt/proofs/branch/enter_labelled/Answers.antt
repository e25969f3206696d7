use Rattle.std.proofs.Common.{◌+◌}
use Rattle.std.specs.Prelude.{sum_by}
use Rattle.vcp_typed.specs.Size.{label_size}
use Rattle.flat_expr.specs.State.{reserved}
use Rattle.flat_stmt.proofs.Rooms.{handed_on, last_added, none_more, one_less, one_last}
use Rattle.flat_stmt.proofs.branch.enter_labelled.Goals as goal

pub labels-requires : goal.labels-requires
labels-requires c = record { some = c.requires.some; number = c.requires.number; code = c.requires.code; k = c.requires.k; labels = c.requires.labels }

pub enter-requires : goal.enter-requires
enter-requires c = c.in_ok-condition.ensures.place

pub returns-in_err-condition : goal.returns-in_err-condition
returns-in_err-condition c =
    let n = sum_by label_size c.args.of.now in
    handed_on _ _ c.args.flat.now c.args.flat.now 0 n (1 + n) c.labels.result c.from_residual.result _ c.in_err-condition.was c.from_residual.ensures.1
    (none_more (reserved c.args.flat.now)) (one_less n) c.labels.ensures

pub returns : goal.returns
returns c =
    let n = sum_by label_size c.args.of.now in
    last_added _ _ c.args.flat.now c.labels.new.flat n 1 (1 + n) c.enter.result c.in_ok-condition.ensures.count (one_last n) c.enter.ensures
    (λ branch f. (c.labels.new.flat, c.in_ok-condition.condition, c.in_ok-condition.ensures, f))
