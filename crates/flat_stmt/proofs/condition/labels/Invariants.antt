use Rattle.std.proofs.Common.{◌≤◌, take, length}
use Rattle.std.specs.Prelude.{sum_by}
use Rattle.vcp_base.specs.declared.ty.Ty.TheVariants as type_of
use Rattle.vcp_typed.specs.Size.{label_size}
use Rattle.flat_expr.specs.State.{Makes}
use Rattle.flat_stmt.specs.Conditions.{any_labelled}
use Rattle.flat_stmt.proofs.condition.labels.Given as goal

abbrev pub invariant-rest : goal.invariant-rest
invariant-rest l = record {
  made : Makes l.fn.flat l.flat type_of.Bool (sum_by label_size (take l.i l.labels)) (any_labelled l.k (take l.i l.labels)) l.so_far;
  inside : l.i ≤ length l.labels;
}
