use Rattle.std.proofs.Common.{subst}
use Rattle.std.proofs.lemmas.Bool.{not-false}
use Rattle.range_walk.specs.Intervals.{IsIn}
use Rattle.range_walk.proofs.ValueBounds.{not_by_zero}
use Rattle.range_walk.proofs.told.may_divide_by_zero.Goals as goal

pub returns-in-Div : goal.returns-in-Div
returns-in-Div c = λ e y i.
    not_by_zero c.args.kind y c.in-Div.is (λ zero. c.excludes.ensures.out (not-false c.excludes.result e) (subst (λ v. IsIn c.args.b v) zero i))
