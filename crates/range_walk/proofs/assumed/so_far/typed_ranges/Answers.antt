use Rattle.std.proofs.Common.{length, arith, ◌≡◌, ◌+◌, ◌∷◌, [], ◌++◌, map, drop, ap, sym, subst, ◌∙◌}
use Rattle.std.proofs.lemmas.List.{append-nil}
use Rattle.std.proofs.Math.Seq.{drop-length}
use Rattle.vcp_base.specs.declared.columns.Column.{Column}
use Rattle.range_walk.specs.declared.range.Range.{Range}
use Rattle.range_walk.specs.RangeTable.{range_of_type}
use Rattle.range_walk.proofs.Records.{one_more}
use Rattle.range_walk.proofs.assumed.so_far.typed_ranges.Goals as goal

pub columns-preserved : goal.columns-preserved
columns-preserved c =
    let columns = c.args.columns.now in
    let made = c.columns.ranges.items in
    let i = c.columns.i in
    let f : Column → Range = λ column. range_of_type column.ty in
    let pushed = c.in_ok-push.ensures.items ∙ ap (λ r. made ++ r ∷ []) c.range_of_type.ensures in
    subst (λ rs. map f columns ≡ rs ++ map f (drop (i + 1) columns)) (sym pushed)
    (one_more f columns made i c.at-column.result.now c.at-column.ensures c.columns.invariant)

pub returns : goal.returns
returns c =
    let columns = c.args.columns.now in
    let f : Column → Range = λ column. range_of_type column.ty in
    let all : c.columns.i ≡ length columns = omega (arith, c.columns-test.false, c.columns.auto.i-end, c.len-i-end.ensures) in
    sym (c.columns.invariant ∙ ap (λ rest. c.columns.ranges.items ++ map f rest) (ap (λ n. drop n columns) all ∙ drop-length columns)
    ∙ append-nil c.columns.ranges.items)
