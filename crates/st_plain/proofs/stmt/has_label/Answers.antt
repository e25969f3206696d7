use Rattle.std.proofs.Common.{ap, sym, ◌∙◌, w64}
use Rattle.std.specs.List.{list_any}
use Rattle.std.proofs.lemmas.Int.{to_z-of_z}
use Rattle.std.proofs.lemmas.List.{drop_all, drop_more}
use Rattle.vcp_typed.specs.Meaning.{is_labelled}
use Rattle.st_plain.proofs.Stmts.{label-found, label-passed}
use Rattle.st_plain.proofs.stmt.has_label.Goals as goal

pub returns-then-is_labelled : goal.returns-then-is_labelled
returns-then-is_labelled c =
    label-found _ _ _ _ _ (drop_more c.args.labels.now c.each.label-index _ c.each-test.true) c.if-is_labelled.ensures c.each.invariant
    ∙ ap (λ v. list_any (is_labelled v) c.args.labels.now) (to_z-of_z w64 c.args.v c.ranges.v)

pub each-preserved : goal.each-preserved
each-preserved c =
    label-passed _ _ _ _ _ (drop_more c.args.labels.now c.each.label-index _ c.each-test.true) c.if-is_labelled.ensures c.each.invariant

pub returns : goal.returns
returns c =
    sym (ap (list_any (is_labelled _)) (drop_all c.each.label-index c.args.labels.now c.each-test.false)) ∙ c.each.invariant
    ∙ ap (λ v. list_any (is_labelled v) c.args.labels.now) (to_z-of_z w64 c.args.v c.ranges.v)
