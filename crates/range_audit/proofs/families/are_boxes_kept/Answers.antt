use Rattle.std.proofs.Common.{◌≡◌, ◌&&◌, ℕ, true, slice_get, Some, sym, ap, ◌∙◌, below_more, subst, arith}
use Rattle.std.proofs.lemmas.Bool.{and_parts}
use Rattle.std.proofs.lemmas.Option.{slice_get_within, same_Some}
use Rattle.range_audit.specs.Searching.{Box, EndsFrom}
use Rattle.range_audit.proofs.families.are_boxes_kept.Goals as goal

pub boxes-preserved : goal.boxes-preserved
boxes-preserved c = λ e.
    let g = c.args.graph.now in
    let boxes = c.args.boxes.now.list.items in
    let both : (c.boxes.all && c.is_box_kept-kept.result) ≡ true = sym c.both_hold-both.ensures ∙ e in
    let parts = and_parts c.boxes.all c.is_box_kept-kept.result both in
    let at = c.at.ensures in
    let P : ℕ → Type 0 = λ j. (b : Box) → slice_get c.args.from.now.list.items j ≡ Some b → EndsFrom g c.args.inputs.now boxes b.items in
    below_more P c.boxes.k (c.boxes.invariant parts.0) (λ b there.
    let same = ap (λ (v : Box). v.items) (same_Some at.0 b (sym at.1 ∙ there)) in
    subst (λ rs. EndsFrom g c.args.inputs.now boxes rs) (sym at.2 ∙ same) (c.is_box_kept-kept.ensures parts.1))

pub returns : goal.returns
returns c = λ e k b there.
    let lt = slice_get_within c.args.from.now.list.items k b there in
    c.boxes.invariant e k (omega (arith, lt, c.boxes-test.false, c.boxes.auto.k-end, c.len-k-end.ensures)) b there
