use Rattle.std.proofs.Common.{pos, ◌||◌, sym, ◌∙◌}
use Rattle.std.proofs.lemmas.Bool.{and_parts, or_cases, or_left, or_right, or_from}
use Rattle.vcp_base.specs.Kinds.{same}
use Rattle.range_walk.proofs.Conditions.{in_one}
use Rattle.range_walk.proofs.ValueBounds.{other_than, is_same}
use Rattle.range_walk.proofs.values.either.Goals as goal

pub returns : goal.returns
returns c = λ x y i j.
    let s = same x (pos 1) in
    let t = same y (pos 1) in
    c.truth_bounds.ensures (s || t)
    (λ e. in_one (or_cases _ _ (sym c.either_holds-yes.ensures ∙ e)) (λ o. or_left s t (is_same x (pos 1) (c.is_only-a_is.ensures o x i)))
    (λ o. or_right s t (is_same y (pos 1) (c.is_only-b_is.ensures o y j))))
    (λ e.
    let all = and_parts _ _ (sym c.both_hold-no.ensures ∙ e) in
    or_from s t (other_than c.args.a x (pos 1) (c.excludes-a_is_not.ensures.out all.0) i)
    (other_than c.args.b y (pos 1) (c.excludes-b_is_not.ensures.out all.1) j))
