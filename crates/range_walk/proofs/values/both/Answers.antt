use Rattle.std.proofs.Common.{pos, ◌&&◌, sym, ◌∙◌}
use Rattle.std.proofs.lemmas.Bool.{and_parts, and_from, or_cases, both_ways, false_from_ne_true}
use Rattle.vcp_base.specs.Kinds.{same}
use Rattle.range_walk.proofs.Conditions.{in_one}
use Rattle.range_walk.proofs.ValueBounds.{other_than, is_same}
use Rattle.range_walk.proofs.values.both.Goals as goal

pub returns : goal.returns
returns c = λ x y i j.
    let s = same x (pos 1) in
    let t = same y (pos 1) in
    c.truth_bounds.ensures (s && t)
    (λ e.
    let all = and_parts _ _ (sym c.both_hold-yes.ensures ∙ e) in
    and_from s t (is_same x (pos 1) (c.is_only-a_is.ensures all.0 x i)) (is_same y (pos 1) (c.is_only-b_is.ensures all.1 y j)))
    (λ e.
    false_from_ne_true (s && t) (λ h. in_one (or_cases _ _ (sym c.either_holds-no.ensures ∙ e))
    (λ o. both_ways s (other_than c.args.a x (pos 1) (c.excludes-a_is_not.ensures.out o) i) (and_parts s t h).0)
    (λ o. both_ways t (other_than c.args.b y (pos 1) (c.excludes-b_is_not.ensures.out o) j) (and_parts s t h).1)))
