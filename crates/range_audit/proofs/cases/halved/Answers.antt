use Rattle.std.proofs.Common.{◌≡◌, ◌<◌, ◌≤ℤ◌, ◌<ℤ◌, w64, rules, inl, inr, length, ap, sym, ◌∙◌, subst, arith}
use Rattle.std.proofs.lemmas.Int.{to_z-of_z}
use Rattle.std.proofs.lemmas.List.{with_items_is}
use Rattle.vcp_base.specs.Values.{at}
use Rattle.range_walk.specs.Intervals.{Fit}
use Rattle.range_audit.proofs.Boxed.{no_more_or_more}
use Rattle.range_audit.proofs.cases.halved.Goals as goal

pub narrow_to-requires : goal.narrow_to-requires
narrow_to-requires c =
    let before : length c.deref_mut.result.now ≡ length c.args.ranges.now = ap length (c.deref_mut.ensures.value ∙ c.in-Ok.ensures) in
    record { there = omega (arith, before, c.requires.there); many = omega (arith, before, c.requires.many) }

pub narrow_to-requires-2 : goal.narrow_to-requires-2
narrow_to-requires-2 c =
    let before : length c.deref_mut-2.result.now ≡ length c.args.ranges.now = ap length (c.deref_mut-2.ensures.value ∙ c.in-Ok-copied.ensures) in
    record { there = omega (arith, before, c.requires.there); many = omega (arith, before, c.requires.many) }

pub returns : goal.returns
returns c =
    let low = c.narrow_to.new.ranges in
    let high = c.narrow_to-2.new.ranges in
    let low_was = c.deref_mut.ensures.value ∙ c.in-Ok.ensures in
    let high_was = c.deref_mut-2.ensures.value ∙ c.in-Ok-copied.ensures in
    let low_many = c.narrow_to.ensures.many ∙ ap length low_was in
    let high_many = c.narrow_to-2.ensures.many ∙ ap length high_was in
    let low_is = with_items_is c.in-Ok.low low (omega (arith, ap length low_was, c.narrow_to.ensures.many, c.deref_mut.ensures.len)) in
    let high_is = with_items_is c.in-Ok-copied.high high (omega (arith, ap length high_was, c.narrow_to-2.ensures.many, c.deref_mut-2.ensures.len)) in
    record {
      low_many = ap length low_is ∙ low_many;
      high_many = ap length high_is ∙ high_many;
      one = λ held row vs hold given whole fit.
          let q = c.args.q in
          let lt : q < length vs = omega (arith, whole, c.requires.there) in
          let i = fit q c.earlier_range-r.result lt c.earlier_range-r.ensures in
          let same = to_z-of_z w64 c.args.m (search rules) in
          elim (no_more_or_more (at vs q) c.args.m) [
            | inl le ↦
                let is = c.up_to.ensures (at vs q) i (subst (λ k. at vs q ≤ℤ k) (sym same) le) in
                inl (subst (λ rs. Fit rs vs) (sym low_is) (c.narrow_to.ensures.fits.fits held row vs hold given (whole ∙ sym (ap length low_was))
                (subst (λ rs. Fit rs vs) (sym low_was) fit) is))
            | inr more ↦
                let is = c.above.ensures (at vs q) i (subst (λ k. k <ℤ at vs q) (sym same) more) in
                inr (subst (λ rs. Fit rs vs) (sym high_is) (c.narrow_to-2.ensures.fits.fits held row vs hold given (whole ∙ sym (ap length high_was))
                (subst (λ rs. Fit rs vs) (sym high_was) fit) is))
          ];
    }
