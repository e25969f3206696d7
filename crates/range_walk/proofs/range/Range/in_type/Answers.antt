use Rattle.std.proofs.Common.{◌≤ℤ◌, SFits, w64, rules, sym, subst, ◌∙◌}
use Rattle.std.proofs.lemmas.Int.{to_z-of_z}
use Rattle.range_walk.proofs.Bits.{greater_low, lesser_high, low_bits, high_bits}
use Rattle.range_walk.proofs.ValueBounds.{fits_between}
use Rattle.range_walk.proofs.range.Range.in_type.Goals as goal

pub returns : goal.returns
returns c =
    let self_low : SFits w64 c.args.self.low = search rules in
    let self_high : SFits w64 c.args.self.high = search rules in
    let least : SFits w64 c.least.result = search rules in
    let greatest : SFits w64 c.greatest.result = search rules in
    let low : SFits w64 c.max.result = search rules in
    let high : SFits w64 c.min.result = search rules in
    let least_is = sym (to_z-of_z w64 c.least.result least ∙ c.least.ensures) in
    let greatest_is = sym (to_z-of_z w64 c.greatest.result greatest ∙ c.greatest.ensures) in
    record {
      holds = λ v i fit.
          let is = fits_between c.args.ty v fit in
          let first = subst (λ z. z ≤ℤ v) (sym c.least.ensures) is.at_least in
          let last = subst (λ z. v ≤ℤ z) (sym c.greatest.ensures) is.at_most in
          record {
            at_least = greater_low _ _ _ v self_low least c.max.ensures.value low i.at_least first;
            at_most = lesser_high _ _ _ v self_high greatest c.min.ensures.value high i.at_most last;
            not_zero = i.not_zero;
          };
      lies = record {
        low = high_bits w64 c.max.result _ low (subst (λ z. z ≤ℤ c.max.result) (sym least_is) c.max.ensures.other_bound);
        high = low_bits w64 c.min.result _ high (subst (λ z. c.min.result ≤ℤ z) (sym greatest_is) c.min.ensures.other_bound);
      };
    }
