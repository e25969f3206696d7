use Rattle.std.proofs.Common.{◌≤ℤ◌, w64, rules, sym, subst}
use Rattle.range_walk.proofs.Bits.{low_bits, high_bits}
use Rattle.range_walk.proofs.ValueBounds.{fits_between}
use Rattle.range_walk.proofs.range.Range.of_type.Goals as goal

pub returns : goal.returns
returns c = λ v h.
    let is = fits_between c.args.ty v h in
    record {
      at_least = low_bits w64 c.least.result v (search rules) (subst (λ z. z ≤ℤ v) (sym c.least.ensures) is.at_least);
      at_most = high_bits w64 c.greatest.result v (search rules) (subst (λ z. v ≤ℤ z) (sym c.greatest.ensures) is.at_most);
      not_zero = is.not_zero;
    }
