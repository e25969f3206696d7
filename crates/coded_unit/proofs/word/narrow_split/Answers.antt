use Rattle.std.proofs.Common.{ap, sym, ◌∙◌, pos, ◌+ℤ◌, ◌*ℤ◌, ◌^◌, SFits, w64}
use Rattle.std.proofs.lemmas.Int.{to_z-of_z}
use Rattle.vcp_base.specs.declared.code.Profile.TheVariants as profile
use Rattle.coded_unit.specs.Words.{modulo, value_part, Short}
use Rattle.coded_unit.proofs.Bits.{as_read, of_two, short_fits, short_low}
use Rattle.coded_unit.proofs.word.narrow_split.Goals as goal

pub short_plus-rest-requires : goal.short_plus-rest-requires
short_plus-rest-requires c =
    let high = c.short_halves-high.result.0 in
    let low = c.short_halves-high.result.1 in
    let near = short_low low c.short_halves-high.ensures.least c.short_halves-high.ensures.most in
    record {
      first = as_read w64 Short high (short_fits high c.short_halves-high.ensures.small) c.short_halves-high.ensures.small;
      second = as_read w64 Short low (short_fits low near) near;
    }

pub near_split-requires : goal.near_split-requires
near_split-requires c =
    let high = c.short_halves-high.result.0 in
    let low = c.short_halves-high.result.1 in
    let f : SFits w64 high = short_fits high c.short_halves-high.ensures.small in
    let g : SFits w64 low = short_fits low (short_low low c.short_halves-high.ensures.least c.short_halves-high.ensures.most) in
    record {
      whole = c.short_halves-high.ensures.whole ∙ sym (of_two w64 (λ x y. pos (2 ^ 31) *ℤ x +ℤ y) high low f g);
      sum = to_z-of_z w64 c.short_plus-rest.result record { sfits = c.short_plus-rest.type_inv } ∙ c.short_plus-rest.ensures;
      small = as_read w64 Short high f c.short_halves-high.ensures.small;
      rest_low = c.is_rest.ensures.low c.if-is_rest.true;
      rest_high = c.is_rest.ensures.high c.if-is_rest.true;
    }

pub near_split-requires-then-is_near : goal.near_split-requires-then-is_near
near_split-requires-then-is_near c =
    let high = c.short_halves-high.result.0 in
    let low = c.short_halves-high.result.1 in
    let f : SFits w64 high = short_fits high c.short_halves-high.ensures.small in
    let g : SFits w64 low = short_fits low (short_low low c.short_halves-high.ensures.least c.short_halves-high.ensures.most) in
    record {
      whole = c.short_halves-high.ensures.whole ∙ sym (of_two w64 (λ x y. pos (2 ^ 31) *ℤ x +ℤ y) high low f g);
      sum = to_z-of_z w64 c.short_plus-rest.result record { sfits = c.short_plus-rest.type_inv } ∙ c.short_plus-rest.ensures;
      small = as_read w64 Short high f c.short_halves-high.ensures.small;
      rest_low = c.is_near.ensures.low c.if-is_near.true;
      rest_high = c.is_near.ensures.high c.if-is_near.true;
    }

pub returns-then-is_rest : goal.returns-then-is_rest
returns-then-is_rest c =
    let code = to_z-of_z w64 c.args.code c.ranges.code in
    record {
      value = c.near_split.ensures.value ∙ ap (value_part profile.Narrow) code;
      residue = c.near_split.ensures.residue ∙ ap (modulo profile.Narrow) code;
      below = c.near_split.ensures.below;
    }

pub returns-then-is_near : goal.returns-then-is_near
returns-then-is_near c =
    let code = to_z-of_z w64 c.args.code c.ranges.code in
    record {
      value = c.near_split-then-is_near.ensures.value ∙ ap (value_part profile.Narrow) code;
      residue = c.near_split-then-is_near.ensures.residue ∙ ap (modulo profile.Narrow) code;
      below = c.near_split-then-is_near.ensures.below;
    }

pub returns-else-is_near : goal.returns-else-is_near
returns-else-is_near c =
    let code = to_z-of_z w64 c.args.code c.ranges.code in
    record {
      value = c.far_split.ensures.value ∙ ap (value_part profile.Narrow) code;
      residue = c.far_split.ensures.residue ∙ ap (modulo profile.Narrow) code;
      below = c.far_split.ensures.below;
    }
