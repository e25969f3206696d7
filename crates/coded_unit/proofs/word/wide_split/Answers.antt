use Rattle.std.proofs.Common.{ap, sym, ◌∙◌, pos, negsuc, ◌+ℤ◌, ◌*ℤ◌, ◌≤ℤ◌, ◌<ℤ◌, ◌+◌, ◌^◌, SFits, w64}
use mir.Syntax.{w128}
use Rattle.std.proofs.lemmas.Int.{to_z-of_z}
use Rattle.vcp_base.specs.declared.code.Profile.TheVariants as profile
use Rattle.coded_unit.specs.Words.{modulo, value_part, Middle}
use Rattle.coded_unit.proofs.Bits.{as_read, of_two, middle_fits, low_fits, middle_low, few_within, middle_value, middle_sum, few_rest, cut_once, cut_twice}
use Rattle.coded_unit.proofs.word.wide_split.Goals as goal

pub middle_plus-sum-requires : goal.middle_plus-sum-requires
middle_plus-sum-requires c =
    let low = middle_low c.args.low c.requires.least c.requires.most in
    record {
      first = as_read w64 Middle c.args.high c.ranges.high c.requires.middle;
      second_low = as_read w64 (λ z. negsuc (2 ^ 61) ≤ℤ z) c.args.low c.ranges.low low.0;
      second_high = as_read w64 (λ z. z ≤ℤ pos (2 ^ 61)) c.args.low c.ranges.low low.1;
    }

pub wide_near_split-requires : goal.wide_near_split-requires
wide_near_split-requires c =
    let s = c.middle_plus-sum.result in
    let sum = c.middle_plus-sum.ensures ∙ of_two w64 ◌+ℤ◌ c.args.high c.args.low c.ranges.high c.ranges.low in
    let value = middle_value c.args.high c.requires.middle in
    record {
      whole =
          to_z-of_z w128 c.args.code c.ranges.code ∙ cut_once c.args.code c.args.high c.args.low s c.requires.whole sum
          ∙ sym (of_two w64 (λ x y. pos 2305843009213693951 *ℤ x +ℤ y) c.args.high s c.ranges.high record { sfits = c.middle_plus-sum.type_inv });
      value_low = as_read w64 (λ z. negsuc (2 ^ 62 + 2 ^ 61) ≤ℤ z) c.args.high c.ranges.high value.0;
      value_high = as_read w64 (λ z. z ≤ℤ pos (2 ^ 62 + 2 ^ 61)) c.args.high c.ranges.high value.1;
      rest_low = c.is_wide_rest.ensures.low c.if-is_wide_rest.true;
      rest_high = c.is_wide_rest.ensures.high c.if-is_wide_rest.true;
    }

pub returns-then-is_wide_rest : goal.returns-then-is_wide_rest
returns-then-is_wide_rest c =
    let code = to_z-of_z w128 c.args.code c.ranges.code in
    record {
      value = c.wide_near_split.ensures.value ∙ ap (value_part profile.Wide) code;
      residue = c.wide_near_split.ensures.residue ∙ ap (modulo profile.Wide) code;
      below = c.wide_near_split.ensures.below;
    }

pub middle_plus-requires : goal.middle_plus-requires
middle_plus-requires c =
    let m = c.middle_halves-more.result.0 in
    let few = few_within m c.middle_halves-more.ensures.few_low c.middle_halves-more.ensures.few_high in
    let f = middle_fits m few.0 in
    record {
      first = as_read w64 Middle c.args.high c.ranges.high c.requires.middle;
      second_low = as_read w64 (λ z. negsuc (2 ^ 61) ≤ℤ z) m f few.1;
      second_high = as_read w64 (λ z. z ≤ℤ pos (2 ^ 61)) m f few.2;
    }

pub middle_plus-requires-2 : goal.middle_plus-requires-2
middle_plus-requires-2 c =
    let m = c.middle_halves-more.result.0 in
    let r = c.middle_halves-more.result.1 in
    let f = low_fits r c.middle_halves-more.ensures.least c.middle_halves-more.ensures.most in
    let few = few_within m c.middle_halves-more.ensures.few_low c.middle_halves-more.ensures.few_high in
    let low = middle_low r c.middle_halves-more.ensures.least c.middle_halves-more.ensures.most in
    record {
      first = as_read w64 Middle m (middle_fits m few.0) few.0;
      second_low = as_read w64 (λ z. negsuc (2 ^ 61) ≤ℤ z) r f low.0;
      second_high = as_read w64 (λ z. z ≤ℤ pos (2 ^ 61)) r f low.1;
    }

pub wide_near_split-requires-2 : goal.wide_near_split-requires-2
wide_near_split-requires-2 c =
    let s = c.middle_plus-sum.result in
    let m = c.middle_halves-more.result.0 in
    let r = c.middle_halves-more.result.1 in
    let v = c.middle_plus.result in
    let x = c.middle_plus-2.result in
    let few = c.middle_halves-more.ensures.few_low in
    let many = c.middle_halves-more.ensures.few_high in
    let f = middle_fits m (few_within m few many).0 in
    let g = low_fits r c.middle_halves-more.ensures.least c.middle_halves-more.ensures.most in
    let p : SFits w64 v = record { sfits = c.middle_plus.type_inv } in
    let q : SFits w64 x = record { sfits = c.middle_plus-2.type_inv } in
    let sum = c.middle_plus-sum.ensures ∙ of_two w64 ◌+ℤ◌ c.args.high c.args.low c.ranges.high c.ranges.low in
    let cut = sym (to_z-of_z w64 s record { sfits = c.middle_plus-sum.type_inv }) ∙ c.middle_halves-more.ensures.whole in
    let value = c.middle_plus.ensures ∙ of_two w64 ◌+ℤ◌ c.args.high m c.ranges.high f in
    let rest = c.middle_plus-2.ensures ∙ of_two w64 ◌+ℤ◌ m r f g in
    let values = middle_sum c.args.high m v c.requires.middle few many value in
    let rests = few_rest m r x few many c.middle_halves-more.ensures.least c.middle_halves-more.ensures.most rest in
    record {
      whole =
          to_z-of_z w128 c.args.code c.ranges.code ∙ cut_twice c.args.code c.args.high c.args.low s m r v x c.requires.whole sum cut value rest
          ∙ sym (of_two w64 (λ x y. pos 2305843009213693951 *ℤ x +ℤ y) v x p q);
      value_low = as_read w64 (λ z. negsuc (2 ^ 62 + 2 ^ 61) ≤ℤ z) v p values.0;
      value_high = as_read w64 (λ z. z ≤ℤ pos (2 ^ 62 + 2 ^ 61)) v p values.1;
      rest_low = as_read w64 (λ z. negsuc 2305843009213693950 ≤ℤ z) x q rests.0;
      rest_high = as_read w64 (λ z. z <ℤ pos 4611686018427387902) x q rests.1;
    }

pub returns : goal.returns
returns c =
    let code = to_z-of_z w128 c.args.code c.ranges.code in
    record {
      value = c.wide_near_split-2.ensures.value ∙ ap (value_part profile.Wide) code;
      residue = c.wide_near_split-2.ensures.residue ∙ ap (modulo profile.Wide) code;
      below = c.wide_near_split-2.ensures.below;
    }
