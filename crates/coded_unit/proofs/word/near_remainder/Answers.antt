use Rattle.std.proofs.Common.{ap, sym, ◌∙◌, pos, negsuc, ◌+ℤ◌, ◌*ℤ◌, ◌≤ℤ◌, ◌<ℤ◌, ◌+◌, ◌^◌, SFits, w64}
use mir.Syntax.{w128}
use Rattle.std.proofs.lemmas.Int.{to_z-of_z}
use Rattle.vcp_base.specs.declared.code.Profile.TheVariants as profile
use Rattle.coded_unit.specs.Words.{modulo, Middle}
use Rattle.coded_unit.proofs.Bits.{as_read, of_two, middle_low, middle_value, cut_once}
use Rattle.coded_unit.proofs.Parts.{few_high, high_rest}
use Rattle.coded_unit.proofs.word.near_remainder.Goals as goal

pub middle_plus-rest-requires : goal.middle_plus-rest-requires
middle_plus-rest-requires c =
    let low = middle_low c.args.low c.requires.least c.requires.most in
    record {
      first = as_read w64 Middle c.args.high c.ranges.high (few_high c.args.high c.requires.high_low c.requires.high_high);
      second_low = as_read w64 (λ z. negsuc (2 ^ 61) ≤ℤ z) c.args.low c.ranges.low low.0;
      second_high = as_read w64 (λ z. z ≤ℤ pos (2 ^ 61)) c.args.low c.ranges.low low.1;
    }

pub wide_near_split-requires : goal.wide_near_split-requires
wide_near_split-requires c =
    let s = c.middle_plus-rest.result in
    let fits : SFits w64 s = record { sfits = c.middle_plus-rest.type_inv } in
    let sum = c.middle_plus-rest.ensures ∙ of_two w64 ◌+ℤ◌ c.args.high c.args.low c.ranges.high c.ranges.low in
    let value = middle_value c.args.high (few_high c.args.high c.requires.high_low c.requires.high_high) in
    let rest = high_rest c.args.high c.args.low s c.requires.high_low c.requires.high_high c.requires.least c.requires.most sum in
    record {
      whole =
          to_z-of_z w128 c.args.code c.ranges.code ∙ cut_once c.args.code c.args.high c.args.low s c.requires.whole sum
          ∙ sym (of_two w64 (λ x y. pos 2305843009213693951 *ℤ x +ℤ y) c.args.high s c.ranges.high fits);
      value_low = as_read w64 (λ z. negsuc (2 ^ 62 + 2 ^ 61) ≤ℤ z) c.args.high c.ranges.high value.0;
      value_high = as_read w64 (λ z. z ≤ℤ pos (2 ^ 62 + 2 ^ 61)) c.args.high c.ranges.high value.1;
      rest_low = as_read w64 (λ z. negsuc 2305843009213693950 ≤ℤ z) s fits rest.0;
      rest_high = as_read w64 (λ z. z <ℤ pos 4611686018427387902) s fits rest.1;
    }

pub returns-clause-value : goal.returns-clause-value
returns-clause-value c = c.wide_near_split.ensures.residue ∙ ap (modulo profile.Wide) (to_z-of_z w128 c.args.code c.ranges.code)

pub returns-clause-below : goal.returns-clause-below
returns-clause-below c = c.wide_near_split.ensures.below
