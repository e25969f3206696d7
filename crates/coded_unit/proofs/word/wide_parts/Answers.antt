use Rattle.std.proofs.Common.{sym, ◌∙◌, pos, negsuc, ◌+ℤ◌, ◌*ℤ◌, ◌≤ℤ◌, ◌<ℤ◌, ◌^◌, SFits}
use mir.Syntax.{w128}
use Rattle.std.proofs.lemmas.Int.{to_z-of_z}
use Rattle.coded_unit.specs.Words.{Small}
use Rattle.coded_unit.proofs.Modular.{wide_split}
use Rattle.coded_unit.proofs.Bits.{as_read, of_two, small_fits, small_low, small_sum, small_rest, cut_twice}
use Rattle.coded_unit.proofs.word.wide_parts.Goals as goal

pub plus-requires : goal.plus-requires
plus-requires c =
    let h = c.halves-high.result.0 in
    let l = c.halves-high.result.1 in
    let near = small_low l c.halves-high.ensures.least c.halves-high.ensures.most in
    record {
      first = as_read w128 Small h (small_fits h c.halves-high.ensures.small) c.halves-high.ensures.small;
      second = as_read w128 Small l (small_fits l near) near;
    }

pub plus-requires-2 : goal.plus-requires-2
plus-requires-2 c = record {
  first = as_read w128 Small c.halves-high.result.0 (small_fits c.halves-high.result.0 c.halves-high.ensures.small) c.halves-high.ensures.small;
  second = as_read w128 Small c.halves-more.result.0 (small_fits c.halves-more.result.0 c.halves-more.ensures.small) c.halves-more.ensures.small;
}

pub plus-requires-3 : goal.plus-requires-3
plus-requires-3 c =
    let r = c.halves-more.result.1 in
    let near = small_low r c.halves-more.ensures.least c.halves-more.ensures.most in
    record {
      first = as_read w128 Small c.halves-more.result.0 (small_fits c.halves-more.result.0 c.halves-more.ensures.small) c.halves-more.ensures.small;
      second = as_read w128 Small r (small_fits r near) near;
    }

pub step_to-requires : goal.step_to-requires
step_to-requires c =
    let h = c.halves-high.result.0 in
    let l = c.halves-high.result.1 in
    let s = c.plus.result in
    let m = c.halves-more.result.0 in
    let r = c.halves-more.result.1 in
    let v = c.plus-2.result in
    let x = c.plus-3.result in
    let fh = small_fits h c.halves-high.ensures.small in
    let fl = small_fits l (small_low l c.halves-high.ensures.least c.halves-high.ensures.most) in
    let fm = small_fits m c.halves-more.ensures.small in
    let fr = small_fits r (small_low r c.halves-more.ensures.least c.halves-more.ensures.most) in
    let fv : SFits w128 v = record { sfits = c.plus-2.type_inv } in
    let fx : SFits w128 x = record { sfits = c.plus-3.type_inv } in
    let sum = c.plus.ensures ∙ of_two w128 ◌+ℤ◌ h l fh fl in
    let cut = sym (to_z-of_z w128 s record { sfits = c.plus.type_inv }) ∙ c.halves-more.ensures.whole in
    let values = small_sum h m v c.halves-high.ensures.small c.halves-more.ensures.small (c.plus-2.ensures ∙ of_two w128 ◌+ℤ◌ h m fh fm) in
    let rests = small_rest h l s m r x c.halves-high.ensures.small c.halves-high.ensures.least c.halves-high.ensures.most sum cut
    c.halves-more.ensures.least c.halves-more.ensures.most (c.plus-3.ensures ∙ of_two w128 ◌+ℤ◌ m r fm fr) in
    record {
      value_low = as_read w128 (λ z. negsuc (2 ^ 100) ≤ℤ z) v fv values.0;
      value_high = as_read w128 (λ z. z ≤ℤ pos (2 ^ 100)) v fv values.1;
      rest_low = as_read w128 (λ z. negsuc 2305843009213693950 ≤ℤ z) x fx rests.0;
      rest_high = as_read w128 (λ z. z <ℤ pos 4611686018427387902) x fx rests.1;
    }

pub returns : goal.returns
returns c =
    let h = c.halves-high.result.0 in
    let l = c.halves-high.result.1 in
    let s = c.plus.result in
    let m = c.halves-more.result.0 in
    let r = c.halves-more.result.1 in
    let v = c.plus-2.result in
    let x = c.plus-3.result in
    let fh = small_fits h c.halves-high.ensures.small in
    let fl = small_fits l (small_low l c.halves-high.ensures.least c.halves-high.ensures.most) in
    let fm = small_fits m c.halves-more.ensures.small in
    let fr = small_fits r (small_low r c.halves-more.ensures.least c.halves-more.ensures.most) in
    let first = sym (to_z-of_z w128 c.args.code c.ranges.code) ∙ c.halves-high.ensures.whole in
    let sum = c.plus.ensures ∙ of_two w128 ◌+ℤ◌ h l fh fl in
    let cut = sym (to_z-of_z w128 s record { sfits = c.plus.type_inv }) ∙ c.halves-more.ensures.whole in
    let whole = cut_twice c.args.code h l s m r v x first sum cut (c.plus-2.ensures ∙ of_two w128 ◌+ℤ◌ h m fh fm) (c.plus-3.ensures ∙ of_two w128 ◌+ℤ◌ m r fm fr) in
    let stepped = sym (of_two w128 (λ x y. pos 2305843009213693951 *ℤ x +ℤ y) v x record { sfits = c.plus-2.type_inv } record { sfits = c.plus-3.type_inv })
    ∙ c.step_to.ensures.whole in
    let parts = wide_split c.args.code c.step_to.result.0 c.step_to.result.1 c.step_to.ensures.below (whole ∙ stepped) in
    record { value = parts.0; residue = parts.1; below = c.step_to.ensures.below }
