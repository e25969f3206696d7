use Rattle.std.proofs.Common.{sym, ◌∙◌, pos, ◌+ℤ◌, ◌*ℤ◌, w64}
use Rattle.coded_unit.proofs.Modular.{narrow_split_is, cut_once}
use Rattle.coded_unit.proofs.Bits.{of_two}
use Rattle.coded_unit.proofs.word.near_split.Goals as goal

pub returns : goal.returns
returns c =
    let v = c.narrow_step_to.result.value in
    let r = c.narrow_step_to.result.residue in
    let stepped = sym (of_two w64 (λ x y. pos 2147483647 *ℤ x +ℤ y) c.args.high c.args.rest c.ranges.high c.ranges.rest) ∙ c.narrow_step_to.ensures.whole in
    let parts = narrow_split_is c.args.code v r c.narrow_step_to.ensures.below
    (cut_once c.args.code c.args.high c.args.low c.args.rest v r c.requires.whole c.requires.sum stepped) in
    record { value = parts.0; residue = parts.1; below = c.narrow_step_to.ensures.below }
