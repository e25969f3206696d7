use Rattle.std.proofs.Common.{sym, ◌∙◌, pos, ◌+ℤ◌, ◌*ℤ◌, w64}
use Rattle.coded_unit.proofs.Modular.{wide_split}
use Rattle.coded_unit.proofs.Bits.{of_two}
use Rattle.coded_unit.proofs.word.wide_near_split.Goals as goal

pub returns : goal.returns
returns c =
    let stepped = sym (of_two w64 (λ x y. pos 2305843009213693951 *ℤ x +ℤ y) c.args.value c.args.rest c.ranges.value c.ranges.rest) ∙ c.short_step_to.ensures.whole in
    let parts = wide_split c.args.code c.short_step_to.result.value c.short_step_to.result.residue c.short_step_to.ensures.below (c.requires.whole ∙ stepped) in
    record { value = parts.0; residue = parts.1; below = c.short_step_to.ensures.below }
