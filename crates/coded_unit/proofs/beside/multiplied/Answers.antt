use Rattle.std.proofs.Common.{◌≡◌, ap, sym, subst, ◌∙◌, ◌*ℤ◌, to_z, of_z, w64}
use mir.Syntax.{w128}
use Rattle.coded_unit.specs.Multiples.{Wide}
use Rattle.coded_unit.proofs.Bits.{read_twice}
use Rattle.coded_unit.proofs.Multiples.{product, of_operand, is_wide, read_back}
use Rattle.coded_unit.proofs.beside.multiplied.Goals as goal

pub returns : goal.returns
returns c =
    let y : to_z w128 (of_z w128 (to_z w64 (of_z w64 c.args.by))) ≡ c.args.by = read_twice c.args.by c.ranges.by in
    let is = ap (λ y. to_z w128 (of_z w128 c.args.first.multiple) *ℤ y) y
    ∙ product c.args.profile c.args.first.value c.args.by _ (of_operand c.args.profile c.args.first.multiple c.args.first.value c.requires.first) in
    read_back c.args.profile c.times.result (c.args.first.value *ℤ c.args.by) (c.times.ensures ∙ is) c.requires.low c.requires.high

pub times-requires : goal.times-requires
times-requires c =
    let y : to_z w128 (of_z w128 (to_z w64 (of_z w64 c.args.by))) ≡ c.args.by = read_twice c.args.by c.ranges.by in
    subst Wide (sym (ap (λ y. to_z w128 (of_z w128 c.args.first.multiple) *ℤ y) y ∙ product c.args.profile c.args.first.value c.args.by _ (of_operand c.args.profile c.args.first.multiple c.args.first.value c.requires.first)))
    (is_wide c.args.profile (c.args.first.value *ℤ c.args.by) c.requires.low c.requires.high)
