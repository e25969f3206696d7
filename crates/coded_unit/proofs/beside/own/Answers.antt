use Rattle.std.proofs.Common.{◌∙◌, ap, sym, subst, pos, ◌*ℤ◌, ◌≡◌, to_z, of_z}
use mir.Syntax.{w128}
use Rattle.std.proofs.lemmas.Int.{to_z-of_z}
use Rattle.vcp_base.specs.Code.{modulus}
use Rattle.coded_unit.specs.Multiples.{multiple, Wide}
use Rattle.coded_unit.proofs.Multiples.{read_back, is_wide}
use Rattle.coded_unit.proofs.beside.own.Goals as goal

pub returns : goal.returns
unfolding multiple
returns c =
    let k : to_z w128 (of_z w128 c.constant.result) ≡ c.constant.result = to_z-of_z w128 c.constant.result record { sfits = c.constant.type_inv } in
    let number : to_z w128 (of_z w128 c.args.number) ≡ c.args.number = to_z-of_z w128 c.args.number c.ranges.number in
    let is : to_z w128 (of_z w128 c.constant.result) *ℤ to_z w128 (of_z w128 c.args.number) ≡ multiple c.args.profile c.args.number =
    ap (λ z. z *ℤ to_z w128 (of_z w128 c.args.number)) (k ∙ c.constant.ensures) ∙ ap (λ z. pos (modulus c.args.profile) *ℤ z) number in
    read_back c.args.profile c.times.result c.args.number (c.times.ensures ∙ is) c.requires.low c.requires.high

pub times-requires : goal.times-requires
unfolding multiple
times-requires c =
    let k : to_z w128 (of_z w128 c.constant.result) ≡ c.constant.result = to_z-of_z w128 c.constant.result record { sfits = c.constant.type_inv } in
    let number : to_z w128 (of_z w128 c.args.number) ≡ c.args.number = to_z-of_z w128 c.args.number c.ranges.number in
    let is : to_z w128 (of_z w128 c.constant.result) *ℤ to_z w128 (of_z w128 c.args.number) ≡ multiple c.args.profile c.args.number =
    ap (λ z. z *ℤ to_z w128 (of_z w128 c.args.number)) (k ∙ c.constant.ensures) ∙ ap (λ z. pos (modulus c.args.profile) *ℤ z) number in
    subst Wide (sym is) (is_wide c.args.profile c.args.number c.requires.low c.requires.high)
