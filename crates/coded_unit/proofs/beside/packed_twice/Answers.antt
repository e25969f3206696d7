use Rattle.std.proofs.Common.{◌≡◌, ◌≤ℤ◌, ◌^◌, ap, sym, subst, ◌∙◌, pos, negsuc, to_z, of_z}
use mir.Syntax.{w128, w64}
use Rattle.std.proofs.lemmas.Int.{to_z-of_z}
use Rattle.vcp_base.specs.Kinds.{value}
use Rattle.coded_unit.specs.Words.{coded}
use Rattle.coded_unit.specs.Multiples.{multiple}
use Rattle.coded_unit.proofs.Bits.{read_fits, read_twice}
use Rattle.coded_unit.proofs.Multiples.{ends, gives}
use Rattle.coded_unit.proofs.beside.packed_twice.Goals as goal

pub multiple_of_value-beside-requires-clause-divisor : goal.multiple_of_value-beside-requires-clause-divisor
multiple_of_value-beside-requires-clause-divisor c =
    (gives c.args.call.now.kind c.args.call.now.from c.args.call.now.ty c.args.call.now.imm c.args.first.value c.args.second.value c.args.third.value c.args.value
    c.requires.value).0

pub multiple_of_value-beside-requires-clause-low : goal.multiple_of_value-beside-requires-clause-low
multiple_of_value-beside-requires-clause-low c =
    let is : value c.args.call.now.kind c.args.call.now.imm c.args.first.value c.args.second.value c.args.third.value ≡ c.args.value =
    (gives c.args.call.now.kind c.args.call.now.from c.args.call.now.ty c.args.call.now.imm c.args.first.value c.args.second.value c.args.third.value c.args.value
    c.requires.value).1 in
    subst (λ v. negsuc (2 ^ 63) ≤ℤ v) (sym is) (ends c.args.value c.ranges.value).0

pub multiple_of_value-beside-requires-clause-high : goal.multiple_of_value-beside-requires-clause-high
multiple_of_value-beside-requires-clause-high c =
    let is : value c.args.call.now.kind c.args.call.now.imm c.args.first.value c.args.second.value c.args.third.value ≡ c.args.value =
    (gives c.args.call.now.kind c.args.call.now.from c.args.call.now.ty c.args.call.now.imm c.args.first.value c.args.second.value c.args.third.value c.args.value
    c.requires.value).1 in
    subst (λ v. v ≤ℤ pos (2 ^ 63)) (sym is) (ends c.args.value c.ranges.value).1

pub apart-requires : goal.apart-requires
apart-requires c =
    let w : to_z w128 (of_z w128 c.own-whole.result) ≡ c.own-whole.result = to_z-of_z w128 c.own-whole.result record { sfits = c.own-whole.type_inv } in
    let b : to_z w128 (of_z w128 c.multiple_of_value-beside.result) ≡ c.multiple_of_value-beside.result = to_z-of_z w128 c.multiple_of_value-beside.result record { sfits = c.multiple_of_value-beside.type_inv } in
    let v : to_z w128 (of_z w128 (to_z w64 (of_z w64 c.args.value))) ≡ c.args.value = read_twice c.args.value c.ranges.value in
    let is : value c.args.call.now.kind c.args.call.now.imm c.args.first.value c.args.second.value c.args.third.value ≡ c.args.value =
    (gives c.args.call.now.kind c.args.call.now.from c.args.call.now.ty c.args.call.now.imm c.args.first.value c.args.second.value c.args.third.value c.args.value
    c.requires.value).1 in
    w ∙ c.own-whole.ensures.0 ∙ ap (multiple c.args.profile) (v ∙ sym is) ∙ sym (b ∙ c.multiple_of_value-beside.ensures)

pub returns : goal.returns
returns c =
    let v : to_z w128 (of_z w128 (to_z w64 (of_z w64 c.args.value))) ≡ c.args.value = read_twice c.args.value c.ranges.value in
    c.plus_nothing.ensures ∙ c.packed.ensures ∙ ap (λ z. coded c.args.profile z c.args.residue) v

pub overflow_cast-value : goal.overflow_cast-value
overflow_cast-value c = read_fits c.args.value c.ranges.value

pub overflow_cast-value-2 : goal.overflow_cast-value-2
overflow_cast-value-2 c = read_fits c.args.value c.ranges.value

pub own-whole-requires : goal.own-whole-requires
own-whole-requires c =
    let is = sym (read_twice c.args.value c.ranges.value) in
    record {
      low = subst (λ v. negsuc (2 ^ 63) ≤ℤ v) is (ends c.args.value c.ranges.value).0;
      high = subst (λ v. v ≤ℤ pos (2 ^ 63)) is (ends c.args.value c.ranges.value).1;
    }

pub packed-requires : goal.packed-requires
packed-requires c =
    let is = sym (read_twice c.args.value c.ranges.value) in
    record {
      low = subst (λ v. negsuc (2 ^ 63) ≤ℤ v) is (ends c.args.value c.ranges.value).0;
      high = subst (λ v. v ≤ℤ pos (2 ^ 63)) is (ends c.args.value c.ranges.value).1;
    }
