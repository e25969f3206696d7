use Rattle.std.proofs.Common.{◌<◌, ◌^◌, sym, subst, unsigned_abs}
use Rattle.coded_unit.proofs.Bits.{packed}
use Rattle.coded_unit.proofs.word.Word.packed.Goals as goal

pub overflow_mul-result : goal.overflow_mul-result
overflow_mul-result c =
    (packed c.args.profile c.modulus.result c.args.value c.args.residue c.modulus.ensures.value c.modulus.type_inv c.ranges.residue.fits c.ranges.value c.requires.low c.requires.high).product

pub overflow_add-result : goal.overflow_add-result
overflow_add-result c =
    (packed c.args.profile c.modulus.result c.args.value c.args.residue c.modulus.ensures.value c.modulus.type_inv c.ranges.residue.fits c.ranges.value c.requires.low c.requires.high).sum

pub invariant_of-result : goal.invariant_of-result
invariant_of-result c =
    let all = packed c.args.profile c.modulus.result c.args.value c.args.residue c.modulus.ensures.value c.modulus.type_inv c.ranges.residue.fits c.ranges.value c.requires.low c.requires.high in
    subst (λ z. unsigned_abs z < 2 ^ 126) (sym all.is) all.bound

pub returns : goal.returns
returns c =
    (packed c.args.profile c.modulus.result c.args.value c.args.residue c.modulus.ensures.value c.modulus.type_inv c.ranges.residue.fits c.ranges.value c.requires.low c.requires.high).is
