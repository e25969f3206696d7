use Rattle.std.proofs.Common.{◌≡◌, pos, ◌+ℤ◌, ◌*ℤ◌, ◌==◌, cond, ap, arith}
use Rattle.std.proofs.lemmas.Int.{ints}
use Rattle.weight_audit.specs.Sweeping.{number, greater}
use Rattle.weight_audit.proofs.Residues.{are_equal}
use Rattle.weight_audit.proofs.numbers.cross.Goals as goal

pub returns-clause-residues : goal.returns-clause-residues
returns-clause-residues c = λ count f are.
    let z = pos (number c.args.later.now c.args.cell.now.load) in
    let once : pos 1 *ℤ z ≡ z = omega (arith, ints) in
    are_equal c.args.profile count (greater f c.args.cell.now.store (pos 1 *ℤ z)) (greater f c.args.cell.now.store z) c.add.new.numbers
    (c.add.ensures.residues count f are)
    (λ k. ap (λ y. f k +ℤ cond (k == c.args.cell.now.store) y (pos 0)) once)
