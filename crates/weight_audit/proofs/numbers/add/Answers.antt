use Rattle.std.proofs.Common.{◌≡◌, pos, ◌+ℤ◌, ◌*ℤ◌, arith}
use Rattle.std.proofs.lemmas.Int.{to_z-of_z}
use Rattle.coded_unit.specs.Words.{modulo}
use Rattle.weight_audit.specs.Sweeping.{number}
use Rattle.weight_audit.proofs.Residues.{are_set}
use Rattle.weight_audit.proofs.numbers.add.Goals as goal

pub returns-clause-residues : goal.returns-clause-residues
returns-clause-residues c = λ count f are.
    let is : c.remainder.result ≡ modulo c.args.profile (pos (number c.args.numbers.now c.args.n) +ℤ c.args.factor *ℤ pos c.args.by) =
    grind (arith, to_z-of_z) in
    are_set c.args.profile count f c.args.numbers.now c.args.n (c.args.factor *ℤ pos c.args.by) c.remainder.result
    (c.words_split_in_one_way.ensures c.args.profile) c.requires.place are is
