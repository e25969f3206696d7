use Rattle.std.proofs.Common.{◌≡◌, pos, ◌+ℤ◌, ◌*ℤ◌, ap, sym, subst, ◌∙◌, to_z, of_z, arith}
use mir.Syntax.{w32}
use Rattle.std.proofs.lemmas.Int.{to_z-of_z}
use Rattle.weight_audit.specs.Weights.{share}
use Rattle.weight_audit.specs.Sweeping.{greater, AreResidues}
use Rattle.weight_audit.proofs.FirstSteps.{share-read}
use Rattle.weight_audit.proofs.Residues.{are_equal}
use Rattle.weight_audit.proofs.numbers.hand_on.Goals as goal

pub returns-then-reads_operation-clause-residues : goal.returns-then-reads_operation-clause-residues
returns-then-reads_operation-clause-residues c = λ count f are.
    let w = pos c.args.weight in
    let m = c.multiplier.result in
    let whole : to_z w32 (of_z w32 m) ≡ m = grind (arith, to_z-of_z) in
    let added = subst (λ z. AreResidues c.args.profile count (greater f c.args.n (z *ℤ w)) c.add.new.numbers) whole (c.add.ensures.residues count f are) in
    are_equal c.args.profile count (greater f c.args.n (m *ℤ w)) (λ k. f k +ℤ share c.args.op.now k c.args.j *ℤ w) c.add.new.numbers added
    (λ k. ap (λ z. f k +ℤ z)
    (share-read c.args.op.now c.args.j c.args.n k m w
    (sym (c.reads_operation.ensures c.args.op.now.from) ∙ c.if-reads_operation.true) c.requires.names c.multiplier.ensures.value))
