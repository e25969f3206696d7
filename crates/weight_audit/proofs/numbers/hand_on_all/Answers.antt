use Rattle.std.proofs.Common.{ℕ, ℤ, pos, ◌+ℤ◌, ◌*ℤ◌}
use Rattle.weight_audit.specs.Weights.{share, factor}
use Rattle.weight_audit.proofs.FirstSteps.{by_operands}
use Rattle.weight_audit.proofs.Residues.{are_equal}
use Rattle.weight_audit.proofs.numbers.hand_on_all.Goals as goal

pub returns-clause-residues : goal.returns-clause-residues
returns-clause-residues c = λ count f are.
    let w = pos c.args.weight in
    let op = c.args.op.now in
    let first : ℕ → ℤ = λ k. f k +ℤ share op k 0 *ℤ w in
    let second : ℕ → ℤ = λ k. first k +ℤ share op k 1 *ℤ w in
    let third : ℕ → ℤ = λ k. second k +ℤ share op k 2 *ℤ w in
    are_equal c.args.profile count third (λ k. f k +ℤ factor op k *ℤ w) c.hand_on-3.new.numbers
    (c.hand_on-3.ensures.residues count second (c.hand_on-2.ensures.residues count first (c.hand_on.ensures.residues count f are)))
    (λ k. by_operands (f k) op k w)
