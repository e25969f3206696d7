use Rattle.std.proofs.Common.{neg_ℤ, subst}
use Rattle.range_walk.specs.Intervals.{IsWithin}
use Rattle.range_walk.proofs.Conditions.{twice_negated}
use Rattle.range_walk.proofs.choices.of_either_sign.Goals as goal

pub returns-clause-same : goal.returns-clause-same
returns-clause-same c = λ x in_r in_no. c.joined.ensures.first x (c.shared-positive.ensures x in_no in_r)

pub returns-clause-opposite : goal.returns-clause-opposite
returns-clause-opposite c = λ x in_r in_yes.
    c.joined.ensures.second x
    (c.met-negative.ensures x in_yes (subst (λ v. IsWithin c.negated-opposite.result v) (twice_negated x) (c.negated-opposite.ensures (neg_ℤ x) in_r)))
