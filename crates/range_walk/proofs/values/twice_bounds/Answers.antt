use Rattle.std.proofs.Common.{sym, subst}
use Rattle.std.proofs.lemmas.Bool.{not_from_true}
use Rattle.vcp_base.specs.Kinds.{value, same, truth}
use Rattle.range_walk.specs.Intervals.{IsWithin}
use Rattle.range_walk.proofs.ValueBounds.{nothing_left, same_itself, less_than_itself}
use Rattle.range_walk.proofs.values.twice_bounds.Goals as goal

pub returns-in-Sub : goal.returns-in-Sub
returns-in-Sub c = λ x z i j k d.
    subst (λ t. IsWithin c.only.result (value t c.args.op.now.imm x x z)) (sym c.in-Sub.is)
    (subst (λ v. IsWithin c.only.result v) (nothing_left x) c.only.ensures)

pub returns-in-Eq : goal.returns-in-Eq
returns-in-Eq c = λ x z i j k d.
    subst (λ t. IsWithin c.only-in-Eq.result (value t c.args.op.now.imm x x z)) (sym c.in-Eq.is)
    (subst (λ b. IsWithin c.only-in-Eq.result (truth b)) (sym (same_itself x)) c.only-in-Eq.ensures)

pub returns-in-Lt : goal.returns-in-Lt
returns-in-Lt c = λ x z i j k d.
    subst (λ t. IsWithin c.only-in-Lt.result (value t c.args.op.now.imm x x z)) (sym c.in-Lt.is)
    (subst (λ b. IsWithin c.only-in-Lt.result (truth b)) (sym (less_than_itself x)) c.only-in-Lt.ensures)

pub returns-in-Xor : goal.returns-in-Xor
returns-in-Xor c = λ x z i j k d.
    subst (λ t. IsWithin c.only-in-Xor.result (value t c.args.op.now.imm x x z)) (sym c.in-Xor.is)
    (subst (λ b. IsWithin c.only-in-Xor.result (truth b)) (sym (not_from_true (same x x) (same_itself x))) c.only-in-Xor.ensures)

pub returns-in_default : goal.returns-in_default
returns-in_default c = λ x z i j k d. c.value_bounds.ensures x x z i j k d
