use Rattle.std.proofs.Common.{inl, inr, ◌≡◌, false, pos, subst}
use Rattle.std.specs.Prelude.{int_le}
use Rattle.std.proofs.Math.Bool.{and_comm, or_comm}
use Rattle.std.proofs.Math.IntN.{*ℤ_comm}
use Rattle.vcp_base.specs.Kinds.{value, same, truth, divides_by_zero}
use Rattle.range_walk.specs.Intervals.{IsIn}
use Rattle.range_walk.proofs.Backward.{and_joins, or_joins}
use Rattle.range_walk.proofs.ValueBounds.{not_divided}
use Rattle.range_walk.proofs.operand_ranges.narrowed.Goals as goal

pub returns-in-Store : goal.returns-in-Store
returns-in-Store c = λ imm x y z i o d.
    let v : IsIn c.args.r x =
    elim c.in-Store.is [
      | inl s ↦ subst (λ k. IsIn c.args.r (value k imm x y z)) s i
      | inr t ↦ elim t [ inl s ↦ subst (λ k. IsIn c.args.r (value k imm x y z)) s i | inr s ↦ subst (λ k. IsIn c.args.r (value k imm x y z)) s i ]
    ] in
    c.copied.ensures x y z v o

pub returns-in-Not : goal.returns-in-Not
returns-in-Not c = λ imm x y z i o d.
    let v = subst (λ k. IsIn c.args.r (value k imm x y z)) c.in-Not.is i in
    c.new.ensures x y z (c.denied.ensures x v o.first) o.second o.third

pub returns-in-And : goal.returns-in-And
returns-in-And c = λ imm x y z i o d.
    let v = subst (λ k. IsIn c.args.r (value k imm x y z)) c.in-And.is i in
    c.new-in-And.ensures x y z (c.joined.ensures _ x y (and_joins x y) v o.first o.second)
    (c.joined-in-And.ensures _ y x (and_joins y x) (subst (λ t. IsIn c.args.r (truth t)) (and_comm (same x (pos 1)) (same y (pos 1))) v) o.second o.first)
    o.third

pub returns-in-Or : goal.returns-in-Or
returns-in-Or c = λ imm x y z i o d.
    let v = subst (λ k. IsIn c.args.r (value k imm x y z)) c.in-Or.is i in
    c.new-in-Or.ensures x y z (c.joined-in-Or.ensures _ x y (or_joins x y) v o.first o.second)
    (c.joined-in-Or-2.ensures _ y x (or_joins y x) (subst (λ t. IsIn c.args.r (truth t)) (or_comm (same x (pos 1)) (same y (pos 1))) v) o.second o.first)
    o.third

pub returns-in-Eq : goal.returns-in-Eq
returns-in-Eq c = λ imm x y z i o d.
    let v = subst (λ k. IsIn c.args.r (value k imm x y z)) c.in-Eq.is i in
    c.new-in-Eq.ensures x y z (c.equal_to.ensures x y v o.first o.second)
    (c.equal_to-in-Eq.ensures y x (subst (λ t. IsIn c.args.r (truth t)) (and_comm (int_le x y) (int_le y x)) v) o.second o.first) o.third

pub returns-in-Lt : goal.returns-in-Lt
returns-in-Lt c = λ imm x y z i o d.
    let v = subst (λ k. IsIn c.args.r (value k imm x y z)) c.in-Lt.is i in
    c.ordered.ensures x y z v o

pub returns-in-Sel : goal.returns-in-Sel
returns-in-Sel c = λ imm x y z i o d.
    let v = subst (λ k. IsIn c.args.r (value k imm x y z)) c.in-Sel.is i in
    c.taken.ensures x y z v o

pub returns-in-Mul : goal.returns-in-Mul
returns-in-Mul c = λ imm x y z i o d.
    let v = subst (λ k. IsIn c.args.r (value k imm x y z)) c.in-Mul.is i in
    c.new-in-Mul.ensures x y z (c.factor.ensures x y v o.first o.second)
    (c.factor-in-Mul.ensures y x (subst (λ p. IsIn c.args.r p) (*ℤ_comm x y) v) o.second o.first) o.third

pub returns-in-Div : goal.returns-in-Div
returns-in-Div c = λ imm x y z i o d.
    let v = subst (λ k. IsIn c.args.r (value k imm x y z)) c.in-Div.is i in
    c.new-in-Div.ensures x y z (c.dividend.ensures x y v o.first o.second)
    (c.without_zero.ensures y o.second (not_divided y (subst (λ t. divides_by_zero t y ≡ false) c.in-Div.is d))) o.third

pub returns-in-Mod : goal.returns-in-Mod
returns-in-Mod c = λ imm x y z i o d.
    c.new-in-Mod.ensures x y z o.first
    (c.without_zero-in-Mod.ensures y o.second (not_divided y (subst (λ t. divides_by_zero t y ≡ false) c.in-Mod.is d))) o.third
