use Rattle.std.proofs.Common.{◌≡◌, ◌-◌, ℕ, suc, drop, sym, subst, ◌∙◌, arith}
use Rattle.il_front.specs.Lines.{through_end_var}
use Rattle.il_front.proofs.HeadLaws.{through-last, through-none}
use Rattle.il_front.proofs.head.end_var.Goals as goal

pub returns-then-is_end_var-clause-count : goal.returns-then-is_end_var-clause-count
returns-then-is_end_var-clause-count c =
    let ts = c.args.tokens.now.tokens in
    let at = c.loop-at.at in
    let next : at ≡ suc (at - 1) = omega (arith, c.loop-at-test.true) in
    let none : through_end_var (drop (suc (at - 1)) ts) ≡ 0 = subst (λ (k : ℕ). through_end_var (drop k ts) ≡ 0) next c.loop-at.invariant.none in
    next ∙ sym (through-last ts (at - 1) c.at.result c.at.ensures (sym c.is_end_var.ensures ∙ c.if-is_end_var.true) none)

pub loop-at-preserved : goal.loop-at-preserved
loop-at-preserved c =
    let ts = c.args.tokens.now.tokens in
    let at = c.loop-at.at in
    let next : at ≡ suc (at - 1) = omega (arith, c.loop-at-test.true) in
    let none : through_end_var (drop (suc (at - 1)) ts) ≡ 0 = subst (λ (k : ℕ). through_end_var (drop k ts) ≡ 0) next c.loop-at.invariant.none in
    record {
      within = omega (arith, c.loop-at.invariant.within);
      none = through-none ts (at - 1) c.at.result c.at.ensures (sym c.is_end_var.ensures ∙ c.if-is_end_var.false) none;
    }
