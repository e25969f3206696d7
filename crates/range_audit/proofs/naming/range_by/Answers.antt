use Rattle.std.proofs.Common.{inl, inr, sym, subst, ◌∙◌}
use Rattle.std.proofs.lemmas.Bool.{false≢true}
use Rattle.range_walk.specs.Intervals.{IsIn}
use Rattle.range_walk.specs.Walking.{Parts}
use Rattle.range_audit.proofs.naming.range_by.Goals as goal

pub returns-then-both : goal.returns-then-both
returns-then-both c = record {
  holds = λ v p. let two = subst (λ b. Parts b (IsIn c.args.first v) (IsIn c.args.second v)) c.if-both.true p in c.closer_of.ensures.holds v two.0 two.1;
  low = λ e. c.closer_of.ensures.low;
  high = λ e. c.closer_of.ensures.high;
}

pub returns : goal.returns
returns c = record {
  holds = λ v p. elim (subst (λ b. Parts b (IsIn c.args.first v) (IsIn c.args.second v)) c.if-both.false p) [
    | inl i ↦ c.joined.ensures.first v i
    | inr i ↦ c.joined.ensures.second v i
  ];
  low = λ e. absurd (false≢true (sym c.if-both.false ∙ e));
  high = λ e. absurd (false≢true (sym c.if-both.false ∙ e));
}
