use Rattle.std.proofs.Common.{inl, inr, subst, arith}
use Rattle.fault_cover.specs.Leftovers.{IsLeast}
use Rattle.fault_cover.proofs.Leaving.{least_first, least_less, least_outside, least_stays}
use Rattle.fault_cover.proofs.left.lesser.Goals as goal

pub returns-then-key-from : goal.returns-then-key-from
returns-then-key-from c = λ keys is.
    least_outside keys c.args.key c.args.from c.args.most c.args.best (inl (omega (arith, c.if-key-from.true))) is

pub returns-then-key-most : goal.returns-then-key-most
returns-then-key-most c = λ keys is.
    least_outside keys c.args.key c.args.from c.args.most c.args.best (inr (omega (arith, c.if-key-most.true))) is

pub returns-then-found-key : goal.returns-then-found-key
returns-then-found-key c = λ keys is.
    least_stays keys c.args.key c.args.from c.args.most c.in-Some.found (omega (arith, c.if-found-key.true))
    (subst (λ b. IsLeast keys c.args.from c.args.most b) c.in-Some.is is)

pub returns-else-found-key : goal.returns-else-found-key
returns-else-found-key c = λ keys is.
    least_less keys c.args.key c.args.from c.args.most c.in-Some.found (omega (arith, c.if-key-from.false)) (omega (arith, c.if-key-most.false))
    (omega (arith, c.if-found-key.false)) (subst (λ b. IsLeast keys c.args.from c.args.most b) c.in-Some.is is)

pub returns-in-None : goal.returns-in-None
returns-in-None c = λ keys is.
    least_first keys c.args.key c.args.from c.args.most (omega (arith, c.if-key-from.false)) (omega (arith, c.if-key-most.false))
    (subst (λ b. IsLeast keys c.args.from c.args.most b) c.in-None.is is)
