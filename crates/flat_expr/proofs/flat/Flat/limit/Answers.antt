use Rattle.flat_expr.proofs.Codes.{still}
use Rattle.std.proofs.lemmas.Result.{IfOk-weaker, err_from_is_err_and}
use Rattle.flat_expr.proofs.Operators.{limited}
use Rattle.std.proofs.Common.{◌+◌, arith, subst}
use Rattle.flat_expr.proofs.Refusals.{later_refuses, more_refuses}
use Rattle.std.specs.Prelude.{IfErr}
use Rattle.flat_expr.specs.State.{Refuses}
use Rattle.flat_expr.proofs.flat.Flat.limit.Goals as goal

pub returns-clause-made : goal.returns-clause-made
returns-clause-made c =
    IfOk-weaker c.pick-2.result _ _ (λ k p.
    limited c.args.self.now c.pick.new.self c.pick-2.new.self c.args.ty c.args.low c.args.a c.args.high c.in_ok-m.m k c.requires.high c.in_ok-m.ensures.made p) c.pick-2.ensures.made

pub returns-clause-refuses : goal.returns-clause-refuses
returns-clause-refuses c = more_refuses c.args.self.now c.pick-2.new.self (2 + 2) 6 c.pick-2.result (omega arith)
    (later_refuses c.args.self.now c.pick.new.self c.pick-2.new.self 2 2 c.pick-2.result c.in_ok-m.ensures.made.follows c.in_ok-m.ensures.made.unread
    c.in_ok-m.ensures.made.count c.pick-2.ensures.refuses)

pub returns-in_err-m-clause-refuses : goal.returns-in_err-m-clause-refuses
returns-in_err-m-clause-refuses c =
    let q = err_from_is_err_and c.from_residual.result c.from_residual.ensures.1 in
    let h = more_refuses c.args.self.now c.pick.new.self 2 6 c.pick.result (omega arith) c.pick.ensures.refuses in
    rw (q.1, q.2) (subst (λ r. IfErr r (λ e. Refuses c.args.self.now c.pick.new.self 6 e)) c.in_err-m.was h)

-- ---- what the calls require

pub pick-requires : goal.pick-requires
pick-requires c = record { number = c.requires.number; code = c.requires.code; x = c.requires.a; y = c.requires.low; a = c.requires.a; b = c.requires.low }

pub pick-requires-2 : goal.pick-requires-2
pick-requires-2 c =
    let m = c.in_ok-m.ensures.made in
    let high = m.follows.typed c.args.ty c.args.high c.requires.high in
    record { number = c.requires.number; code = still _ _ c.args.ty m.follows.profile c.requires.code; x = high; y = m.place; a = m.place; b = high }
