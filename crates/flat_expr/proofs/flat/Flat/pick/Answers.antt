use Rattle.flat_expr.proofs.Codes.{still}
use Rattle.flat_expr.proofs.Ops.{less_types, sel_types}
use Rattle.std.proofs.Common.{refl}
use Rattle.std.proofs.lemmas.Result.{IfOk-weaker, err_from_is_err_and}
use Rattle.flat_expr.proofs.Operators.{picked}
use Rattle.std.proofs.Common.{◌+◌, arith, subst}
use Rattle.flat_expr.proofs.Refusals.{later_refuses, more_refuses}
use Rattle.std.specs.Prelude.{IfErr}
use Rattle.flat_expr.specs.State.{Refuses}
use Rattle.flat_expr.proofs.flat.Flat.pick.Goals as goal

pub returns-clause-made : goal.returns-clause-made
returns-clause-made c =
    IfOk-weaker c.add-2.result _ _ (λ k p.
    picked c.args.self.now c.add.new.self c.add-2.new.self c.args.ty c.args.x c.args.y c.args.a c.args.b c.in_ok-r.r k c.args.spot c.requires.a c.requires.b c.in_ok-r.ensures.made p) c.add-2.ensures.made

pub returns-clause-refuses : goal.returns-clause-refuses
returns-clause-refuses c = more_refuses c.args.self.now c.add-2.new.self (1 + 1) 2 c.add-2.result (omega arith)
    (later_refuses c.args.self.now c.add.new.self c.add-2.new.self 1 1 c.add-2.result c.in_ok-r.ensures.made.follows c.in_ok-r.ensures.made.unread
    c.in_ok-r.ensures.made.count c.add-2.ensures.refuses)

pub returns-in_err-r-clause-refuses : goal.returns-in_err-r-clause-refuses
returns-in_err-r-clause-refuses c =
    let q = err_from_is_err_and c.from_residual.result c.from_residual.ensures.1 in
    let h = more_refuses c.args.self.now c.add.new.self 1 2 c.add.result (omega arith) c.add.ensures.refuses in
    rw (q.1, q.2) (subst (λ r. IfErr r (λ e. Refuses c.args.self.now c.add.new.self 2 e)) c.in_err-r.was h)

-- ---- what the calls require

pub add-requires : goal.add-requires
add-requires c = record { plain = refl; types = less_types c.args.ty c.requires.number; from = c.requires.code; ty = refl; a = c.requires.x; b = c.requires.y; c = refl }

pub add-requires-2 : goal.add-requires-2
add-requires-2 c =
    let r = c.in_ok-r.ensures.made in
    let code = still _ _ c.args.ty r.follows.profile c.requires.code in
    record { plain = refl; types = sel_types c.args.ty; from = code; ty = code; a = r.place; b = r.follows.typed c.args.ty c.args.a c.requires.a; c = r.follows.typed c.args.ty c.args.b c.requires.b }
