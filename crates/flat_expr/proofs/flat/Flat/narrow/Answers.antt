use Rattle.flat_expr.proofs.Codes.{still}
use Rattle.std.proofs.Common.{refl}
use Rattle.std.proofs.lemmas.Result.{IfOk-weaker, err_from_is_err_and}
use Rattle.flat_expr.proofs.Operators.{narrowed}
use Rattle.std.proofs.Common.{◌+◌, arith, subst}
use Rattle.flat_expr.proofs.Refusals.{later_refuses, more_refuses}
use Rattle.std.specs.Prelude.{IfErr}
use Rattle.flat_expr.specs.State.{Refuses}
use Rattle.flat_expr.proofs.flat.Flat.narrow.Goals as goal

pub returns-clause-made : goal.returns-clause-made
returns-clause-made c =
    IfOk-weaker c.add.result _ _ (λ k p.
    narrowed c.args.self.now c.mask.new.self c.add.new.self c.args.from c.args.to c.args.a c.in_ok-m.m k c.args.spot c.in_ok-m.ensures.made p) c.add.ensures.made

pub returns-clause-refuses : goal.returns-clause-refuses
returns-clause-refuses c = more_refuses c.args.self.now c.add.new.self (1 + 1) 2 c.add.result (omega arith)
    (later_refuses c.args.self.now c.mask.new.self c.add.new.self 1 1 c.add.result c.in_ok-m.ensures.made.follows c.in_ok-m.ensures.made.unread
    c.in_ok-m.ensures.made.count c.add.ensures.refuses)

pub returns-in_err-m-clause-refuses : goal.returns-in_err-m-clause-refuses
returns-in_err-m-clause-refuses c =
    let q = err_from_is_err_and c.from_residual.result c.from_residual.ensures.1 in
    let h = more_refuses c.args.self.now c.mask.new.self 1 2 c.mask.result (omega arith) c.mask.ensures.refuses in
    rw (q.1, q.2) (subst (λ r. IfErr r (λ e. Refuses c.args.self.now c.mask.new.self 2 e)) c.in_err-m.was h)

-- ---- what the calls require

pub mask-requires : goal.mask-requires
mask-requires c = record { there = c.requires.a; number = c.requires.number; code = c.requires.from }

pub add-requires : goal.add-requires
add-requires c =
    let m = c.in_ok-m.ensures.made in record { plain = refl; types = c.requires.types; from = still _ _ c.args.from m.follows.profile c.requires.from; ty = still _ _ c.args.to m.follows.profile c.requires.to; a = m.place; b = refl; c = refl }
