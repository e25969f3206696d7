use Rattle.vcp_base.specs.declared.ty.Ty.TheVariants as ty
use Rattle.flat_expr.proofs.Operators.{int_as}
use Rattle.flat_expr.proofs.Codes.{still}
use Rattle.flat_expr.proofs.Ops.{less_types, neg_types, sel_types}
use Rattle.std.proofs.Common.{refl, ◌∙◌}
use Rattle.std.proofs.lemmas.Result.{IfOk-weaker}
use Rattle.flat_expr.proofs.Absolute.{absolute_made}
use Rattle.std.proofs.Common.{◌+◌, subst, arith}
use Rattle.std.specs.Prelude.{IfErr}
use Rattle.std.proofs.lemmas.Result.{err_from_is_err_and}
use Rattle.flat_expr.specs.State.{Refuses}
use Rattle.flat_expr.proofs.Refusals.{later_refuses, more_refuses}
use Rattle.flat_expr.proofs.flat.Flat.absolute.Goals as goal

pub returns-clause-made : goal.returns-clause-made
returns-clause-made c =
    IfOk-weaker c.add-3.result _ _ (λ k p.
    absolute_made c.args.self.now c.mask.new.self c.neutral.new.self c.add.new.self c.add-2.new.self c.add-3.new.self c.args.ty c.args.a c.in_ok-m.m c.in_ok-z.z c.in_ok-r.r c.in_ok-n.n k c.args.spot c.requires.number c.requires.a c.in_ok-m.ensures.made c.in_ok-z.ensures.made c.in_ok-r.ensures.made c.in_ok-n.ensures.made p) c.add-3.ensures.made

pub returns-clause-refuses : goal.returns-clause-refuses
returns-clause-refuses c = more_refuses c.args.self.now c.add-3.new.self (1 + (0 + (1 + (1 + 1)))) 5 c.add-3.result (omega arith)
    (later_refuses c.args.self.now c.mask.new.self c.add-3.new.self 1 (0 + (1 +
    (1 + 1))) c.add-3.result c.in_ok-m.ensures.made.follows c.in_ok-m.ensures.made.unread c.in_ok-m.ensures.made.count
    (later_refuses c.mask.new.self c.neutral.new.self c.add-3.new.self 0 (1 +
    (1 + 1)) c.add-3.result c.in_ok-z.ensures.made.follows c.in_ok-z.ensures.made.unread c.in_ok-z.ensures.made.count
    (later_refuses c.neutral.new.self c.add.new.self c.add-3.new.self 1
    (1 + 1) c.add-3.result c.in_ok-r.ensures.made.follows c.in_ok-r.ensures.made.unread c.in_ok-r.ensures.made.count
    (later_refuses c.add.new.self c.add-2.new.self c.add-3.new.self 1 1 c.add-3.result c.in_ok-n.ensures.made.follows c.in_ok-n.ensures.made.unread
    c.in_ok-n.ensures.made.count c.add-3.ensures.refuses))))

pub returns-in_err-z-clause-refuses : goal.returns-in_err-z-clause-refuses
returns-in_err-z-clause-refuses c =
    let q = err_from_is_err_and c.from_residual-in_err-z.result c.from_residual-in_err-z.ensures.1 in
    let h = more_refuses c.args.self.now c.neutral.new.self (1 + 0) 5 c.neutral.result (omega arith)
    (later_refuses c.args.self.now c.mask.new.self c.neutral.new.self 1 0 c.neutral.result c.in_ok-m.ensures.made.follows c.in_ok-m.ensures.made.unread
    c.in_ok-m.ensures.made.count c.neutral.ensures.refuses) in
    rw (q.1, q.2) (subst (λ r. IfErr r (λ e. Refuses c.args.self.now c.neutral.new.self 5 e)) c.in_err-z.was h)

pub returns-in_err-r-clause-refuses : goal.returns-in_err-r-clause-refuses
returns-in_err-r-clause-refuses c =
    let q = err_from_is_err_and c.from_residual-in_err-r.result c.from_residual-in_err-r.ensures.1 in
    let h = more_refuses c.args.self.now c.add.new.self (1 + (0 + 1)) 5 c.add.result (omega arith)
    (later_refuses c.args.self.now c.mask.new.self c.add.new.self 1
    (0 + 1) c.add.result c.in_ok-m.ensures.made.follows c.in_ok-m.ensures.made.unread c.in_ok-m.ensures.made.count
    (later_refuses c.mask.new.self c.neutral.new.self c.add.new.self 0 1 c.add.result c.in_ok-z.ensures.made.follows c.in_ok-z.ensures.made.unread
    c.in_ok-z.ensures.made.count c.add.ensures.refuses)) in
    rw (q.1, q.2) (subst (λ r. IfErr r (λ e. Refuses c.args.self.now c.add.new.self 5 e)) c.in_err-r.was h)

pub returns-in_err-n-clause-refuses : goal.returns-in_err-n-clause-refuses
returns-in_err-n-clause-refuses c =
    let q = err_from_is_err_and c.from_residual-in_err-n.result c.from_residual-in_err-n.ensures.1 in
    let h = more_refuses c.args.self.now c.add-2.new.self (1 + (0 + (1 + 1))) 5 c.add-2.result (omega arith)
    (later_refuses c.args.self.now c.mask.new.self c.add-2.new.self 1 (0 +
    (1 + 1)) c.add-2.result c.in_ok-m.ensures.made.follows c.in_ok-m.ensures.made.unread c.in_ok-m.ensures.made.count
    (later_refuses c.mask.new.self c.neutral.new.self c.add-2.new.self 0
    (1 + 1) c.add-2.result c.in_ok-z.ensures.made.follows c.in_ok-z.ensures.made.unread c.in_ok-z.ensures.made.count
    (later_refuses c.neutral.new.self c.add.new.self c.add-2.new.self 1 1 c.add-2.result c.in_ok-r.ensures.made.follows c.in_ok-r.ensures.made.unread
    c.in_ok-r.ensures.made.count c.add-2.ensures.refuses))) in
    rw (q.1, q.2) (subst (λ r. IfErr r (λ e. Refuses c.args.self.now c.add-2.new.self 5 e)) c.in_err-n.was h)

pub returns-in_err-m-clause-refuses : goal.returns-in_err-m-clause-refuses
returns-in_err-m-clause-refuses c =
    let q = err_from_is_err_and c.from_residual.result c.from_residual.ensures.1 in
    let h = more_refuses c.args.self.now c.mask.new.self 1 5 c.mask.result (omega arith) c.mask.ensures.refuses in
    rw (q.1, q.2) (subst (λ r. IfErr r (λ e. Refuses c.args.self.now c.mask.new.self 5 e)) c.in_err-m.was h)

pub returns-in_err-m-clause-made : goal.returns-in_err-m-clause-made
returns-in_err-m-clause-made c = rw (err_from_is_err_and c.from_residual.result c.from_residual.ensures.1).1 tt

pub returns-in_err-z-clause-made : goal.returns-in_err-z-clause-made
returns-in_err-z-clause-made c = rw (err_from_is_err_and c.from_residual-in_err-z.result c.from_residual-in_err-z.ensures.1).1 tt

pub returns-in_err-r-clause-made : goal.returns-in_err-r-clause-made
returns-in_err-r-clause-made c = rw (err_from_is_err_and c.from_residual-in_err-r.result c.from_residual-in_err-r.ensures.1).1 tt

pub returns-in_err-n-clause-made : goal.returns-in_err-n-clause-made
returns-in_err-n-clause-made c = rw (err_from_is_err_and c.from_residual-in_err-n.result c.from_residual-in_err-n.ensures.1).1 tt

-- ---- what the calls require

pub mask-requires : goal.mask-requires
mask-requires c = record { there = c.requires.a; number = c.requires.number; code = c.requires.code }

pub add-requires : goal.add-requires
add-requires c =
    let m = c.in_ok-m.ensures.made in
    let z = c.in_ok-z.ensures.made in
    let code = still _ _ c.args.ty (z.follows.profile ∙ m.follows.profile) c.requires.code in record { plain = refl; types = less_types c.args.ty c.requires.number; from = code; ty = refl; a = z.follows.typed c.args.ty c.in_ok-m.m m.place; b = int_as c.args.ty c.neutral.new.self.graph.operations c.in_ok-z.z c.requires.number z.place; c = refl }

pub add-requires-2 : goal.add-requires-2
add-requires-2 c =
    let m = c.in_ok-m.ensures.made in
    let z = c.in_ok-z.ensures.made in
    let r = c.in_ok-r.ensures.made in
    let code = still _ _ c.args.ty (r.follows.profile ∙ z.follows.profile ∙ m.follows.profile) c.requires.code in
    record { plain = refl; types = neg_types c.args.ty c.requires.number; from = code; ty = code; a = r.follows.typed c.args.ty c.in_ok-m.m (z.follows.typed c.args.ty c.in_ok-m.m m.place); b = refl; c = refl }

pub add-requires-3 : goal.add-requires-3
add-requires-3 c =
    let m = c.in_ok-m.ensures.made in
    let z = c.in_ok-z.ensures.made in
    let r = c.in_ok-r.ensures.made in
    let n = c.in_ok-n.ensures.made in
    let code = still _ _ c.args.ty (n.follows.profile ∙ r.follows.profile ∙ z.follows.profile ∙ m.follows.profile) c.requires.code in
    let there = n.follows.typed c.args.ty c.in_ok-m.m (r.follows.typed c.args.ty c.in_ok-m.m (z.follows.typed c.args.ty c.in_ok-m.m m.place)) in
    record { plain = refl; types = sel_types c.args.ty; from = code; ty = code; a = n.follows.typed ty.Bool c.in_ok-r.r r.place; b = there; c = n.place }
