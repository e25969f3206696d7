use Rattle.vcp_base.specs.declared.ty.Ty.TheVariants as ty
use Rattle.flat_expr.specs.State.{IsPlace}
use Rattle.flat_expr.proofs.Operators.{int_as}
use Rattle.flat_expr.proofs.Codes.{still}
use Rattle.flat_expr.proofs.Ops.{sel_types}
use Rattle.std.proofs.Common.{refl}
use Rattle.std.proofs.Common.{◌≡◌, Some, sym, ap, ◌∙◌, subst, arith}
use Rattle.std.proofs.lemmas.Result.{IfOk-weaker, err_from_is_err_and}
use Rattle.flat_expr.specs.State.{State, Refuses}
use Rattle.flat_expr.proofs.Operators.{masked}
use Rattle.flat_expr.proofs.Refusals.{later_refuses, more_refuses}
use Rattle.std.specs.Prelude.{IfErr}
use Rattle.flat_expr.proofs.flat.Flat.mask.Goals as goal

pub returns-clause-made : goal.returns-clause-made
returns-clause-made c =
    let path : c.args.self.now.path ≡ Some c.in-Some.path = sym (ap (λ (s : State). s.path) c.self.view_is) ∙ c.in-Some.is in
    IfOk-weaker c.add.result _ _ (λ j p.
    masked c.args.self.now c.neutral.new.self c.add.new.self c.args.ty c.args.one c.in-Some.path c.in_ok-other.other c.args.k j c.args.spot c.requires.number path c.requires.there c.in_ok-other.ensures.made p) c.add.ensures.made

pub returns-clause-refuses : goal.returns-clause-refuses
returns-clause-refuses c = later_refuses c.args.self.now c.neutral.new.self c.add.new.self 0 1 c.add.result c.in_ok-other.ensures.made.follows
    c.in_ok-other.ensures.made.unread c.in_ok-other.ensures.made.count c.add.ensures.refuses

pub returns-in_err-other-clause-refuses : goal.returns-in_err-other-clause-refuses
returns-in_err-other-clause-refuses c =
    let q = err_from_is_err_and c.from_residual.result c.from_residual.ensures.1 in
    let h = more_refuses c.args.self.now c.neutral.new.self 0 1 c.neutral.result (omega arith) c.neutral.ensures.refuses in
    rw (q.1, q.2) (subst (λ r. IfErr r (λ e. Refuses c.args.self.now c.neutral.new.self 1 e)) c.in_err-other.was h)

pub add-requires : goal.add-requires
add-requires c =
    let path : c.args.self.now.path ≡ Some c.in-Some.path = sym (ap (λ (s : State). s.path) c.self.view_is) ∙ c.in-Some.is in
    let other = c.in_ok-other.ensures.made in
    let f = other.follows in
    let code = still _ _ c.args.ty f.profile c.requires.code in
    let there = f.typed ty.Bool c.in-Some.path (subst (IsPlace ty.Bool c.args.self.now.graph.operations) path f.before.path) in record { plain = refl; types = sel_types c.args.ty; from = code; ty = code; a = there; b = int_as c.args.ty c.neutral.new.self.graph.operations c.in_ok-other.other c.requires.number other.place; c = f.typed c.args.ty c.args.k c.requires.there }
