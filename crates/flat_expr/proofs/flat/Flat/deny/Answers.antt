use Rattle.flat_expr.proofs.Ops.{comparison_of_two}
use Rattle.std.proofs.Common.{refl}
use Rattle.std.proofs.lemmas.Result.{IfOk-weaker, err_from_is_err_and}
use Rattle.flat_expr.proofs.Operators.{denied}
use Rattle.flat_expr.proofs.Refusals.{later_refuses, more_refuses}
use Rattle.std.proofs.Common.{subst, arith}
use Rattle.std.specs.Prelude.{IfErr}
use Rattle.flat_expr.specs.State.{Refuses}
use Rattle.flat_expr.proofs.flat.Flat.deny.Goals as goal

pub returns-clause-made : goal.returns-clause-made
returns-clause-made c =
    IfOk-weaker c.add-2.result _ _ (λ j p.
    denied c.args.self.now c.add.new.self c.add-2.new.self c.args.kind c.args.a c.args.b c.in_ok-r.r j c.args.spot c.requires.kind c.in_ok-r.ensures.made p) c.add-2.ensures.made

pub returns-clause-refuses : goal.returns-clause-refuses
returns-clause-refuses c = later_refuses c.args.self.now c.add.new.self c.add-2.new.self 1 1 c.add-2.result c.in_ok-r.ensures.made.follows
    c.in_ok-r.ensures.made.unread c.in_ok-r.ensures.made.count c.add-2.ensures.refuses

pub returns-in_err-r-clause-refuses : goal.returns-in_err-r-clause-refuses
returns-in_err-r-clause-refuses c =
    let q = err_from_is_err_and c.from_residual.result c.from_residual.ensures.1 in
    let h = more_refuses c.args.self.now c.add.new.self 1 2 c.add.result (omega arith) c.add.ensures.refuses in
    rw (q.1, q.2) (subst (λ r. IfErr r (λ e. Refuses c.args.self.now c.add.new.self 2 e)) c.in_err-r.was h)

-- ---- what the calls require

pub add-requires : goal.add-requires
add-requires c =
    let two = comparison_of_two c.args.kind c.args.ty c.requires.kind c.requires.types in
    let reads = two.reads c.args.self.now.graph.operations c.args.a c.args.b c.requires.a c.requires.b in
    record { plain = two.plain; types = two.types; from = c.requires.code; ty = refl; a = reads.0; b = reads.1; c = reads.2 }

pub add-requires-2 : goal.add-requires-2
add-requires-2 c = record { plain = refl; types = refl; from = refl; ty = refl; a = c.in_ok-r.ensures.made.place; b = refl; c = refl }
