use Rattle.flat_expr.proofs.Codes.{still}
use Rattle.flat_expr.proofs.Ops.{arithmetic_of_two}
use Rattle.std.proofs.Common.{◌∙◌}
use Rattle.std.proofs.Common.{◌+◌, subst, arith}
use Rattle.std.proofs.lemmas.Result.{IfOk-weaker}
use Rattle.flat_expr.proofs.Operators.{calculated}
use Rattle.std.specs.Prelude.{IfErr}
use Rattle.std.proofs.lemmas.Result.{err_from_is_err_and}
use Rattle.flat_expr.specs.State.{Refuses}
use Rattle.flat_expr.proofs.Refusals.{later_refuses, more_refuses}
use Rattle.flat_expr.proofs.flat.Flat.calculate.Goals as goal

pub returns-clause-made : goal.returns-clause-made
returns-clause-made c =
    IfOk-weaker c.add.result _ _ (λ j p.
    calculated c.args.self.now c.mask.new.self c.mask-2.new.self c.add.new.self c.args.kind c.args.ty c.args.one c.args.a c.args.b c.in_ok-first.first c.in_ok-second.second j c.args.spot c.requires.kind c.requires.one c.requires.number c.requires.a c.requires.b c.in_ok-first.ensures.made c.in_ok-second.ensures.made p) c.add.ensures.made

pub returns-in_err-second-clause-refuses : goal.returns-in_err-second-clause-refuses
returns-in_err-second-clause-refuses c =
    let q = err_from_is_err_and c.from_residual-in_err-second.result c.from_residual-in_err-second.ensures.1 in
    let h = more_refuses c.args.self.now c.mask-2.new.self (1 + 1) 3 c.mask-2.result (omega arith)
    (later_refuses c.args.self.now c.mask.new.self c.mask-2.new.self 1 1 c.mask-2.result c.in_ok-first.ensures.made.follows
    c.in_ok-first.ensures.made.unread c.in_ok-first.ensures.made.count c.mask-2.ensures.refuses) in
    rw (q.1, q.2) (subst (λ r. IfErr r (λ e. Refuses c.args.self.now c.mask-2.new.self 3 e)) c.in_err-second.was h)

pub returns-clause-refuses : goal.returns-clause-refuses
returns-clause-refuses c =
    later_refuses c.args.self.now c.mask.new.self c.add.new.self 1
    (1 + 1) c.add.result c.in_ok-first.ensures.made.follows c.in_ok-first.ensures.made.unread c.in_ok-first.ensures.made.count
    (later_refuses c.mask.new.self c.mask-2.new.self c.add.new.self 1 1 c.add.result c.in_ok-second.ensures.made.follows c.in_ok-second.ensures.made.unread
    c.in_ok-second.ensures.made.count c.add.ensures.refuses)

pub returns-in_err-first-clause-refuses : goal.returns-in_err-first-clause-refuses
returns-in_err-first-clause-refuses c =
    let q = err_from_is_err_and c.from_residual.result c.from_residual.ensures.1 in
    let h = more_refuses c.args.self.now c.mask.new.self 1 3 c.mask.result (omega arith) c.mask.ensures.refuses in
    rw (q.1, q.2) (subst (λ r. IfErr r (λ e. Refuses c.args.self.now c.mask.new.self 3 e)) c.in_err-first.was h)

-- ---- what the calls require

pub mask-requires : goal.mask-requires
mask-requires c = record { there = c.requires.a; number = c.requires.number; code = c.requires.code }

pub mask-requires-2 : goal.mask-requires-2
mask-requires-2 c =
    let f = c.in_ok-first.ensures.made.follows in
    record { there = f.typed c.args.ty c.args.b c.requires.b; number = c.requires.number; code = still _ _ c.args.ty f.profile c.requires.code }

pub add-requires : goal.add-requires
add-requires c =
    let first = c.in_ok-first.ensures.made in
    let second = c.in_ok-second.ensures.made in
    let two = arithmetic_of_two c.args.kind c.args.ty c.requires.kind c.requires.number in
    let code = still _ _ c.args.ty (second.follows.profile ∙ first.follows.profile) c.requires.code in
    let reads = two.reads c.mask-2.new.self.graph.operations c.in_ok-first.first c.in_ok-second.second
    (second.follows.typed c.args.ty c.in_ok-first.first first.place) second.place in
    record { plain = two.plain; types = two.types; from = code; ty = code; a = reads.0; b = reads.1; c = reads.2 }
