use Rattle.std.proofs.Common.{rules, ◌≡◌, IsTrue, false, sym, ap, refl}
use Rattle.st_tree.proofs.Pointwise.{always, never, all-before, at-one-more, at-place, moved}
use Rattle.st_tree.proofs.SameExprs.{bare_of, exprs-by-each, exprs-length, exprs-each, bare-call, same-call, other-call, bare-unary, same-unary, other-unary}
use Rattle.st_tree.proofs.SameExprs.{bare-binary, same-binary, other-left, other-operator, not-unary, not-binary}
use Rattle.st_tree.proofs.same_expr.+same_expr.Goals as goal

pub same_expr-returns-in-Call : goal.same_expr-returns-in-Call
same_expr-returns-in-Call t c =
    moved _ _ _ _ (sym (bare-call _ _ _ _ _ c.in-Call.is c.deref-in-Call.ensures.value)) c.is_call.ensures

pub is_call-returns-then-same_text : goal.is_call-returns-then-same_text
is_call-returns-then-same_text t c =
    same-call _ _ _ _ _ _ (c.same_text.ensures.0 c.if-same_text.true) c.same_exprs.ensures
    (bare-call _ _ _ _ _ c.in-Call.is c.deref.ensures.value)

pub same_exprs-returns-then-a-b : goal.same_exprs-returns-then-a-b
same_exprs-returns-then-a-b t c = never (λ e. absurd (c.if-a-b.true (exprs-length _ _ e)))

pub same_exprs-returns-then-not-same_expr : goal.same_exprs-returns-then-not-same_expr
same_exprs-returns-then-not-same_expr t c =
    never (λ e. c.if-not-same_expr.ensures.1
    (at-place bare_of c.args.a.now c.args.b.now c.loop-i.i _ _ c.loop-i-test.true c.if-a-b.false c.index-a-i.is c.index-b-i.is
    (exprs-each _ _ e c.loop-i.i c.index-a-i.result c.loop-i-test.true)))

pub same_exprs-loop-i-preserved : goal.same_exprs-loop-i-preserved
same_exprs-loop-i-preserved t c =
    at-one-more bare_of c.args.a.now c.args.b.now c.loop-i.i _ _ c.loop-i-test.true c.if-a-b.false c.index-a-i.is c.index-b-i.is
    (c.if-not-same_expr.ensures.0 refl) c.loop-i.invariant

pub same_exprs-returns : goal.same_exprs-returns
same_exprs-returns t c =
    always (exprs-by-each c.args.a.now c.args.b.now c.if-a-b.false
    (all-before bare_of _ _ c.loop-i.i c.loop-i-test.false c.loop-i.invariant))

pub same_expr-returns-in-Name : goal.same_expr-returns-in-Name
same_expr-returns-in-Name t c = moved _ _ _ _ (sym (ap bare_of c.in-Name.is)) c.is_name.ensures

pub same_expr-returns-in-Unary : goal.same_expr-returns-in-Unary
same_expr-returns-in-Unary t c = moved _ _ _ _ (sym (bare-unary _ _ _ _ _ c.in-Unary.is c.deref.ensures)) c.is_unary.ensures

pub same_expr-returns-in-Binary : goal.same_expr-returns-in-Binary
same_expr-returns-in-Binary t c =
    moved _ _ _ _ (sym (bare-binary _ _ _ _ _ _ _ c.in-Binary.is c.deref-in-Binary.ensures c.deref-in-Binary-2.ensures)) c.is_binary.ensures

pub is_unary-returns-then-eq : goal.is_unary-returns-then-eq
is_unary-returns-then-eq t c =
    let same : c.in-Unary.its_op ≡ c.args.op = search rules in
    same-unary _ _ _ _ _ _ same c.same_expr.ensures (bare-unary _ _ _ _ _ c.in-Unary.is c.deref.ensures)

pub is_unary-returns-else-eq : goal.is_unary-returns-else-eq
is_unary-returns-else-eq t c =
    let other : c.in-Unary.its_op ≡ c.args.op → IsTrue c.eq.result = λ e. search rules in
    other-unary _ _ _ _ _ _ c.if-eq.false other (bare-unary _ _ _ _ _ c.in-Unary.is refl)

pub is_unary-returns-in_default : goal.is_unary-returns-in_default
is_unary-returns-in_default t c = not-unary _ _ _ c.in_default.not-Unary

pub is_binary-returns-then-ne : goal.is_binary-returns-then-ne
is_binary-returns-then-ne t c =
    let other : c.in-Binary.its_op ≡ c.args.op → IsTrue false = λ e. search rules in
    other-operator _ _ _ _ _ _ _ other (bare-binary _ _ _ _ _ _ _ c.in-Binary.is refl refl)

pub is_binary-returns-then-same_expr : goal.is_binary-returns-then-same_expr
is_binary-returns-then-same_expr t c =
    let same : c.in-Binary.its_op ≡ c.args.op = search rules in
    same-binary _ _ _ _ _ _ _ _ same (c.same_expr.ensures.0 c.if-same_expr.true) c.same_expr-then-same_expr.ensures
    (bare-binary _ _ _ _ _ _ _ c.in-Binary.is c.deref.ensures c.deref-then-same_expr.ensures)

pub is_binary-returns-else-same_expr : goal.is_binary-returns-else-same_expr
is_binary-returns-else-same_expr t c =
    other-left _ _ _ _ _ _ _ _ c.if-same_expr.false c.same_expr.ensures
    (bare-binary _ _ _ _ _ _ _ c.in-Binary.is c.deref.ensures refl)

pub is_binary-returns-in_default : goal.is_binary-returns-in_default
is_binary-returns-in_default t c = not-binary _ _ _ _ c.in_default.not-Binary

pub is_call-returns-else-same_text : goal.is_call-returns-else-same_text
is_call-returns-else-same_text t c =
    other-call _ _ _ _ _ _ c.if-same_text.false c.same_text.ensures (bare-call _ _ _ _ _ c.in-Call.is refl)
