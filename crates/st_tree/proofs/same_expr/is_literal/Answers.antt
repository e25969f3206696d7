use Rattle.std.proofs.Common.{rules, SFits, w64, ap}
use Rattle.st_tree.proofs.SameExprs.{bare_of, same-number, types-same, same-types, same-literal, other-literal, not-literal}
use Rattle.st_tree.proofs.same_expr.is_literal.Goals as goal

pub returns-then-eq : goal.returns-then-eq
returns-then-eq c =
    let same = types-same c.eq.result c.in-Lit.its_ty c.args.ty c.eq.ensures c.if-eq.true in
    let fits : SFits w64 c.in-Lit.its_value = search rules in
    same-literal _ _ _ _ _ _ same (same-number c.in-Lit.its_value c.args.value fits c.ranges.value) (ap bare_of c.in-Lit.is)

pub returns-else-eq : goal.returns-else-eq
returns-else-eq c =
    other-literal _ _ _ c.in-Lit.its_value c.args.value _ c.if-eq.false (same-types c.eq.result c.in-Lit.its_ty c.args.ty c.eq.ensures) (ap bare_of c.in-Lit.is)

pub returns-in_default : goal.returns-in_default
returns-in_default c = not-literal _ _ _ c.in_default.not-Lit
