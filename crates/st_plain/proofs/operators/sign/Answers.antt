use Rattle.std.proofs.Common.{[], Ok, ap, sym, ◌∙◌}
use Rattle.st_tree.specs.declared.expr.UnOp.{UnOp}
use Rattle.vcp_typed.specs.Meaning.{sign}
use Rattle.st_plain.proofs.Wide.{in-range, widens, negated-within, negated-is, inverted-within, inverted-is}
use Rattle.st_plain.proofs.operators.sign.Goals as goal

pub overflow_cast-a : goal.overflow_cast-a
overflow_cast-a c = widens c.args.a c.ranges.a

pub overflow_sub-a : goal.overflow_sub-a
overflow_sub-a c = negated-within c.args.a c.ranges.a

pub overflow_sub-result : goal.overflow_sub-result
overflow_sub-result c = inverted-within c.args.a c.ranges.a (c.requires c.in-Not.is)

pub returns-in-Neg : goal.returns-in-Neg
returns-in-Neg c =
    in-range c.args.ty c.args.spot c.in_range.result _ _ c.in_range.ensures (negated-is c.args.a c.ranges.a)
    ∙ ap (λ (op : UnOp). sign op c.args.ty c.args.spot [] c.args.a) (sym c.in-Neg.is)

pub returns-in-Not : goal.returns-in-Not
returns-in-Not c =
    ap (λ v. Ok v) (inverted-is c.args.a c.ranges.a (c.requires c.in-Not.is))
    ∙ ap (λ (op : UnOp). sign op c.args.ty c.args.spot [] c.args.a) (sym c.in-Not.is)
