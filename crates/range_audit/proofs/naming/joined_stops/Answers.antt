use Rattle.std.proofs.Common.{◌&&◌, ◌||◌, cond, ap, sym, ◌∙◌}
use Rattle.range_audit.proofs.Joined.{joined_stops_is}
use Rattle.range_audit.proofs.naming.joined_stops.Goals as goal

pub returns-then-both : goal.returns-then-both
returns-then-both c =
    let a = c.args.a in
    let b = c.args.b in
    joined_stops_is c.args.both a b _
    (c.both_hold-range.ensures ∙ sym (ap (λ t. cond t (a.range && b.range) (a.range || b.range)) c.if-both.true))
    (c.both_hold-div_zero.ensures ∙ sym (ap (λ t. cond t (a.div_zero && b.div_zero) (a.div_zero || b.div_zero)) c.if-both.true))

pub returns : goal.returns
returns c =
    let a = c.args.a in
    let b = c.args.b in
    joined_stops_is c.args.both a b _
    (c.either_holds-range.ensures ∙ sym (ap (λ t. cond t (a.range && b.range) (a.range || b.range)) c.if-both.false))
    (c.either_holds-div_zero.ensures ∙ sym (ap (λ t. cond t (a.div_zero && b.div_zero) (a.div_zero || b.div_zero)) c.if-both.false))
