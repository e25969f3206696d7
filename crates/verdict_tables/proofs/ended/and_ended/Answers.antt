use Rattle.std.proofs.Common.{true, false, sym, ◌∙◌, arith}
use Rattle.verdict_tables.proofs.Apart.{one_more_ended, no_more_ended}
use Rattle.verdict_tables.proofs.ended.and_ended.Goals as goal

pub endings-preserved : goal.endings-preserved
endings-preserved c =
    let i = c.endings.invariant in
    let more = one_more_ended c.args.n c.args.endings.now c.endings.i c.at.result true c.at.ensures (sym c.is_ended.ensures ∙ c.if-not-is_ended.false) in
    record { left = omega (arith, i.left, more); few = omega (arith, i.few) }

pub endings-preserved-then-not-is_ended : goal.endings-preserved-then-not-is_ended
endings-preserved-then-not-is_ended c =
    let i = c.endings.invariant in
    let more = one_more_ended c.args.n c.args.endings.now c.endings.i c.at.result false c.at.ensures (sym c.is_ended.ensures ∙ c.if-not-is_ended.true) in
    record { left = omega (arith, i.left, more); few = omega (arith, i.few) }

pub returns : goal.returns
returns c =
    let i = c.endings.invariant in
    let none = no_more_ended c.args.n c.args.endings.now c.endings.i (omega (arith, c.endings-test.false, c.len-i-end.ensures)) in
    record { count = omega (arith, i.left, none); few = omega (arith, i.few, c.endings.auto.i-end, c.len-i-end.ensures) }
