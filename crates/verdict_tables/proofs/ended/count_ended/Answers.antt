use Rattle.std.proofs.Common.{List, Option, ◌≤◌, length, arith}
use Rattle.fault_script.specs.ScriptOf.{most_faults}
use Rattle.verdict_tables.specs.declared.endless.ending.SameEnding.{SameEnding}
use Rattle.verdict_tables.proofs.Picking.{at_place}
use Rattle.verdict_tables.proofs.PartByPart.{one_part_ended, none_ended_left}
use Rattle.verdict_tables.proofs.ended.count_ended.Goals as goal

pub parts-init : goal.parts-init
parts-init c = record { left = omega arith; few = omega arith }

pub and_ended-count-requires : goal.and_ended-count-requires
and_ended-count-requires c =
    let here =
    at_place (λ (es : List (Option SameEnding)). length es ≤ most_faults) c.args.endings.now c.parts.k c.at.result.now c.at.ensures c.requires.each in
    omega (arith, here, c.parts.invariant.few, c.parts-test.true, c.len-k-end.ensures, c.requires.few)

pub parts-preserved : goal.parts-preserved
parts-preserved c =
    let here =
    at_place (λ (es : List (Option SameEnding)). length es ≤ most_faults) c.args.endings.now c.parts.k c.at.result.now c.at.ensures c.requires.each in
    let i = c.parts.invariant in
    let more = one_part_ended c.args.n c.args.endings.now c.parts.k c.at.result.now c.at.ensures in
    record {
      left = omega (arith, i.left, more, c.and_ended-count.ensures.count);
      few = omega (arith, here, i.few, c.and_ended-count.ensures.few);
    }

pub returns : goal.returns
returns c =
    let none = none_ended_left c.args.n c.args.endings.now c.parts.k (omega (arith, c.parts-test.false, c.len-k-end.ensures)) in
    omega (arith, c.parts.invariant.left, none)
