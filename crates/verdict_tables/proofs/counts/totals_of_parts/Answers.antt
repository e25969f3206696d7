use Rattle.std.proofs.Common.{refl, sym, ap, ◌∙◌, arith, drop, ◌+◌}
use Rattle.fault_injector.specs.declared.lines.Totals.{Totals}
use Rattle.fault_injector.specs.FaultLines.{totals_after}
use Rattle.verdict_tables.specs.declared.parts.Part.{Part}
use Rattle.verdict_tables.specs.Parts.{IsWhole, all_verdicts}
use Rattle.verdict_tables.proofs.Picking.{at_place}
use Rattle.verdict_tables.proofs.PartByPart.{one_part, none_left}
use Rattle.verdict_tables.proofs.counts.totals_of_parts.Goals as goal

pub parts-init : goal.parts-init
parts-init c = record { left = rw c.new-totals.ensures refl; few = rw c.new-totals.ensures (omega arith) }

pub and_all-totals-requires : goal.and_all-totals-requires
and_all-totals-requires c =
    let here = at_place IsWhole c.args.parts.now c.parts.k c.at.result.now c.at.ensures c.requires.whole in
    omega (arith, here.many, here.few, c.parts.invariant.few, c.parts-test.true, c.len-k-end.ensures, c.requires.few)

pub parts-preserved : goal.parts-preserved
parts-preserved c =
    let here = at_place IsWhole c.args.parts.now c.parts.k c.at.result.now c.at.ensures c.requires.whole in
    record {
      left =
          c.parts.invariant.left
          ∙ one_part (λ (p : Part). p.verdicts) c.args.parts.now c.parts.k c.at.result.now c.parts.totals c.at.ensures
          ∙ ap (λ (t : Totals). totals_after t (all_verdicts (drop (c.parts.k + 1) c.args.parts.now))) (sym c.and_all-totals.ensures.totals);
      few = omega (arith, here.many, here.few, c.parts.invariant.few, c.and_all-totals.ensures.few);
    }

pub returns : goal.returns
returns c =
    sym (c.parts.invariant.left
    ∙ none_left (λ (p : Part). p.verdicts) c.args.parts.now c.parts.k c.parts.totals (omega (arith, c.parts-test.false, c.len-k-end.ensures)))
