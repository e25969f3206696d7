use Rattle.std.proofs.Common.{refl, sym, ap, ◌∙◌, arith, drop, ◌+◌}
use Rattle.fault_injector.specs.declared.lines.Totals.{Totals}
use Rattle.fault_injector.specs.FaultLines.{totals_after}
use Rattle.verdict_tables.specs.declared.parts.Part.{Part}
use Rattle.verdict_tables.specs.Parts.{IsWhole, picked_over}
use Rattle.verdict_tables.specs.Tables.{picked}
use Rattle.verdict_tables.proofs.Picking.{at_place}
use Rattle.verdict_tables.proofs.PartByPart.{one_part, none_left}
use Rattle.verdict_tables.proofs.counts.totals_over.Goals as goal

pub parts-init : goal.parts-init
parts-init c = record { left = rw c.new-totals.ensures refl; few = rw c.new-totals.ensures (omega arith) }

pub and_row-totals-requires-clause-many : goal.and_row-totals-requires-clause-many
and_row-totals-requires-clause-many c = (at_place IsWhole c.args.parts.now c.parts.k c.at-part.result.now c.at-part.ensures c.requires.whole).many

pub and_row-totals-requires-clause-few : goal.and_row-totals-requires-clause-few
and_row-totals-requires-clause-few c =
    let here = (at_place IsWhole c.args.parts.now c.parts.k c.at-part.result.now c.at-part.ensures c.requires.whole).few in
    omega (arith, here, c.parts.invariant.few, c.parts-test.true, c.len-k-end.ensures, c.requires.few)

pub parts-preserved : goal.parts-preserved
parts-preserved c =
    let here = (at_place IsWhole c.args.parts.now c.parts.k c.at-part.result.now c.at-part.ensures c.requires.whole).few in
    record {
      left =
          c.parts.invariant.left
          ∙ one_part (λ (p : Part). picked c.args.table c.args.n p.script p.verdicts) c.args.parts.now c.parts.k c.at-part.result.now c.parts.totals
          c.at-part.ensures
          ∙ ap (λ (t : Totals). totals_after t (picked_over c.args.table c.args.n (drop (c.parts.k + 1) c.args.parts.now)))
          (sym c.and_row-totals.ensures.totals);
      few = omega (arith, here, c.parts.invariant.few, c.and_row-totals.ensures.few);
    }

pub returns : goal.returns
returns c =
    sym (c.parts.invariant.left
    ∙ none_left (λ (p : Part). picked c.args.table c.args.n p.script p.verdicts) c.args.parts.now c.parts.k c.parts.totals
    (omega (arith, c.parts-test.false, c.len-k-end.ensures)))
