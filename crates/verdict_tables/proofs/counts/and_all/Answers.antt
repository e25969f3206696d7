use Rattle.std.proofs.Common.{refl, sym, ◌∙◌, arith}
use Rattle.verdict_tables.proofs.Picking.{one_of_all, none_of_all, one_counted}
use Rattle.verdict_tables.proofs.counts.and_all.Goals as goal

pub verdicts-init : goal.verdicts-init
verdicts-init c = record { left = refl; few = omega arith }

pub verdicts-preserved : goal.verdicts-preserved
verdicts-preserved c =
    rw c.count.ensures
    (record {
      left = c.verdicts.invariant.left ∙ one_of_all c.args.verdicts.now c.verdicts.i c.at.result c.verdicts.totals c.at.ensures;
      few = omega (arith, one_counted c.verdicts.totals c.at.result, c.verdicts.invariant.few);
    })

pub returns : goal.returns
returns c = record {
  totals = sym (c.verdicts.invariant.left
      ∙ none_of_all c.args.verdicts.now c.verdicts.i c.verdicts.totals (omega (arith, c.verdicts-test.false, c.len-i-end.ensures)));
  few = omega (arith, c.verdicts.invariant.few, c.verdicts.auto.i-end, c.len-i-end.ensures);
}
