use Rattle.std.proofs.Common.{true, false, refl, sym, ◌∙◌, arith}
use Rattle.verdict_tables.proofs.Picking.{one_counted, one_picked, none_picked}
use Rattle.verdict_tables.proofs.counts.and_row.Goals as goal

pub groups-init : goal.groups-init
groups-init c = record { left = refl; few = omega arith }

pub groups-preserved : goal.groups-preserved
groups-preserved c =
    rw c.count.ensures
    (record {
      left =
          c.groups.invariant.left
          ∙ one_picked c.args.table c.args.n c.args.script.now c.args.verdicts.now c.groups.i c.at.result.now c.at-verdict.result c.groups.totals true
          c.at.ensures c.at-verdict.ensures (sym c.is_in.ensures ∙ c.if-not-is_in.false);
      few = omega (arith, one_counted c.groups.totals c.at-verdict.result, c.groups.invariant.few);
    })

pub groups-preserved-then-not-is_in : goal.groups-preserved-then-not-is_in
groups-preserved-then-not-is_in c = record {
  left =
      c.groups.invariant.left
      ∙ one_picked c.args.table c.args.n c.args.script.now c.args.verdicts.now c.groups.i c.at.result.now c.at-verdict.result c.groups.totals false
      c.at.ensures c.at-verdict.ensures (sym c.is_in.ensures ∙ c.if-not-is_in.true);
  few = omega (arith, c.groups.invariant.few);
}

pub returns : goal.returns
returns c = record {
  totals =
      sym (c.groups.invariant.left
      ∙ none_picked c.args.table c.args.n c.args.script.now c.args.verdicts.now c.groups.i c.groups.totals
      (omega (arith, c.groups-test.false, c.len-i-end.ensures)));
  few = omega (arith, c.groups.invariant.few, c.groups.auto.i-end, c.len-i-end.ensures);
}
