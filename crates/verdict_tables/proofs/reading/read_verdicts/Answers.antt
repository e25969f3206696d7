use Rattle.std.proofs.Common.{◌≡◌, ◌+◌, ◌∷◌, ◌++◌, [], length, length-append, refl, ◌∙◌, arith}
use Rattle.std.specs.Str.Lines.{lines}
use Rattle.std.proofs.lemmas.List.Elements.{All-nil, All-push}
use Rattle.fault_script.specs.Groups.{GroupFits}
use Rattle.fault_injector.specs.Names.{Names}
use Rattle.verdict_tables.specs.Reading.{verdicts_in}
use Rattle.verdict_tables.proofs.LinesRead.{begun, one_read, one_refused, all_read, end_refused}
use Rattle.verdict_tables.proofs.Picking.{at_place, one_counted}
use Rattle.verdict_tables.proofs.Printed.{printed}
use Rattle.verdict_tables.proofs.reading.read_verdicts.Goals as goal

pub groups-init : goal.groups-init
groups-init c = record {
  left = begun c.args.graph.now c.args.script.now c.args.text.now _ _ c.new-verdicts.ensures c.new-totals.ensures;
  counted = rw c.new-totals.ensures refl;
  names = rw c.new-verdicts.ensures (All-nil _);
  many = rw c.new-verdicts.ensures refl;
}

pub line-at-requires : goal.line-at-requires
line-at-requires c = (at_place (GroupFits c.args.graph.now) c.args.script.now c.groups.i c.at.result.now c.at.ensures c.requires.fits).some

pub groups-preserved : goal.groups-preserved
groups-preserved c =
    let g = c.args.graph.now in
    let more : length (c.groups.verdicts ++ c.in-Ok.verdict ∷ []) ≡ length c.groups.verdicts + 1 = simp length-append refl in
    rw (c.count.ensures, c.in-Ok-push.ensures.ok)
    (record {
      left =
          one_read g c.args.script.now (verdicts_in g c.args.script.now c.args.text.now) c.groups.verdicts c.groups.totals c.groups.i (lines c.groups.rest.now)
          c.groups.invariant.left c.at.result.now c.at.ensures c.in-Ok.verdict (lines c.in-Ok.more.now) (rw c.line-at.ensures at c.in-Ok.ensures.ok);
      counted = omega (arith, one_counted c.groups.totals c.in-Ok.verdict, c.groups.invariant.counted);
      names =
          All-push (Names (length g.outputs) (length g.operations)) c.groups.verdicts c.in-Ok.verdict c.groups.invariant.names c.in-Ok.ensures.names;
      many = omega (arith, more, c.groups.invariant.many);
    })

pub returns-in-Err-push : goal.returns-in-Err-push
returns-in-Err-push c = record { verdicts = tt; refusal = λ other. absurd (other refl); names = tt; many = tt; printed = tt }

pub returns-in-Err : goal.returns-in-Err
returns-in-Err c = record {
  verdicts = tt;
  refusal = λ other.
      let g = c.args.graph.now in
      one_refused g c.args.script.now (verdicts_in g c.args.script.now c.args.text.now) c.groups.verdicts c.groups.totals c.groups.i (lines c.groups.rest.now)
      c.groups.invariant.left c.at.result.now c.at.ensures c.in-Err.why (rw c.line-at.ensures at (c.in-Err.ensures.refusal other));
  names = tt;
  many = tt;
  printed = tt;
}

pub returns-in-Ok-end : goal.returns-in-Ok-end
returns-in-Ok-end c =
    let g = c.args.graph.now in
    let all : c.groups.i ≡ length c.args.script.now = omega (arith, c.groups-test.false, c.groups.auto.i-end, c.len-i-end.ensures) in
    let read =
    all_read g c.args.script.now (verdicts_in g c.args.script.now c.args.text.now) c.groups.verdicts c.groups.totals c.groups.i (lines c.groups.rest.now)
    c.groups.invariant.left all _ (omega (arith, all, c.len.ensures)) c.in-Ok-end.ensures.ok in
    record {
      verdicts = read;
      refusal = tt;
      names = c.groups.invariant.names;
      many = c.groups.invariant.many ∙ all;
      printed = printed g c.args.script.now c.args.text.now c.groups.verdicts read;
    }

pub returns-in-Err-end : goal.returns-in-Err-end
returns-in-Err-end c =
    let g = c.args.graph.now in
    let all : c.groups.i ≡ length c.args.script.now = omega (arith, c.groups-test.false, c.groups.auto.i-end, c.len-i-end.ensures) in
    record {
      verdicts = tt;
      refusal = λ other.
          end_refused g c.args.script.now (verdicts_in g c.args.script.now c.args.text.now) c.groups.verdicts c.groups.totals c.groups.i
          (lines c.groups.rest.now) c.groups.invariant.left all _ (omega (arith, all, c.len.ensures)) c.in-Err-end.why (c.in-Err-end.ensures.refusal other);
      names = tt;
      many = tt;
      printed = tt;
    }
