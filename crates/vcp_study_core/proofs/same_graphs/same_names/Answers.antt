use Rattle.std.proofs.lemmas.Slice.Eq.{bytes_eq-Decides}
use Rattle.vcp_study_core.proofs.Comparing.{and_next, not_false, whole}
use Rattle.vcp_study_core.proofs.same_graphs.same_names.Goals as goal

pub returns : goal.returns
returns c same = whole c.args.a.now c.args.b.now c.loop-i.i c.loop-i-test.false c.if-a-b.false c.loop-i.invariant

pub loop-i-preserved : goal.loop-i-preserved
loop-i-preserved c =
    let x = c.bytes.result.now in
    let y = c.bytes-in-loop-i.result.now in
    let same = (bytes_eq-Decides x y).0 (not_false _ c.ne.result c.ne.ensures c.if-ne.false) in
    and_next c.args.a.now c.args.b.now c.loop-i.i c.index-a-i.result c.index-b-i.result c.loop-i-test.true c.if-a-b.false c.loop-i.invariant
    c.index-a-i.is c.index-b-i.is (rw (c.bytes.ensures, c.bytes-in-loop-i.ensures) at same)
