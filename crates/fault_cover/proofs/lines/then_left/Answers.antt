use Rattle.std.proofs.Common.{◌≤◌, flat_map, length, ap, sym, arith}
use Rattle.std.proofs.lemmas.List.{take_all}
use Rattle.fault_cover.specs.Leftovers.{line_text}
use Rattle.fault_cover.proofs.Going.{taken_more}
use Rattle.vcp_outside.specs.Pens.{unmoved, and_then, same}
use Rattle.fault_cover.proofs.lines.then_left.Goals as goal

pub lines-init : goal.lines-init
lines-init g c = unmoved

pub lines-preserved : goal.lines-preserved
lines-preserved g c =
    same (and_then c.lines.invariant c.then_left_line-pen.ensures)
    (sym (taken_more (line_text c.args.graph.now) c.args.lines.now c.lines.i c.item-left.result c.item-left.ensures))

pub returns : goal.returns
returns g c =
    let past : length c.args.lines.now ≤ c.lines.i = omega (arith, c.lines-test.false) in
    same c.lines.invariant (ap (flat_map (line_text c.args.graph.now)) (sym (take_all c.lines.i c.args.lines.now past)))
