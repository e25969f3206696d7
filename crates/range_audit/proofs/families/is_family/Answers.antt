use Rattle.std.proofs.Common.{◌≡◌, ◌&&◌, true, length, sym, ap, subst, ◌∙◌}
use Rattle.std.proofs.lemmas.Bool.{and_parts}
use Rattle.op_graph.specs.GraphRun.{cycle, initial}
use Rattle.range_walk.specs.Intervals.{Hold}
use Rattle.range_audit.specs.Searching.{InBox}
use Rattle.range_audit.proofs.Boxed.{initial_loaded}
use Rattle.range_audit.proofs.Cycles.{whole_cycle, always}
use Rattle.range_audit.proofs.families.is_family.Goals as goal

pub returns : goal.returns
returns c = λ e.
    let g = c.args.graph.now in
    let boxes = c.args.boxes.now.list.items in
    let both : (c.is_in_one-begins.result && c.are_boxes_kept-kept.result) ≡ true = sym c.both_hold.ensures ∙ e in
    let parts = and_parts c.is_in_one-begins.result c.are_boxes_kept-kept.result both in
    let first = subst (λ rs. Hold rs (initial g)) (sym c.deref.ensures.value) (c.in-Ok.ensures.holds (initial g) (initial_loaded g)) in
    let begins = c.is_in_one-begins.ensures parts.0 (initial g) first in
    always g c.args.inputs.now (InBox boxes (length g.stores))
    (subst (λ n. InBox boxes n (initial g)) (ap length c.deref.ensures.value ∙ c.in-Ok.ensures.many) begins)
    (λ held row inside row_in stops.
    let is = whole_cycle g held row stops in
    c.are_boxes_kept-kept.ensures parts.1 inside.0 inside.1 inside.2 held row (cycle g held row).values inside.3 row_in is.0 is.1)
