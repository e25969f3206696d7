use Rattle.std.proofs.Common.{◌≡◌, ◌<◌, length, refl, arith, ◌∙◌}
use Rattle.fault_sites.specs.Sites.{has_acts, sites_in}
use Rattle.fault_sites.proofs.Counting.{has_some, in_many}
use Rattle.fault_sites.proofs.Going.{passed_over, tells_same}
use Rattle.fault_sites.proofs.Rows.{class_sites}
use Rattle.fault_sites.proofs.writing.then_cycle_or_pass.Goals as goal

pub returns-then-count-part : goal.returns-then-count-part
returns-then-count-part g c =
    let many : c.count_cycle-count.result ≡ length (sites_in c.args.class c.args.graph.now c.args.n) =
    c.count_cycle-count.ensures ∙ in_many c.args.class c.args.graph.now c.args.n c.args.size c.requires in
    passed_over (sites_in c.args.class c.args.graph.now c.args.n) (omega arith) (omega (arith, many)) (omega (arith, many)) refl

pub returns : goal.returns
returns g c =
    let some : 0 < c.count_cycle-count.result = omega (arith, c.if-count-part.false) in
    let has = has_some (has_acts c.args.class c.args.n) c.args.size (rw c.count_cycle-count.ensures at some) in
    tells_same c.then_acts.ensures (class_sites c.args.class c.args.graph.now c.args.n has)
