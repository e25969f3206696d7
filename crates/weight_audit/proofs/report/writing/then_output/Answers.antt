use Rattle.std.proofs.Common.{◌≡◌, ◌+◌, ◌++◌, add-one, refl, arith}
use Rattle.std.proofs.lemmas.List.{append-nil}
use Rattle.weight_audit.specs.AuditText.{distance_text, distances_below}
use Rattle.weight_audit.proofs.Joined.{as-one}
use Rattle.weight_audit.proofs.report.writing.then_output.Goals as goal

pub distances-init : goal.distances-init
distances-init g c start before text written = rw (append-nil text) written

pub distances-preserved : goal.distances-preserved
distances-preserved g c start before text written =
    let graph = c.args.graph.now in
    let weights = c.args.weights.now in
    let after = c.distances.after in
    let further : distances_below graph weights c.args.output (after + 1)
    ≡ distances_below graph weights c.args.output after ++ distance_text graph weights c.args.output after = rw (add-one after) refl in
    as-one text _ _ _ further (c.then_distance-so_far.ensures start before _ (c.distances.invariant start before text written))

pub returns : goal.returns
returns g c start before text written =
    let all : c.distances.after ≡ c.args.distances = omega (arith, c.distances-test.false, c.distances.auto.after-end) in
    rw all at (c.distances.invariant start before text written)
