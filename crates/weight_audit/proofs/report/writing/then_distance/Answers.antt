use Rattle.std.proofs.Common.{◌≡◌, ◌++◌, length, refl}
use Rattle.weight_audit.specs.AuditLines.{reached_text}
use Rattle.weight_audit.specs.AuditText.{is_blind, lines_below, distance_text}
use Rattle.weight_audit.proofs.Joined.{as-one}
use Rattle.weight_audit.proofs.report.writing.then_distance.Goals as goal

pub returns : goal.returns
returns g c start before text written =
    let graph = c.args.graph.now in
    let weights = c.args.weights.now in
    let told = reached_text c.output_name.result.now c.args.after c.count_reached-reached.result c.count_blind-blind.result in
    let lines = lines_below (is_blind weights c.args.output c.args.after) graph (length graph.operations) in
    let both : distance_text graph weights c.args.output c.args.after ≡ told ++ lines =
    rw (c.output_name.ensures, c.count_reached-reached.ensures, c.count_blind-blind.ensures, c.len-count.ensures.count) refl in
    as-one text told lines _ both (c.then_blind_ones.ensures start before _ (c.then_reached-told.ensures start before text written))
