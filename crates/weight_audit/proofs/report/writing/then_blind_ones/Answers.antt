use Rattle.std.proofs.Common.{◌≡◌, ◌+◌, ◌++◌, length, add-one, refl, arith}
use Rattle.std.proofs.lemmas.List.{append-nil}
use Rattle.weight_audit.specs.AuditText.{is_blind, line_if, lines_below}
use Rattle.weight_audit.proofs.Joined.{as-one}
use Rattle.weight_audit.proofs.report.writing.then_blind_ones.Goals as goal

pub operations-init : goal.operations-init
operations-init g c start before text written = rw (append-nil text) written

pub operations-preserved : goal.operations-preserved
operations-preserved g c start before text written =
    let blind = is_blind c.args.weights.now c.args.output c.args.after in
    let graph = c.args.graph.now in
    let op = c.operations.op in
    let further : lines_below blind graph (op + 1) ≡ lines_below blind graph op ++ line_if c.is_blind-blind.result graph op =
    rw (add-one op, c.is_blind-blind.ensures) refl in
    as-one text _ _ _ further (c.then_blind-so_far.ensures start before _ (c.operations.invariant start before text written))

pub returns : goal.returns
returns g c start before text written =
    let all : c.operations.op ≡ length c.args.graph.now.operations =
    omega (arith, c.operations-test.false, c.operations.auto.op-end, c.len-op-end.ensures.count) in
    rw all at (c.operations.invariant start before text written)
