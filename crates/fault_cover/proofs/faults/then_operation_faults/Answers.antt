use Rattle.std.proofs.Common.{◌≡◌, ◌∙◌, map, ap, sym, arith}
use Rattle.fault_sites.specs.Sites.{each_below}
use Rattle.fault_cover.specs.Candidates.{row, rows}
use Rattle.fault_cover.specs.Classes.{fault_at, singles_at}
use Rattle.fault_cover.proofs.Enumerating.{rows_are}
use Rattle.fault_cover.proofs.Going.{made_more, passes_none, passes_same}
use Rattle.fault_cover.proofs.faults.then_operation_faults.Goals as goal

pub operands-init : goal.operands-init
operands-init g c = λ stops survey. passes_none

pub operands-preserved : goal.operands-preserved
operands-preserved g c = λ stops survey.
    made_more (fault_at c.args.k) (row c.args.class c.args.subject.now.graph.now c.args.k c.operation-op.result) c.operands.j
    (c.operands.invariant stops survey) (c.then_row-listener.ensures stops survey)

pub returns : goal.returns
returns g c = λ stops survey.
    let graph = c.args.subject.now.graph.now in
    let class = c.args.class in
    let k = c.args.k in
    let op = c.operation-op.result in
    let all : c.operands.j ≡ rows class op = omega (arith, c.operands-test.false, c.operands.auto.j-end, c.rows-j-end.ensures) in
    passes_same _ _ (c.operands.invariant stops survey)
    (ap (λ n. map (fault_at k) (each_below (row class graph k op) n)) all ∙ ap (map (fault_at k)) (sym (rows_are class graph k op))
    ∙ ap (singles_at class graph k) (sym c.operation-op.ensures))
