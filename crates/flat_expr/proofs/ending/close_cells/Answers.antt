use Rattle.std.proofs.Common.{◌≡◌, ◌<◌, length, refl, ap, ◌∙◌, subst, arith}
use Rattle.flat_expr.specs.Closing.{Closes}
use Rattle.flat_expr.proofs.Ended.{handed}
use Rattle.flat_expr.proofs.ending.close_cells.Goals as goal

pub cells-init : goal.cells-init
cells-init c = λ s n h same. (refl, h)

pub close_cell-requires : goal.close_cell-requires
close_cell-requires c =
    let i = c.cells.invariant c.requires.0 c.requires.1 c.requires.2 c.requires.3 in
    let there : c.cells.cell < length c.cells.graph.loads = omega (arith, ap length i.0, c.cells-last.ensures, c.cells-test.true) in
    (c.requires.0, c.requires.1, i.1, c.requires.3, there)

pub returns-in_err-close_cell : goal.returns-in_err-close_cell
returns-in_err-close_cell c = λ s n h same.
    handed s _ _ c.close_cell.result c.from_residual.result _ c.in_err-close_cell.was c.from_residual.ensures.1
    (c.close_cell.ensures s n (c.cells.invariant s n h same).1 same)

pub cells-preserved : goal.cells-preserved
cells-preserved c = λ s n h same.
    let i = c.cells.invariant s n h same in
    let next = c.in_ok-close_cell.ensures s n i.1 same in
    (next.0 ∙ i.0, next.1)

pub returns : goal.returns
returns c = λ s n h same.
    let i = c.cells.invariant s n h same in
    let all : c.cells.cell ≡ length c.cells.graph.loads = omega (arith, c.cells-test.false, c.cells-last.ensures, ap length i.0, c.cells.auto) in
    subst (λ m. Closes s n m c.cells.graph c.args.known.now) all i.1
