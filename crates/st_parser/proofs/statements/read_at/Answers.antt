use Rattle.std.proofs.Common.{refl, ap, sym}
use Rattle.st_tree.specs.StmtViews.{stmt_trees}
use Rattle.st_tree.specs.Spelling.{bytes_in}
use Rattle.st_parser.specs.ExprMachine as expr_machine
use Rattle.st_parser.specs.FormViews.{forms, mode}
use Rattle.st_parser.specs.StateViews.{levels, purpose, state}
use Rattle.st_parser.specs.StmtMachine as machine
use Rattle.st_parser.proofs.HandedOn.{reads-on}
use Rattle.st_parser.proofs.statements.read_at.Goals as goal

pub returns-in-Err : goal.returns-in-Err
returns-in-Err c =
    let k : expr_machine.Context = record { bytes = bytes_in c.args.source.text.now; most = c.args.source.most } in
    let outer = levels c.args.bodies.now.outer.items in
    let stmts = stmt_trees c.args.bodies.now.stmts.items.items in
    let fs = forms c.args.forms.items in
    let m = mode c.args.mode in
    let on = machine.read_on outer stmts (purpose c.args.purpose) in
    let whole = machine.read_at k outer stmts (purpose c.args.purpose) fs m c.args.t in
    reads-on (state c.args.bodies.now) whole on c.in-Err.fault _ _ _ (ap (λ n. on (expr_machine.step k n fs m c.args.t)) (sym c.depth.ensures))
    (λ g. refl) c.in-Err.ensures
