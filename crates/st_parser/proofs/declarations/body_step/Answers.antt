use Rattle.std.proofs.Common.{Err, refl, subst}
use Rattle.st_tree.specs.StmtViews.{stmt_trees}
use Rattle.st_tree.specs.Spelling.{bytes_in}
use Rattle.st_parser.specs.declared.state.Phase.{Phase}
use Rattle.st_parser.specs.ExprMachine.{Context}
use Rattle.st_parser.specs.StateViews.{Gives, levels, phase, state}
use Rattle.st_parser.specs.StmtMachine.{stmt_step}
use Rattle.st_parser.specs.ProgramViews.{front, program}
use Rattle.st_parser.specs.ProgramMachine as machine
use Rattle.st_parser.proofs.HandedOn.{gives-on}
use Rattle.st_parser.proofs.declarations.body_step.Goals as goal

pub returns-in-Err : goal.returns-in-Err
returns-in-Err c =
    let k : Context = record { bytes = bytes_in c.args.source.text.now; most = c.args.source.most } in
    let v = state c.stmt_step.new.bodies in
    let b = c.args.parsed.now.bodies in
    let given = subst (λ (p : Phase). Gives v (Err c.in-Err.fault) (stmt_step k (levels b.outer.items) (stmt_trees b.stmts.items.items) (phase p) c.args.t))
    c.replace-phase.ensures.value c.in-Err.ensures in
    gives-on v (program c.args.parsed.now) (machine.body_step (front c.args.parsed.now)) c.in-Err.fault _ (λ g. refl) given
