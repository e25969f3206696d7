use Rattle.std.proofs.Common.{ap, ◌∙◌}
use Rattle.st_tree.specs.StmtViews.{stmt_trees}
use Rattle.st_parser.specs.declared.state.Place.{Place}
use Rattle.st_parser.specs.StateViews.{levels}
use Rattle.st_parser.specs.ProgramViews.{front, program}
use Rattle.st_parser.specs.ProgramMachine as machine
use Rattle.st_parser.proofs.Unended.{outside-body, unended-body}
use Rattle.st_parser.proofs.parsing.finish.Goals as goal

pub returns-in_default : goal.returns-in_default
returns-in_default c = outside-body c.args.end c.args.parsed c.args.place c.in_default.not-InBody

pub returns-in_default-phase : goal.returns-in_default-phase
returns-in_default-phase c =
    let p = c.args.parsed in
    ap (λ (at : Place). machine.finish c.args.end (program p at)) c.in-InBody.is
    ∙ unended-body c.args.end (front p) (levels p.bodies.outer.items) (stmt_trees p.bodies.stmts.items.items) p.bodies.phase
    c.in_default-phase.not-Finished
