use Rattle.std.proofs.Common.{◌∷◌, List, Result, sym, ap, ap₂, ◌∙◌}
use Rattle.st_tree.specs.declared.stmt.Stmts.{Stmts}
use Rattle.st_tree.specs.StmtTree.{StmtTrees}
use Rattle.st_tree.specs.StmtViews.{stmt_trees}
use Rattle.st_parser.specs.declared.fault.SyntaxFault.{SyntaxFault}
use Rattle.st_parser.specs.StateViews.{body, levels}
use Rattle.st_parser.specs.StmtMachine.{At, Body, Level, start, to}
use Rattle.st_parser.proofs.LevelViews.{levels-push}
use Rattle.st_parser.proofs.levels.opened.Goals as goal

abbrev begins : List Level → StmtTrees → Result At SyntaxFault
begins outer ss = to outer ss start

abbrev deeper : Body → List Level → Stmts → List Level
deeper b outer ss = record { body = b; before = stmt_trees ss.items.items } ∷ outer

pub returns-in-Ok : goal.returns-in-Ok
returns-in-Ok c =
    let outer = levels c.args.bodies.now.outer.items in
    sym (ap₂ begins
    (ap levels c.in-Ok.ensures.items ∙ levels-push _ _ ∙ ap (deeper (body c.args.body) outer) c.replace-before.ensures.value)
    (ap (λ (s : Stmts). stmt_trees s.items.items) c.replace-before.ensures.after ∙ c.new.ensures.tree))
