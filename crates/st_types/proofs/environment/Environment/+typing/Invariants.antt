use Rattle.std.proofs.Common.{List, Option, option_map, map, drop}
use Rattle.st_tree.specs.ExprViews.{expr_trees}
use Rattle.vcp_typed.specs.TExprTree.{TExprTree}
use Rattle.vcp_typed.specs.TExprViews.{texpr_tree}
use Rattle.st_types.specs.declared.note.Noted.{Noted}
use Rattle.st_types.specs.Full.{UnlessFull}
use Rattle.st_types.specs.ExprTyping.{both}
use Rattle.st_types.specs.ExprSteps.{TypesAll}
use Rattle.st_types.proofs.ExprNodes.{glue}
use Rattle.st_types.proofs.environment.Environment.+typing.Given as goal

-- whatever the arguments that are left come to, all come to it behind those that were typed
abbrev pub invariant-type_all-each : goal.invariant-type_all-each
invariant-type_all-each l =
    (end : Noted) (r : Option (List TExprTree))
    → UnlessFull l.noted.full end.full (TypesAll l.self.names.now (expr_trees (drop l.e-index l.args)) l.noted.first end.first r)
    → UnlessFull l.initial.noted.full end.full (TypesAll l.self.names.now (expr_trees l.args) l.initial.noted.first end.first
    (both glue (option_map (λ v. map texpr_tree v.items) l.list) r))
