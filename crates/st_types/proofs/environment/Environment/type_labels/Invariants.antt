use Rattle.std.proofs.Common.{List, Option, option_map, drop}
use Rattle.st_tree.specs.StmtViews.{label_trees}
use Rattle.vcp_typed.specs.declared.stmt.TLabel.{TLabel}
use Rattle.st_types.specs.declared.note.Noted.{Noted}
use Rattle.st_types.specs.Full.{UnlessFull}
use Rattle.st_types.specs.ExprTyping.{both}
use Rattle.st_types.specs.StmtSteps.{TypesLabels}
use Rattle.st_types.proofs.StmtNodes.{labels_glue}
use Rattle.st_types.proofs.environment.Environment.type_labels.Given as goal

abbrev pub invariant-each : goal.invariant-each
invariant-each l = (end : Noted) (r : Option (List TLabel))
    → UnlessFull l.noted.full end.full (TypesLabels l.self.names.now l.ty (label_trees (drop l.label-index l.labels)) l.noted.first end.first r)
    → UnlessFull l.initial.noted.full end.full (TypesLabels l.self.names.now l.ty (label_trees l.labels) l.initial.noted.first end.first
    (both labels_glue (option_map (λ v. v.items.items) l.list) r))
