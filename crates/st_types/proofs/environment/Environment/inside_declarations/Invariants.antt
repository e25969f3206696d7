use Rattle.std.proofs.Common.{drop, map}
use Rattle.st_tree.specs.ProgramViews.{decl_tree}
use Rattle.st_types.specs.declared.note.Noted.{Noted}
use Rattle.st_types.specs.Notes.{Notes}
use Rattle.st_types.specs.Full.{UnlessFull}
use Rattle.st_types.specs.DeclSteps.{DeclsInside}
use Rattle.st_types.proofs.environment.Environment.inside_declarations.Given as goal

abbrev pub invariant-each : goal.invariant-each
invariant-each l = (end : Noted)
    → UnlessFull l.noted.full end.full (Notes l.noted.first end.first (DeclsInside l.self.names.now (map decl_tree (drop l.d-index l.decls))))
    → UnlessFull l.initial.noted.full end.full (Notes l.initial.noted.first end.first (DeclsInside l.self.names.now (map decl_tree l.decls)))
