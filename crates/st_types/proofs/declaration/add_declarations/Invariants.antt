use Rattle.std.proofs.Common.{drop, map}
use Rattle.st_tree.specs.ProgramViews.{decl_tree}
use Rattle.st_types.specs.declared.note.Noted.{Noted}
use Rattle.st_types.specs.Full.{UnlessFull}
use Rattle.st_types.specs.DeclTyping.{Made}
use Rattle.st_types.specs.DeclSteps.{made_by, MakesDecls}
use Rattle.st_types.proofs.declaration.add_declarations.Given as goal

-- what the rest makes from here on, all declarations make from the start on
abbrev pub invariant-each : goal.invariant-each
invariant-each l = (n : Made) (end : Noted)
    → UnlessFull l.noted.full end.full (MakesDecls l.section (map decl_tree (drop l.d-index l.decls)) (made_by l.made) n l.noted.first end.first)
    → UnlessFull l.initial.noted.full end.full (MakesDecls l.section (map decl_tree l.decls) (made_by l.initial.made) n l.initial.noted.first end.first)
