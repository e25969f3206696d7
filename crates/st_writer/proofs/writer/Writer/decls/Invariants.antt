use Rattle.std.proofs.Common.{take}
use Rattle.st_tree.specs.ProgramViews.{decl_tree}
use Rattle.st_writer.specs.Adds.{Adds}
use Rattle.st_writer.specs.CanonicalProgram.{decl}
use Rattle.st_writer.proofs.Lists.{all}
use Rattle.st_writer.proofs.Programs.{item}
use Rattle.st_writer.proofs.writer.Writer.decls.Given as goal

abbrev pub invariant-loop-i : goal.invariant-loop-i
invariant-loop-i l = Adds l.initial.self l.self (all (item decl decl_tree) (take l.i l.decls))
