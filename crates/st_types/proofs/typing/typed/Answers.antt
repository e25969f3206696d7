use Rattle.std.proofs.Common.{[], Some, subst, map, None}
use Rattle.std.proofs.lemmas.Result.{IfErr-weaker}
use Rattle.st_tree.specs.StmtViews.{stmt_trees}
use Rattle.st_tree.specs.ProgramViews.{block_tree, program_tree}
use Rattle.vcp_typed.specs.TStmtViews.{tstmt_trees}
use Rattle.st_types.specs.DeclTyping.{nothing_made}
use Rattle.st_types.specs.DeclSteps.{made_by, MakesAll}
use Rattle.st_types.specs.StmtSteps.{TypesStmts}
use Rattle.st_types.proofs.Faultless.{typed-refused}
use Rattle.st_types.proofs.WholeLaws.{program-notes, program-gives}
use Rattle.st_types.proofs.typing.typed.Goals as goal

pub answered-requires-clause-notes : goal.answered-requires-clause-notes
answered-requires-clause-notes c = λ o.
    let body = subst
    (λ xs. TypesStmts c.declared-made.result.names [] (stmt_trees xs) c.declared-made.new.noted.first c.type_stmts-body.new.noted.first
    (Some (tstmt_trees c.type_stmts-body.result.items.items))) c.deref-2.ensures.value (c.type_stmts-body.ensures.is o) in
    let made = subst (λ xs. MakesAll (map block_tree xs) nothing_made (made_by c.declared-made.result) None c.declared-made.new.noted.first)
    c.deref.ensures.value (c.declared-made.ensures.is (c.type_stmts-body.ensures.before o)) in
    program-notes (program_tree c.args.program.now) (made_by c.declared-made.result) c.declared-made.new.noted.first c.type_stmts-body.new.noted.first
    made body.notes

pub answered-requires-clause-is : goal.answered-requires-clause-is
answered-requires-clause-is c = λ o n.
    let body = subst
    (λ xs. TypesStmts c.declared-made.result.names [] (stmt_trees xs) c.declared-made.new.noted.first c.type_stmts-body.new.noted.first
    (Some (tstmt_trees c.type_stmts-body.result.items.items))) c.deref-2.ensures.value (c.type_stmts-body.ensures.is o) in
    let made = subst (λ xs. MakesAll (map block_tree xs) nothing_made (made_by c.declared-made.result) None c.declared-made.new.noted.first)
    c.deref.ensures.value (c.declared-made.ensures.is (c.type_stmts-body.ensures.before o)) in
    program-gives (program_tree c.args.program.now) (made_by c.declared-made.result)
    (Some (tstmt_trees c.type_stmts-body.result.items.items)) made.gives (body.gives n)

pub returns-clause-only : goal.returns-clause-only
returns-clause-only c =
    λ t h. IfErr-weaker c.answered.result _ _ (λ e k. typed-refused (program_tree c.args.program.now) t e h k) c.answered.ensures.err
