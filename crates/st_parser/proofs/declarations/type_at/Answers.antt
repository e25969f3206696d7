use Rattle.std.proofs.Common.{refl, subst, sym, ◌∙◌}
use Rattle.st_parser.specs.declared.marks.Mark.TheVariants as mark
use Rattle.st_parser.specs.Marks.{mark_of}
use Rattle.st_parser.specs.StateViews.{Gives}
use Rattle.st_parser.specs.StmtMachine.{refused}
use Rattle.st_parser.specs.ProgramViews.{program}
use Rattle.st_parser.proofs.MarkTests.{next-test}
use Rattle.st_parser.proofs.declarations.type_at.Goals as goal

pub returns-in_default : goal.returns-in_default
returns-in_default c =
    let v = program c.args.parsed.now in
    let r = c.refuse_program.result in
    let m = mark_of c.args.t.tok in
    let end : Gives v r (refused c.args.t) = subst (λ x. Gives v x (refused c.args.t)) (sym c.refuse_program.ensures) refl in
    next-test v r m mark.Bool _ _ (λ e. c.in_default.not-Bool (c.mark_of.ensures ∙ e))
    (next-test v r m mark.Int _ _ (λ e. c.in_default.not-Int (c.mark_of.ensures ∙ e))
    (next-test v r m mark.Dint _ _ (λ e. c.in_default.not-Dint (c.mark_of.ensures ∙ e))
    (next-test v r m mark.Lint _ _ (λ e. c.in_default.not-Lint (c.mark_of.ensures ∙ e)) end)))
