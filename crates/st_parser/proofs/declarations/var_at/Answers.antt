use Rattle.std.proofs.Common.{subst, ◌∙◌}
use Rattle.st_tree.specs.Spelling.{bytes_in}
use Rattle.st_tree.specs.declared.program.Section.TheVariants as section
use Rattle.st_parser.specs.declared.marks.Mark.TheVariants as mark
use Rattle.st_parser.specs.Marks.{mark_of}
use Rattle.st_parser.specs.ExprMachine.{Context}
use Rattle.st_parser.specs.StateViews.{Gives}
use Rattle.st_parser.specs.ProgramViews.{front, opening, program}
use Rattle.st_parser.specs.ProgramMachine.{begun, decl_at}
use Rattle.st_parser.proofs.MarkTests.{next-test}
use Rattle.st_parser.proofs.declarations.var_at.Goals as goal

pub returns-in_default : goal.returns-in_default
returns-in_default c =
    let k : Context = record { bytes = bytes_in c.args.source.text.now; most = c.args.source.most } in
    let v = program c.decl_at.new.parsed in
    let r = c.decl_at.result in
    let m = mark_of c.args.t.tok in
    let marked : Gives v r (decl_at k (opening c.begin-in_default.new.parsed) m c.args.t) =
    subst (λ x. Gives v r (decl_at k (opening c.begin-in_default.new.parsed) x c.args.t)) c.mark_of-mark.ensures c.decl_at.ensures in
    let given : Gives v r (decl_at k (begun (front c.args.parsed.now) section.Local) m c.args.t) =
    subst (λ o. Gives v r (decl_at k o m c.args.t)) c.begin-in_default.ensures marked in
    next-test v r m mark.Constant _ _ (λ e. c.in_default.not-Constant (c.mark_of-mark.ensures ∙ e))
    (next-test v r m mark.Retain _ _ (λ e. c.in_default.not-Retain (c.mark_of-mark.ensures ∙ e)) given)
