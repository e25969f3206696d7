use Rattle.std.proofs.Common.{subst}
use Rattle.st_tree.specs.Spelling.{bytes_in}
use Rattle.st_parser.specs.declared.marks.Mark.{Mark}
use Rattle.st_parser.specs.declared.marks.Mark.TheVariants as mark
use Rattle.st_parser.specs.ExprMachine.{Context}
use Rattle.st_parser.specs.StateViews.{Gives}
use Rattle.st_parser.specs.ProgramViews.{front, program}
use Rattle.st_parser.specs.ProgramMachine as machine
use Rattle.st_parser.proofs.MarkTests.{other-mark}
use Rattle.st_parser.proofs.declarations.block_at.Goals as goal

pub returns : goal.returns
returns c =
    let k : Context = record { bytes = bytes_in c.args.source.text.now; most = c.args.source.most } in
    let f = front c.args.parsed.now in
    let v = program c.body_step.new.parsed in
    let r = c.body_step.result in
    let m = c.mark_of-mark.result in
    let s = c.body_step.ensures in
    let given = rw (c.nothing_read.ensures.outer, c.nothing_read.ensures.stmts, c.nothing_read.ensures.phase) at s in
    subst (λ (x : Mark). Gives v r (machine.block_at k f x c.args.t)) c.mark_of-mark.ensures
    (other-mark v r m mark.VarInput _ _ c.if-is.ensures
    (other-mark v r m mark.VarOutput _ _ c.if-is-2.ensures
    (other-mark v r m mark.Var _ _ c.if-is-3.ensures given)))
