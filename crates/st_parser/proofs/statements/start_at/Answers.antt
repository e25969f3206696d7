use Rattle.st_parser.specs.declared.marks.Mark.TheVariants as mark
use Rattle.st_parser.specs.StateViews.{state}
use Rattle.st_parser.proofs.MarkTests.{next-test}
use Rattle.st_parser.proofs.statements.start_at.Goals as goal

pub returns-in-Semi : goal.returns-in-Semi
returns-in-Semi c = rw c.in-Semi.is c.begun.ensures

pub returns-in_default : goal.returns-in_default
returns-in_default c =
    let v = state c.body_ends.new.bodies in
    let r = c.body_ends.result in
    let m = c.args.mark in
    next-test v r m mark.Semi _ _ c.in_default.not-Semi
    (next-test v r m mark.Name _ _ c.in_default.not-Name
    (next-test v r m mark.If _ _ c.in_default.not-If
    (next-test v r m mark.Case _ _ c.in_default.not-Case
    (next-test v r m mark.For _ _ c.in_default.not-For c.body_ends.ensures))))
