use Rattle.st_parser.specs.declared.marks.Mark.TheVariants as mark
use Rattle.st_parser.specs.StateViews.{state}
use Rattle.st_parser.proofs.MarkTests.{next-test}
use Rattle.st_parser.proofs.statements.level_ends.Goals as goal

pub returns-in-Elsif : goal.returns-in-Elsif
returns-in-Elsif c = rw c.in-Elsif.is c.elsif_at.ensures

pub returns-in-Else : goal.returns-in-Else
returns-in-Else c = rw c.in-Else.is c.else_at.ensures

pub returns-in-EndIf : goal.returns-in-EndIf
returns-in-EndIf c = rw c.in-EndIf.is c.end_if_at.ensures

pub returns-in-EndCase : goal.returns-in-EndCase
returns-in-EndCase c = rw c.in-EndCase.is c.end_case_at.ensures

pub returns-in-EndFor : goal.returns-in-EndFor
returns-in-EndFor c = rw c.in-EndFor.is c.end_for_at.ensures

pub returns-in_default : goal.returns-in_default
returns-in_default c =
    let v = state c.next_label_in.new.bodies in
    let r = c.next_label_in.result in
    let m = c.args.mark in
    next-test v r m mark.Elsif _ _ c.in_default.not-Elsif
    (next-test v r m mark.Else _ _ c.in_default.not-Else
    (next-test v r m mark.EndIf _ _ c.in_default.not-EndIf
    (next-test v r m mark.EndCase _ _ c.in_default.not-EndCase
    (next-test v r m mark.EndFor _ _ c.in_default.not-EndFor c.next_label_in.ensures))))
