use Rattle.std.proofs.Common.{Option, None, subst}
use Rattle.st_tree.specs.ProgramViews.{program_tree}
use Rattle.st_types.specs.declared.fault.Fault.{Fault}
use Rattle.st_types.specs.Notes.{Notes}
use Rattle.st_types.specs.Typing.{FaultAt}
use Rattle.st_types.proofs.NoteLaws.{least-some, least-none}
use Rattle.st_types.proofs.typing.answered.Goals as goal

pub returns-in-Some-clause-err : goal.returns-in-Some-clause-err
returns-in-Some-clause-err c =
    let p = program_tree c.args.program.now in
    c.told.ensures p (least-some c.in-Some.fault (FaultAt p) (subst (λ (r : Option Fault). Notes None r (FaultAt p)) c.in-Some.is (c.requires.notes c.if-noted.false)))

pub limited-requires-clause-faultless : goal.limited-requires-clause-faultless
limited-requires-clause-faultless c =
    let p = program_tree c.args.program.now in
    λ f h. least-none (FaultAt p) (subst (λ (r : Option Fault). Notes None r (FaultAt p)) c.in-None.is (c.requires.notes c.if-noted.false)) f h

pub limited-requires-clause-is : goal.limited-requires-clause-is
limited-requires-clause-is c = c.requires.is c.if-noted.false c.in-None.is
