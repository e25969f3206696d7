use Rattle.std.proofs.Common.{List, Result, Ok, sym, ap, ◌∙◌}
use Rattle.st_parser.specs.declared.fault.SyntaxFault.{SyntaxFault}
use Rattle.st_parser.specs.ExprMachine.{Form, Reading, want}
use Rattle.st_parser.specs.FormViews.{forms}
use Rattle.st_parser.proofs.Frames.{forms-push}
use Rattle.st_parser.proofs.expressions.opens.Goals as goal

abbrev wanted_in : List Form → Result Reading SyntaxFault
wanted_in fs = Ok (record { forms = fs; mode = want })

pub returns-in-Ok : goal.returns-in-Ok
returns-in-Ok c = sym (ap wanted_in (ap forms c.in-Ok.ensures.items ∙ forms-push _ _))
