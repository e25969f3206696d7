-- HandedOn: a fault of a part is that of the whole, or memory ran out in both.
use Rattle.std.proofs.Common.{◌≡◌, List, Option, None, Result, Err, ap, ◌∙◌}
use Rattle.st_tree.specs.ExprTree.{ExprTree}
use Rattle.st_parser.specs.declared.fault.SyntaxFault.{SyntaxFault}
use Rattle.st_parser.specs.declared.fault.SyntaxFault.TheVariants as fault
use Rattle.st_parser.specs.declared.forms.Form.{Form}
use Rattle.st_parser.specs.ExprMachine.{Reading}
use Rattle.st_parser.specs.FormViews.{Reads}
use Rattle.st_parser.specs.StateViews.{Gives}

pub gives-on : {A B C D : Type 0} (v : A → B) (w : C → D) (k : Result B SyntaxFault → Result D SyntaxFault) (f : SyntaxFault) (r : Result B SyntaxFault)
    → ((g : SyntaxFault) → k (Err g) ≡ Err g) → Gives v (Err f) r → Gives w (Err f) (k r)
gives-on v w k (fault.Syntax s) r on given = ap k given ∙ on (fault.Syntax s)
gives-on v w k (fault.Depth s) r on given = ap k given ∙ on (fault.Depth s)
gives-on v w k fault.Memory r on given = given

-- the same of an expression that is read: what comes of it where it has ended or not, and what comes of a step of it
pub reads-on : {C D : Type 0} (w : C → D) (whole : Option ExprTree → Result D SyntaxFault) (on : Result Reading SyntaxFault → Result D SyntaxFault)
    (f : SyntaxFault) (fs : List Form) (ended : Option ExprTree) (step : Result Reading SyntaxFault) → whole None ≡ on step
    → ((g : SyntaxFault) → on (Err g) ≡ Err g) → Reads (Err f) fs ended step → Gives w (Err f) (whole ended)
reads-on w whole on (fault.Syntax s) fs ended step is hands given = ap whole given.0 ∙ is ∙ ap on given.1 ∙ hands (fault.Syntax s)
reads-on w whole on (fault.Depth s) fs ended step is hands given = ap whole given.0 ∙ is ∙ ap on given.1 ∙ hands (fault.Depth s)
reads-on w whole on fault.Memory fs ended step is hands given = given
