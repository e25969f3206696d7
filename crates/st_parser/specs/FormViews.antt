-- FormViews: the open forms and the mode of the program as those of the machine, and what it answers to a token.
-- What ties the code to the machine, and no promise: those are in Answers.
use Rattle.std.specs.Prelude.{◌≡◌, ℕ, suc, ◌<◌, ◌≤◌, List, [], ◌∷◌, Option, Some, None, Result, Ok, Err}
use Rattle.st_lexer.specs.declared.token.Token.{Token}
use Rattle.st_tree.specs.declared.expr.Expr.{Expr}
use Rattle.st_tree.specs.ExprTree.{ExprTree}
use Rattle.st_tree.specs.ExprViews.{expr_tree, expr_trees}
use Rattle.st_tree.specs.Operators.{level, chain}
use Rattle.st_parser.specs.declared.fault.SyntaxFault.{SyntaxFault}
use Rattle.st_parser.specs.declared.fault.SyntaxFault.TheVariants as fault
use Rattle.st_parser.specs.declared.forms.Form.{Form}
use Rattle.st_parser.specs.declared.forms.Form.TheVariants as program
use Rattle.st_parser.specs.declared.forms.Mode.{Mode}
use Rattle.st_parser.specs.declared.forms.Mode.TheVariants as last
use Rattle.st_parser.specs.declared.expressions.Progress.{Progress}
use Rattle.st_parser.specs.declared.expressions.Progress.TheVariants as progress
use Rattle.st_parser.specs.ExprMachine as machine

-- a form of the program
abbrev pub form : Form → machine.Form
form (program.Sign op s) = machine.sign_of op s
form (program.Left op e s) = machine.left_of op (expr_tree e) s
form program.Bracket = machine.bracket
form (program.Arguments f s es) = machine.arguments f s (expr_trees es.items.items)

abbrev pub inside : List machine.Form → List Form → List machine.Form
inside outer [] = outer
inside outer (f ∷ fs) = inside (form f ∷ outer) fs

-- the forms of the program, whose last is the innermost
unfoldable pub forms : List Form → List machine.Form
forms fs = inside [] fs

abbrev pub mode : Mode → machine.Mode
mode last.Want = machine.want
mode (last.AfterName f s) = machine.after_name f s
mode (last.Have e) = machine.have (expr_tree e)

abbrev pub closed : List Form → Expr → machine.Closed
closed fs e = record { forms = forms fs; expr = expr_tree e }

-- The token was taken, and these forms and the mode are left, or it was refused, as the machine does; or memory ran out.
abbrev pub GoesOn : Result Progress SyntaxFault → List Form → Result machine.Reading SyntaxFault → Type 0
GoesOn (Ok (progress.On m)) fs step = step ≡ Ok (record { forms = forms fs; mode = mode m })
GoesOn (Ok (progress.Ended e)) fs step = ⊥
GoesOn (Err fault.Memory) fs step = Unit {0}
GoesOn (Err f) fs step = step ≡ Err f

-- The expression has ended before the token, and no form is left; or it has not, and the token was taken or refused as the machine does;
-- or memory ran out.
abbrev pub Reads : Result Progress SyntaxFault → List Form → Option ExprTree → Result machine.Reading SyntaxFault → Type 0
Reads (Ok (progress.On m)) fs ended step = (ended ≡ None) × (step ≡ Ok (record { forms = forms fs; mode = mode m }))
Reads (Ok (progress.Ended e)) fs ended step = (ended ≡ Some (expr_tree e)) × (forms fs ≡ [])
Reads (Err fault.Memory) fs ended step = Unit {0}
Reads (Err f) fs ended step = (ended ≡ None) × (step ≡ Err f)

-- the expression is whole, or the token is refused
abbrev pub Ends : Result Progress SyntaxFault → List Form → Option ExprTree → Token → Type 0
Ends (Ok (progress.On m)) fs ended t = ⊥
Ends (Ok (progress.Ended e)) fs ended t = (ended ≡ Some (expr_tree e)) × (forms fs ≡ [])
Ends (Err fault.Memory) fs ended t = Unit {0}
Ends (Err f) fs ended t = (ended ≡ None) × (f ≡ fault.Syntax t.spot)

-- n, unless it is more than most
abbrev pub AtMost : ℕ → ℕ → Option ℕ → Type 0
AtMost n most (Some k) = (k ≡ n) × (n ≤ most)
AtMost n most None = most < n

-- what a form adds to the depth of a token inside it
abbrev pub weight : Form → ℕ
weight (program.Left op e s) = suc (chain (level op) (expr_tree e))
weight _ = 1

-- the innermost form goes, where there is one
abbrev pub Takes : List machine.Form → Option Form → List machine.Form → Type 0
Takes old None new = (old ≡ []) × (new ≡ [])
Takes old (Some f) new = old ≡ form f ∷ new
