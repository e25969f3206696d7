-- ExprMachine: an expression read token by token. What is open is kept in forms, the innermost first.
-- How the parser reads, and no promise: what it promises is in Answers.
use Rattle.std.specs.Prelude.{ℕ, suc, ◌+◌, nat_le, List, [], ◌∷◌, Option, Some, None, Result, Ok, Err, cond}
use Rattle.vcp_base.specs.declared.spot.Spot.{Spot}
use Rattle.st_lexer.specs.declared.token.Token.{Token}
use Rattle.st_tree.specs.declared.expr.UnOp.{UnOp}
use Rattle.st_tree.specs.declared.expr.BinOp.{BinOp}
use Rattle.st_tree.specs.ExprTree.{ExprTree, ExprTrees, literal, name, unary, binary, call, no_exprs}
use Rattle.st_tree.specs.Appended.{exprs_and}
use Rattle.st_tree.specs.Operators.{level, any_level, chain}
use Rattle.st_parser.specs.declared.fault.SyntaxFault.{SyntaxFault}
use Rattle.st_parser.specs.declared.fault.SyntaxFault.TheVariants as fault
use Rattle.st_parser.specs.declared.marks.Begins.{Begins}
use Rattle.st_parser.specs.declared.marks.Begins.TheVariants as begins
use Rattle.st_parser.specs.declared.marks.Goes.{Goes}
use Rattle.st_parser.specs.declared.marks.Goes.TheVariants as goes
use Rattle.st_parser.specs.Marks.{begins_by, goes_by}

-- what is read by: the bytes of names, and the greatest depth of a token
pub record Context : Type 0 where
  pub bytes : Token → List ℕ
  pub most : ℕ

-- a part of an expression that is open, and what it has so far
pub data Form : Type 0 where
  sign_of : UnOp → Spot → Form
  left_of : BinOp → ExprTree → Spot → Form
  bracket : Form
  arguments : List ℕ → Spot → ExprTrees → Form

-- an operand is wanted, or a name was read last, or a whole operand was
pub data Mode : Type 0 where
  want : Mode
  after_name : List ℕ → Spot → Mode
  have : ExprTree → Mode

pub record Reading : Type 0 where
  pub forms : List Form
  pub mode : Mode

-- the depth of a token inside these forms
abbrev pub depth_in : List Form → ℕ
depth_in [] = 0
depth_in (sign_of op s ∷ fs) = suc (depth_in fs)
depth_in (left_of op a s ∷ fs) = depth_in fs + suc (chain (level op) a)
depth_in (bracket ∷ fs) = suc (depth_in fs)
depth_in (arguments f s es ∷ fs) = suc (depth_in fs)

-- the expression that results where the forms that bind at least so strongly are closed
pub record Closed : Type 0 where
  pub forms : List Form
  pub expr : ExprTree

-- closes the signs, and the operators of level l and above
abbrev pub close : ℕ → List Form → ExprTree → Closed
close l [] e = record { forms = []; expr = e }
close l (sign_of op s ∷ fs) e = close l fs (unary op e s)
close l (left_of op a s ∷ fs) e = cond (nat_le l (level op)) (close l fs (binary op a e s)) (record { forms = left_of op a s ∷ fs; expr = e })
close l (bracket ∷ fs) e = record { forms = bracket ∷ fs; expr = e }
close l (arguments f s es ∷ fs) e = record { forms = arguments f s es ∷ fs; expr = e }

-- a token that is not refused for its kind is refused where it is deeper than the limit
abbrev pub no_deeper : {A : Type 0} → ℕ → ℕ → Token → Result A SyntaxFault → Result A SyntaxFault
no_deeper most depth t (Ok a) = cond (nat_le depth most) (Ok a) (Err (fault.Depth t.spot))
no_deeper most depth t (Err f) = Err f

-- a token where an operand is wanted
abbrev pub operand : Context → List Form → Begins → Token → Result Reading SyntaxFault
operand c fs (begins.Literal ty v) t = Ok (record { forms = fs; mode = have (literal ty v t.spot) })
operand c fs begins.Named t = Ok (record { forms = fs; mode = after_name (c.bytes t) t.spot })
operand c fs (begins.Sign op) t = Ok (record { forms = sign_of op t.spot ∷ fs; mode = want })
operand c fs begins.Opens t = Ok (record { forms = bracket ∷ fs; mode = want })
operand c fs begins.Nothing t = Err (fault.Syntax t.spot)

-- a closing bracket behind a whole expression inside these forms
abbrev pub close_at : List Form → ExprTree → Token → Result Reading SyntaxFault
close_at (bracket ∷ fs) e t = Ok (record { forms = fs; mode = have e })
close_at (arguments f s es ∷ fs) e t = Ok (record { forms = fs; mode = have (call f (exprs_and es e) s) })
close_at _ e t = Err (fault.Syntax t.spot)

-- a comma behind a whole expression inside these forms
abbrev pub part_at : List Form → ExprTree → Token → Result Reading SyntaxFault
part_at (arguments f s es ∷ fs) e t = Ok (record { forms = arguments f s (exprs_and es e) ∷ fs; mode = want })
part_at _ e t = Err (fault.Syntax t.spot)

-- a token behind a whole operand
abbrev pub go_on : Goes → List Form → ExprTree → Token → Result Reading SyntaxFault
go_on (goes.Joins op) fs e t = Ok (record { forms = left_of op (close (level op) fs e).expr t.spot ∷ (close (level op) fs e).forms; mode = want })
go_on goes.Closes fs e t = close_at (close any_level fs e).forms (close any_level fs e).expr t
go_on goes.Parts fs e t = part_at (close any_level fs e).forms (close any_level fs e).expr t
go_on goes.Ends fs e t = Err (fault.Syntax t.spot)

-- a token behind a name
abbrev pub go_on_name : Begins → List Form → List ℕ → Spot → Token → Result Reading SyntaxFault
go_on_name begins.Opens fs f s t = Ok (record { forms = arguments f s no_exprs ∷ fs; mode = want })
go_on_name _ fs f s t = go_on (goes_by t.tok) fs (name f s) t

-- a token of an expression at depth d
abbrev pub step : Context → ℕ → List Form → Mode → Token → Result Reading SyntaxFault
step c d fs want t = no_deeper c.most (d + depth_in fs) t (operand c fs (begins_by t.tok) t)
step c d fs (after_name f s) t = go_on_name (begins_by t.tok) fs f s t
step c d fs (have e) t = go_on (goes_by t.tok) fs e t

-- the expression, where nothing is open
abbrev pub alone : List Form → ExprTree → Option ExprTree
alone [] e = Some e
alone (f ∷ fs) e = None

-- the whole expression, where the token is no part of one and nothing is open
abbrev pub whole_before : Goes → List Form → ExprTree → Option ExprTree
whole_before goes.Ends fs e = alone (close any_level fs e).forms (close any_level fs e).expr
whole_before _ fs e = None

abbrev pub name_before : Begins → Goes → List Form → ExprTree → Option ExprTree
name_before begins.Opens g fs e = None
name_before _ g fs e = whole_before g fs e

-- the whole expression that ends before the token, if it does
abbrev pub ends_before : List Form → Mode → Token → Option ExprTree
ends_before fs want t = None
ends_before fs (after_name f s) t = name_before (begins_by t.tok) (goes_by t.tok) fs (name f s)
ends_before fs (have e) t = whole_before (goes_by t.tok) fs e
