-- ExprTables: what each token begins and does, read backwards.
use Rattle.std.proofs.Common.{◌≡◌, Option, Some, None, sym, refl, ap, ◌∙◌}
use Rattle.st_lexer.specs.declared.token.Key.TheVariants as key
use Rattle.st_lexer.specs.declared.token.Sym.TheVariants as symbol
use Rattle.st_lexer.specs.declared.token.Tok.{Tok}
use Rattle.st_lexer.specs.declared.token.Tok.TheVariants as tok
use Rattle.st_tree.specs.declared.expr.UnOp.{UnOp}
use Rattle.st_tree.specs.declared.expr.UnOp.TheVariants as un
use Rattle.st_tree.specs.declared.expr.BinOp.{BinOp}
use Rattle.st_tree.specs.declared.expr.BinOp.TheVariants as bin
use Rattle.st_tree.specs.Operators.{sign, operator}
use Rattle.st_tree.specs.Expressions.{Value, literal_of}
use Rattle.st_parser.specs.declared.marks.Begins.{Begins}
use Rattle.st_parser.specs.declared.marks.Begins.TheVariants as begins
use Rattle.st_parser.specs.declared.marks.Goes.{Goes}
use Rattle.st_parser.specs.declared.marks.Goes.TheVariants as goes
use Rattle.st_parser.specs.Marks.{begins_by, goes_by}

-- the tokens that begin an operand so
abbrev pub Began : Begins → Tok → Type 0
Began (begins.Literal ty v) k = literal_of k ≡ Some (record { ty = ty; value = v })
Began begins.Named k = k ≡ tok.Name
Began (begins.Sign op) k = k ≡ sign op
Began begins.Opens k = k ≡ tok.Sym symbol.LParen
Began begins.Nothing k = literal_of k ≡ None

pub begun : (k : Tok) → Began (begins_by k) k
begun tok.Name = refl
begun (tok.Number t v) = refl
begun (tok.Key key.Program) = refl
begun (tok.Key key.EndProgram) = refl
begun (tok.Key key.Var) = refl
begun (tok.Key key.VarInput) = refl
begun (tok.Key key.VarOutput) = refl
begun (tok.Key key.Constant) = refl
begun (tok.Key key.Retain) = refl
begun (tok.Key key.EndVar) = refl
begun (tok.Key key.Bool) = refl
begun (tok.Key key.Int) = refl
begun (tok.Key key.Dint) = refl
begun (tok.Key key.Lint) = refl
begun (tok.Key key.If) = refl
begun (tok.Key key.Then) = refl
begun (tok.Key key.Elsif) = refl
begun (tok.Key key.Else) = refl
begun (tok.Key key.EndIf) = refl
begun (tok.Key key.Case) = refl
begun (tok.Key key.Of) = refl
begun (tok.Key key.EndCase) = refl
begun (tok.Key key.For) = refl
begun (tok.Key key.To) = refl
begun (tok.Key key.By) = refl
begun (tok.Key key.Do) = refl
begun (tok.Key key.EndFor) = refl
begun (tok.Key key.And) = refl
begun (tok.Key key.Or) = refl
begun (tok.Key key.Xor) = refl
begun (tok.Key key.Not) = refl
begun (tok.Key key.Mod) = refl
begun (tok.Key key.True) = refl
begun (tok.Key key.False) = refl
begun (tok.Key key.Sint) = refl
begun (tok.Key key.Usint) = refl
begun (tok.Key key.Uint) = refl
begun (tok.Key key.Udint) = refl
begun (tok.Key key.Ulint) = refl
begun (tok.Key key.Real) = refl
begun (tok.Key key.Lreal) = refl
begun (tok.Key key.String) = refl
begun (tok.Key key.Time) = refl
begun (tok.Key key.Array) = refl
begun (tok.Key key.Struct) = refl
begun (tok.Key key.While) = refl
begun (tok.Key key.Repeat) = refl
begun (tok.Key key.Until) = refl
begun (tok.Key key.Exit) = refl
begun (tok.Key key.Continue) = refl
begun (tok.Key key.Return) = refl
begun (tok.Key key.At) = refl
begun (tok.Key key.Function) = refl
begun (tok.Key key.FunctionBlock) = refl
begun (tok.Sym symbol.Assign) = refl
begun (tok.Sym symbol.Colon) = refl
begun (tok.Sym symbol.Semi) = refl
begun (tok.Sym symbol.Comma) = refl
begun (tok.Sym symbol.LParen) = refl
begun (tok.Sym symbol.RParen) = refl
begun (tok.Sym symbol.DotDot) = refl
begun (tok.Sym symbol.Plus) = refl
begun (tok.Sym symbol.Minus) = refl
begun (tok.Sym symbol.Star) = refl
begun (tok.Sym symbol.Slash) = refl
begun (tok.Sym symbol.Eq) = refl
begun (tok.Sym symbol.Ne) = refl
begun (tok.Sym symbol.Le) = refl
begun (tok.Sym symbol.Ge) = refl
begun (tok.Sym symbol.Lt) = refl
begun (tok.Sym symbol.Gt) = refl

-- the tokens that go on so behind an operand
abbrev pub Went : Goes → Tok → Type 0
Went (goes.Joins op) k = k ≡ operator op
Went goes.Closes k = k ≡ tok.Sym symbol.RParen
Went goes.Parts k = k ≡ tok.Sym symbol.Comma
Went goes.Ends k = Unit {0}

pub went : (k : Tok) → Went (goes_by k) k
went tok.Name = tt
went (tok.Number t v) = tt
went (tok.Key key.Program) = tt
went (tok.Key key.EndProgram) = tt
went (tok.Key key.Var) = tt
went (tok.Key key.VarInput) = tt
went (tok.Key key.VarOutput) = tt
went (tok.Key key.Constant) = tt
went (tok.Key key.Retain) = tt
went (tok.Key key.EndVar) = tt
went (tok.Key key.Bool) = tt
went (tok.Key key.Int) = tt
went (tok.Key key.Dint) = tt
went (tok.Key key.Lint) = tt
went (tok.Key key.If) = tt
went (tok.Key key.Then) = tt
went (tok.Key key.Elsif) = tt
went (tok.Key key.Else) = tt
went (tok.Key key.EndIf) = tt
went (tok.Key key.Case) = tt
went (tok.Key key.Of) = tt
went (tok.Key key.EndCase) = tt
went (tok.Key key.For) = tt
went (tok.Key key.To) = tt
went (tok.Key key.By) = tt
went (tok.Key key.Do) = tt
went (tok.Key key.EndFor) = tt
went (tok.Key key.And) = refl
went (tok.Key key.Or) = refl
went (tok.Key key.Xor) = refl
went (tok.Key key.Not) = tt
went (tok.Key key.Mod) = refl
went (tok.Key key.True) = tt
went (tok.Key key.False) = tt
went (tok.Key key.Sint) = tt
went (tok.Key key.Usint) = tt
went (tok.Key key.Uint) = tt
went (tok.Key key.Udint) = tt
went (tok.Key key.Ulint) = tt
went (tok.Key key.Real) = tt
went (tok.Key key.Lreal) = tt
went (tok.Key key.String) = tt
went (tok.Key key.Time) = tt
went (tok.Key key.Array) = tt
went (tok.Key key.Struct) = tt
went (tok.Key key.While) = tt
went (tok.Key key.Repeat) = tt
went (tok.Key key.Until) = tt
went (tok.Key key.Exit) = tt
went (tok.Key key.Continue) = tt
went (tok.Key key.Return) = tt
went (tok.Key key.At) = tt
went (tok.Key key.Function) = tt
went (tok.Key key.FunctionBlock) = tt
went (tok.Sym symbol.Assign) = tt
went (tok.Sym symbol.Colon) = tt
went (tok.Sym symbol.Semi) = tt
went (tok.Sym symbol.Comma) = refl
went (tok.Sym symbol.LParen) = tt
went (tok.Sym symbol.RParen) = refl
went (tok.Sym symbol.DotDot) = tt
went (tok.Sym symbol.Plus) = refl
went (tok.Sym symbol.Minus) = refl
went (tok.Sym symbol.Star) = refl
went (tok.Sym symbol.Slash) = refl
went (tok.Sym symbol.Eq) = refl
went (tok.Sym symbol.Ne) = refl
went (tok.Sym symbol.Le) = refl
went (tok.Sym symbol.Ge) = refl
went (tok.Sym symbol.Lt) = refl
went (tok.Sym symbol.Gt) = refl

-- ---- and forwards

none-is-not-some : (v : Value) → literal_of tok.Name ≡ Some v → ⊥
none-is-not-some v e = absurd cc

sign-no-literal : (op : UnOp) (v : Value) → literal_of (sign op) ≡ Some v → ⊥
sign-no-literal un.Neg v e = absurd cc
sign-no-literal un.Not v e = absurd cc

bracket-no-literal : (v : Value) → literal_of (tok.Sym symbol.LParen) ≡ Some v → ⊥
bracket-no-literal v e = absurd cc

no-literal : (x : Option Value) (v : Value) → x ≡ None → x ≡ Some v → ⊥
no-literal x v e f = absurd cc

one-literal : (x : Option Value) (v w : Value) → x ≡ Some v → x ≡ Some w → v ≡ w
one-literal x v w e f = cc

literal-begins-so : (b : Begins) (k : Tok) (v : Value) → Began b k → literal_of k ≡ Some v → b ≡ begins.Literal v.ty v.value
literal-begins-so (begins.Literal ty x) k v h e =
    ap (λ (w : Value). begins.Literal w.ty w.value) (one-literal (literal_of k) (record { ty = ty; value = x }) v h e)
literal-begins-so begins.Named k v h e = absurd (none-is-not-some v (ap literal_of (sym h) ∙ e))
literal-begins-so (begins.Sign op) k v h e = absurd (sign-no-literal op v (ap literal_of (sym h) ∙ e))
literal-begins-so begins.Opens k v h e = absurd (bracket-no-literal v (ap literal_of (sym h) ∙ e))
literal-begins-so begins.Nothing k v h e = absurd (no-literal (literal_of k) v h e)

pub literal-begins : (k : Tok) (v : Value) → literal_of k ≡ Some v → begins_by k ≡ begins.Literal v.ty v.value
literal-begins k v e = literal-begins-so (begins_by k) k v (begun k) e

pub sign-begins : (op : UnOp) → begins_by (sign op) ≡ begins.Sign op
sign-begins un.Neg = refl
sign-begins un.Not = refl

pub operator-joins : (op : BinOp) → goes_by (operator op) ≡ goes.Joins op
operator-joins bin.Mul = refl
operator-joins bin.Div = refl
operator-joins bin.Mod = refl
operator-joins bin.Add = refl
operator-joins bin.Sub = refl
operator-joins bin.Lt = refl
operator-joins bin.Gt = refl
operator-joins bin.Le = refl
operator-joins bin.Ge = refl
operator-joins bin.Eq = refl
operator-joins bin.Ne = refl
operator-joins bin.And = refl
operator-joins bin.Xor = refl
operator-joins bin.Or = refl

pub operator-opens-not : (op : BinOp) → begins_by (operator op) ≡ begins.Opens → ⊥
operator-opens-not bin.Mul e = absurd cc
operator-opens-not bin.Div e = absurd cc
operator-opens-not bin.Mod e = absurd cc
operator-opens-not bin.Add e = absurd cc
operator-opens-not bin.Sub e = absurd cc
operator-opens-not bin.Lt e = absurd cc
operator-opens-not bin.Gt e = absurd cc
operator-opens-not bin.Le e = absurd cc
operator-opens-not bin.Ge e = absurd cc
operator-opens-not bin.Eq e = absurd cc
operator-opens-not bin.Ne e = absurd cc
operator-opens-not bin.And e = absurd cc
operator-opens-not bin.Xor e = absurd cc
operator-opens-not bin.Or e = absurd cc
