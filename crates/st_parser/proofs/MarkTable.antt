-- MarkTable: the token that a mark stands for.
use Rattle.std.proofs.Common.{◌≡◌, ℕ, ◌==◌, true, cond, refl, sym, ap, ◌∙◌, subst, eqb-true}
use Rattle.st_lexer.specs.declared.token.Key.TheVariants as key
use Rattle.st_lexer.specs.declared.token.Sym.TheVariants as symbol
use Rattle.st_lexer.specs.declared.token.Tok.{Tok}
use Rattle.st_lexer.specs.declared.token.Tok.TheVariants as tok
use Rattle.st_parser.specs.declared.marks.Mark.{Mark}
use Rattle.st_parser.specs.declared.marks.Mark.TheVariants as mark
use Rattle.st_parser.specs.Marks.{mark_of, mark_number, is}

-- the token that the mark stands for, where it stands for one
abbrev pub Marked : Mark → Tok → Type 0
Marked mark.Semi k = k ≡ tok.Sym symbol.Semi
Marked mark.Comma k = k ≡ tok.Sym symbol.Comma
Marked mark.Colon k = k ≡ tok.Sym symbol.Colon
Marked mark.Assign k = k ≡ tok.Sym symbol.Assign
Marked mark.DotDot k = k ≡ tok.Sym symbol.DotDot
Marked mark.Name k = k ≡ tok.Name
Marked mark.Program k = k ≡ tok.Key key.Program
Marked mark.EndProgram k = k ≡ tok.Key key.EndProgram
Marked mark.VarInput k = k ≡ tok.Key key.VarInput
Marked mark.VarOutput k = k ≡ tok.Key key.VarOutput
Marked mark.Var k = k ≡ tok.Key key.Var
Marked mark.Constant k = k ≡ tok.Key key.Constant
Marked mark.Retain k = k ≡ tok.Key key.Retain
Marked mark.EndVar k = k ≡ tok.Key key.EndVar
Marked mark.If k = k ≡ tok.Key key.If
Marked mark.Then k = k ≡ tok.Key key.Then
Marked mark.Elsif k = k ≡ tok.Key key.Elsif
Marked mark.Else k = k ≡ tok.Key key.Else
Marked mark.EndIf k = k ≡ tok.Key key.EndIf
Marked mark.Case k = k ≡ tok.Key key.Case
Marked mark.Of k = k ≡ tok.Key key.Of
Marked mark.EndCase k = k ≡ tok.Key key.EndCase
Marked mark.For k = k ≡ tok.Key key.For
Marked mark.To k = k ≡ tok.Key key.To
Marked mark.By k = k ≡ tok.Key key.By
Marked mark.Do k = k ≡ tok.Key key.Do
Marked mark.EndFor k = k ≡ tok.Key key.EndFor
Marked mark.Other k = Unit {0}
Marked mark.Bool k = k ≡ tok.Key key.Bool
Marked mark.Int k = k ≡ tok.Key key.Int
Marked mark.Dint k = k ≡ tok.Key key.Dint
Marked mark.Lint k = k ≡ tok.Key key.Lint

marked : (k : Tok) → Marked (mark_of k) k
marked tok.Name = refl
marked (tok.Key key.Program) = refl
marked (tok.Key key.EndProgram) = refl
marked (tok.Key key.Var) = refl
marked (tok.Key key.VarInput) = refl
marked (tok.Key key.VarOutput) = refl
marked (tok.Key key.Constant) = refl
marked (tok.Key key.Retain) = refl
marked (tok.Key key.EndVar) = refl
marked (tok.Key key.Bool) = refl
marked (tok.Key key.Int) = refl
marked (tok.Key key.Dint) = refl
marked (tok.Key key.Lint) = refl
marked (tok.Key key.If) = refl
marked (tok.Key key.Then) = refl
marked (tok.Key key.Elsif) = refl
marked (tok.Key key.Else) = refl
marked (tok.Key key.EndIf) = refl
marked (tok.Key key.Case) = refl
marked (tok.Key key.Of) = refl
marked (tok.Key key.EndCase) = refl
marked (tok.Key key.For) = refl
marked (tok.Key key.To) = refl
marked (tok.Key key.By) = refl
marked (tok.Key key.Do) = refl
marked (tok.Key key.EndFor) = refl
marked (tok.Key key.And) = tt
marked (tok.Key key.Or) = tt
marked (tok.Key key.Xor) = tt
marked (tok.Key key.Not) = tt
marked (tok.Key key.Mod) = tt
marked (tok.Key key.True) = tt
marked (tok.Key key.False) = tt
marked (tok.Key key.Sint) = tt
marked (tok.Key key.Usint) = tt
marked (tok.Key key.Uint) = tt
marked (tok.Key key.Udint) = tt
marked (tok.Key key.Ulint) = tt
marked (tok.Key key.Real) = tt
marked (tok.Key key.Lreal) = tt
marked (tok.Key key.String) = tt
marked (tok.Key key.Time) = tt
marked (tok.Key key.Array) = tt
marked (tok.Key key.Struct) = tt
marked (tok.Key key.While) = tt
marked (tok.Key key.Repeat) = tt
marked (tok.Key key.Until) = tt
marked (tok.Key key.Exit) = tt
marked (tok.Key key.Continue) = tt
marked (tok.Key key.Return) = tt
marked (tok.Key key.At) = tt
marked (tok.Key key.Function) = tt
marked (tok.Key key.FunctionBlock) = tt
marked (tok.Number t v) = tt
marked (tok.Sym symbol.Assign) = refl
marked (tok.Sym symbol.Colon) = refl
marked (tok.Sym symbol.Semi) = refl
marked (tok.Sym symbol.Comma) = refl
marked (tok.Sym symbol.LParen) = tt
marked (tok.Sym symbol.RParen) = tt
marked (tok.Sym symbol.DotDot) = refl
marked (tok.Sym symbol.Plus) = tt
marked (tok.Sym symbol.Minus) = tt
marked (tok.Sym symbol.Star) = tt
marked (tok.Sym symbol.Slash) = tt
marked (tok.Sym symbol.Eq) = tt
marked (tok.Sym symbol.Ne) = tt
marked (tok.Sym symbol.Le) = tt
marked (tok.Sym symbol.Ge) = tt
marked (tok.Sym symbol.Lt) = tt
marked (tok.Sym symbol.Gt) = tt

-- the mark of this number
abbrev numbered : ℕ → Mark
numbered n =
    cond (n == 0) mark.Semi (
    cond (n == 1) mark.Comma (
    cond (n == 2) mark.Colon (
    cond (n == 3) mark.Assign (
    cond (n == 4) mark.DotDot (
    cond (n == 5) mark.Name (
    cond (n == 6) mark.Program (
    cond (n == 7) mark.EndProgram (
    cond (n == 8) mark.VarInput (
    cond (n == 9) mark.VarOutput (
    cond (n == 10) mark.Var (
    cond (n == 11) mark.Constant (
    cond (n == 12) mark.Retain (
    cond (n == 13) mark.EndVar (
    cond (n == 14) mark.Bool (
    cond (n == 15) mark.Int (
    cond (n == 16) mark.Dint (
    cond (n == 17) mark.Lint (
    cond (n == 18) mark.If (
    cond (n == 19) mark.Then (
    cond (n == 20) mark.Elsif (
    cond (n == 21) mark.Else (
    cond (n == 22) mark.EndIf (
    cond (n == 23) mark.Case (
    cond (n == 24) mark.Of (
    cond (n == 25) mark.EndCase (
    cond (n == 26) mark.For (
    cond (n == 27) mark.To (
    cond (n == 28) mark.By (
    cond (n == 29) mark.Do (
    cond (n == 30) mark.EndFor mark.Other))))))))))))))))))))))))))))))

numbered_back : (m : Mark) → numbered (mark_number m) ≡ m
numbered_back mark.Semi = refl
numbered_back mark.Comma = refl
numbered_back mark.Colon = refl
numbered_back mark.Assign = refl
numbered_back mark.DotDot = refl
numbered_back mark.Name = refl
numbered_back mark.Program = refl
numbered_back mark.EndProgram = refl
numbered_back mark.VarInput = refl
numbered_back mark.VarOutput = refl
numbered_back mark.Var = refl
numbered_back mark.Constant = refl
numbered_back mark.Retain = refl
numbered_back mark.EndVar = refl
numbered_back mark.If = refl
numbered_back mark.Then = refl
numbered_back mark.Elsif = refl
numbered_back mark.Else = refl
numbered_back mark.EndIf = refl
numbered_back mark.Case = refl
numbered_back mark.Of = refl
numbered_back mark.EndCase = refl
numbered_back mark.For = refl
numbered_back mark.To = refl
numbered_back mark.By = refl
numbered_back mark.Do = refl
numbered_back mark.EndFor = refl
numbered_back mark.Other = refl
numbered_back mark.Bool = refl
numbered_back mark.Int = refl
numbered_back mark.Dint = refl
numbered_back mark.Lint = refl

pub one_mark : (a b : Mark) → is a b ≡ true → a ≡ b
one_mark a b e = sym (numbered_back a) ∙ ap numbered (eqb-true (mark_number a) (mark_number b) e) ∙ numbered_back b

-- the token k is of the mark m, as far as comparing marks goes
abbrev pub IsMark : Mark → Tok → Type 0
IsMark m k = (n : Mark) → is m n ≡ true → Marked n k

pub mark_is : (k : Tok) → IsMark (mark_of k) k
mark_is k n e = subst (λ (x : Mark). Marked x k) (one_mark (mark_of k) n e) (marked k)
