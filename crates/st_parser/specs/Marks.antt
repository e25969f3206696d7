-- Marks: what a token does, by its place.
-- How the parser reads, and no promise: what it promises is in Answers.
use Rattle.std.specs.Prelude.{ℕ, ◌==◌, Bool, pos, Some}
use Rattle.vcp_base.specs.declared.ty.Ty.TheVariants as ty
use Rattle.st_lexer.specs.declared.token.Key.TheVariants as key
use Rattle.st_lexer.specs.declared.token.Sym.TheVariants as sym
use Rattle.st_lexer.specs.declared.token.Tok.{Tok}
use Rattle.st_lexer.specs.declared.token.Tok.TheVariants as tok
use Rattle.st_tree.specs.declared.expr.UnOp.TheVariants as un
use Rattle.st_tree.specs.declared.expr.BinOp.TheVariants as bin
use Rattle.st_parser.specs.declared.marks.Begins.{Begins}
use Rattle.st_parser.specs.declared.marks.Begins.TheVariants as begins
use Rattle.st_parser.specs.declared.marks.Goes.{Goes}
use Rattle.st_parser.specs.declared.marks.Goes.TheVariants as goes
use Rattle.st_parser.specs.declared.marks.Mark.{Mark}
use Rattle.st_parser.specs.declared.marks.Mark.TheVariants as mark

-- what a token begins where an operand is wanted
abbrev pub begins_by : Tok → Begins
begins_by (tok.Number t v) = begins.Literal t v
begins_by (tok.Key key.True) = begins.Literal (Some ty.Bool) (pos 1)
begins_by (tok.Key key.False) = begins.Literal (Some ty.Bool) (pos 0)
begins_by tok.Name = begins.Named
begins_by (tok.Sym sym.Minus) = begins.Sign un.Neg
begins_by (tok.Key key.Not) = begins.Sign un.Not
begins_by (tok.Sym sym.LParen) = begins.Opens
begins_by _ = begins.Nothing

-- what a token does behind an operand
abbrev pub goes_by : Tok → Goes
goes_by (tok.Sym sym.Star) = goes.Joins bin.Mul
goes_by (tok.Sym sym.Slash) = goes.Joins bin.Div
goes_by (tok.Key key.Mod) = goes.Joins bin.Mod
goes_by (tok.Sym sym.Plus) = goes.Joins bin.Add
goes_by (tok.Sym sym.Minus) = goes.Joins bin.Sub
goes_by (tok.Sym sym.Lt) = goes.Joins bin.Lt
goes_by (tok.Sym sym.Gt) = goes.Joins bin.Gt
goes_by (tok.Sym sym.Le) = goes.Joins bin.Le
goes_by (tok.Sym sym.Ge) = goes.Joins bin.Ge
goes_by (tok.Sym sym.Eq) = goes.Joins bin.Eq
goes_by (tok.Sym sym.Ne) = goes.Joins bin.Ne
goes_by (tok.Key key.And) = goes.Joins bin.And
goes_by (tok.Key key.Xor) = goes.Joins bin.Xor
goes_by (tok.Key key.Or) = goes.Joins bin.Or
goes_by (tok.Sym sym.RParen) = goes.Closes
goes_by (tok.Sym sym.Comma) = goes.Parts
goes_by _ = goes.Ends

-- what a token is outside expressions
abbrev pub mark_of : Tok → Mark
mark_of (tok.Sym sym.Semi) = mark.Semi
mark_of (tok.Sym sym.Comma) = mark.Comma
mark_of (tok.Sym sym.Colon) = mark.Colon
mark_of (tok.Sym sym.Assign) = mark.Assign
mark_of (tok.Sym sym.DotDot) = mark.DotDot
mark_of tok.Name = mark.Name
mark_of (tok.Key key.Program) = mark.Program
mark_of (tok.Key key.EndProgram) = mark.EndProgram
mark_of (tok.Key key.VarInput) = mark.VarInput
mark_of (tok.Key key.VarOutput) = mark.VarOutput
mark_of (tok.Key key.Var) = mark.Var
mark_of (tok.Key key.Constant) = mark.Constant
mark_of (tok.Key key.Retain) = mark.Retain
mark_of (tok.Key key.EndVar) = mark.EndVar
mark_of (tok.Key key.Bool) = mark.Bool
mark_of (tok.Key key.Int) = mark.Int
mark_of (tok.Key key.Dint) = mark.Dint
mark_of (tok.Key key.Lint) = mark.Lint
mark_of (tok.Key key.If) = mark.If
mark_of (tok.Key key.Then) = mark.Then
mark_of (tok.Key key.Elsif) = mark.Elsif
mark_of (tok.Key key.Else) = mark.Else
mark_of (tok.Key key.EndIf) = mark.EndIf
mark_of (tok.Key key.Case) = mark.Case
mark_of (tok.Key key.Of) = mark.Of
mark_of (tok.Key key.EndCase) = mark.EndCase
mark_of (tok.Key key.For) = mark.For
mark_of (tok.Key key.To) = mark.To
mark_of (tok.Key key.By) = mark.By
mark_of (tok.Key key.Do) = mark.Do
mark_of (tok.Key key.EndFor) = mark.EndFor
mark_of _ = mark.Other

-- a number for each mark
abbrev pub mark_number : Mark → ℕ
mark_number mark.Semi = 0
mark_number mark.Comma = 1
mark_number mark.Colon = 2
mark_number mark.Assign = 3
mark_number mark.DotDot = 4
mark_number mark.Name = 5
mark_number mark.Program = 6
mark_number mark.EndProgram = 7
mark_number mark.VarInput = 8
mark_number mark.VarOutput = 9
mark_number mark.Var = 10
mark_number mark.Constant = 11
mark_number mark.Retain = 12
mark_number mark.EndVar = 13
mark_number mark.Bool = 14
mark_number mark.Int = 15
mark_number mark.Dint = 16
mark_number mark.Lint = 17
mark_number mark.If = 18
mark_number mark.Then = 19
mark_number mark.Elsif = 20
mark_number mark.Else = 21
mark_number mark.EndIf = 22
mark_number mark.Case = 23
mark_number mark.Of = 24
mark_number mark.EndCase = 25
mark_number mark.For = 26
mark_number mark.To = 27
mark_number mark.By = 28
mark_number mark.Do = 29
mark_number mark.EndFor = 30
mark_number mark.Other = 31

-- two marks are one
abbrev pub is : Mark → Mark → Bool
is a b = mark_number a == mark_number b
