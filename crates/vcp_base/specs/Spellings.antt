-- Spellings: the codes and the names of kinds, types and stops, in images, scripts and printed lines.
use Rattle.std.specs.Prelude.{ℕ, List, [], ◌∷◌, codes}
use Rattle.vcp_base.specs.declared.ty.Ty.{Ty}
use Rattle.vcp_base.specs.declared.ty.Ty.TheVariants as ty
use Rattle.vcp_base.specs.declared.kind.Kind.{Kind}
use Rattle.vcp_base.specs.declared.kind.Kind.TheVariants as kind
use Rattle.vcp_base.specs.declared.kind.StopKind.{StopKind}
use Rattle.vcp_base.specs.declared.kind.StopKind.TheVariants as stop

-- the kinds in the order of their codes, from 0
abbrev pub kinds : List Kind
kinds =
    kind.Input ∷ kind.Const ∷ kind.Load ∷ kind.Store ∷ kind.Out ∷ kind.Conv ∷ kind.Neg ∷ kind.Not ∷ kind.Add ∷ kind.Sub
    ∷ kind.Mul ∷ kind.Div ∷ kind.Mod ∷ kind.Eq ∷ kind.Lt ∷ kind.And ∷ kind.Or ∷ kind.Xor ∷ kind.Sel ∷ []

-- the code of a kind: its place among the kinds
abbrev pub kind_code : Kind → ℕ
kind_code kind.Input = 0
kind_code kind.Const = 1
kind_code kind.Load = 2
kind_code kind.Store = 3
kind_code kind.Out = 4
kind_code kind.Conv = 5
kind_code kind.Neg = 6
kind_code kind.Not = 7
kind_code kind.Add = 8
kind_code kind.Sub = 9
kind_code kind.Mul = 10
kind_code kind.Div = 11
kind_code kind.Mod = 12
kind_code kind.Eq = 13
kind_code kind.Lt = 14
kind_code kind.And = 15
kind_code kind.Or = 16
kind_code kind.Xor = 17
kind_code kind.Sel = 18

-- the name of a kind
abbrev pub kind_name : Kind → List ℕ
kind_name kind.Input = codes "INPUT"
kind_name kind.Const = codes "CONST"
kind_name kind.Load = codes "LOAD"
kind_name kind.Store = codes "STORE"
kind_name kind.Out = codes "OUT"
kind_name kind.Conv = codes "CONV"
kind_name kind.Neg = codes "NEG"
kind_name kind.Not = codes "NOT"
kind_name kind.Add = codes "ADD"
kind_name kind.Sub = codes "SUB"
kind_name kind.Mul = codes "MUL"
kind_name kind.Div = codes "DIV"
kind_name kind.Mod = codes "MOD"
kind_name kind.Eq = codes "EQ"
kind_name kind.Lt = codes "LT"
kind_name kind.And = codes "AND"
kind_name kind.Or = codes "OR"
kind_name kind.Xor = codes "XOR"
kind_name kind.Sel = codes "SEL"

-- the types in the order of their codes, from 0
abbrev pub types : List Ty
types = ty.Bool ∷ ty.Int ∷ ty.Dint ∷ ty.Lint ∷ []

-- the code of a type: its place among the types
abbrev pub ty_code : Ty → ℕ
ty_code ty.Bool = 0
ty_code ty.Int = 1
ty_code ty.Dint = 2
ty_code ty.Lint = 3

-- the name of a type
abbrev pub ty_name : Ty → List ℕ
ty_name ty.Bool = codes "BOOL"
ty_name ty.Int = codes "INT"
ty_name ty.Dint = codes "DINT"
ty_name ty.Lint = codes "LINT"

-- the name of a kind of stop
abbrev pub stop_name : StopKind → List ℕ
stop_name stop.Range = codes "RANGE"
stop_name stop.DivZero = codes "DIVZERO"
stop_name stop.Operand = codes "OPERAND"
