-- Rules: the types of operators and functions.
use Rattle.std.specs.Prelude.{Bool, true, false, cond, List, [], ◌∷◌, Option, Some, None, option_and_then}
use Rattle.vcp_base.specs.declared.ty.Ty.{Ty}
use Rattle.vcp_base.specs.declared.ty.Ty.TheVariants as ty
use Rattle.vcp_base.specs.Types.{same_type}
use Rattle.st_tree.specs.declared.expr.UnOp.{UnOp}
use Rattle.st_tree.specs.declared.expr.UnOp.TheVariants as un
use Rattle.st_tree.specs.declared.expr.BinOp.{BinOp}
use Rattle.st_tree.specs.declared.expr.BinOp.TheVariants as bin
use Rattle.vcp_typed.specs.declared.expr.Fun.{Fun}
use Rattle.vcp_typed.specs.declared.expr.Fun.TheVariants as fun

-- a value of the first type widens to the second: INT to DINT and LINT, and DINT to LINT
abbrev pub widens : Ty → Ty → Bool
widens ty.Bool ty.Bool = false
widens ty.Bool ty.Int = false
widens ty.Bool ty.Dint = false
widens ty.Bool ty.Lint = false
widens ty.Int ty.Bool = false
widens ty.Int ty.Int = false
widens ty.Int ty.Dint = true
widens ty.Int ty.Lint = true
widens ty.Dint ty.Bool = false
widens ty.Dint ty.Int = false
widens ty.Dint ty.Dint = false
widens ty.Dint ty.Lint = true
widens ty.Lint ty.Bool = false
widens ty.Lint ty.Int = false
widens ty.Lint ty.Dint = false
widens ty.Lint ty.Lint = false

-- the type to which two types of numbers widen
abbrev pub joined : Ty → Ty → Option Ty
joined ty.Bool u = None
joined ty.Int ty.Bool = None
joined ty.Int ty.Int = Some ty.Int
joined ty.Int ty.Dint = Some ty.Dint
joined ty.Int ty.Lint = Some ty.Lint
joined ty.Dint ty.Bool = None
joined ty.Dint ty.Int = Some ty.Dint
joined ty.Dint ty.Dint = Some ty.Dint
joined ty.Dint ty.Lint = Some ty.Lint
joined ty.Lint ty.Bool = None
joined ty.Lint ty.Int = Some ty.Lint
joined ty.Lint ty.Dint = Some ty.Lint
joined ty.Lint ty.Lint = Some ty.Lint

-- BOOL, of two BOOL
abbrev pub both_bool : Ty → Ty → Option Ty
both_bool ty.Bool ty.Bool = Some ty.Bool
both_bool ty.Bool ty.Int = None
both_bool ty.Bool ty.Dint = None
both_bool ty.Bool ty.Lint = None
both_bool ty.Int u = None
both_bool ty.Dint u = None
both_bool ty.Lint u = None

-- the common type of two numbers or of two BOOL
abbrev pub joined_or_bool : Ty → Ty → Option Ty
joined_or_bool ty.Bool u = both_bool ty.Bool u
joined_or_bool ty.Int u = joined ty.Int u
joined_or_bool ty.Dint u = joined ty.Dint u
joined_or_bool ty.Lint u = joined ty.Lint u

-- the common type of an operator's operands, where it takes operands of these types
abbrev pub common : BinOp → Ty → Ty → Option Ty
common bin.Mul = joined
common bin.Div = joined
common bin.Mod = joined
common bin.Add = joined
common bin.Sub = joined
common bin.Lt = joined
common bin.Gt = joined
common bin.Le = joined
common bin.Ge = joined
common bin.Eq = joined_or_bool
common bin.Ne = joined_or_bool
common bin.And = both_bool
common bin.Xor = both_bool
common bin.Or = both_bool

-- the type of an operator's value, where its operands have this one
abbrev pub result : BinOp → Ty → Ty
result bin.Mul t = t
result bin.Div t = t
result bin.Mod t = t
result bin.Add t = t
result bin.Sub t = t
result bin.Lt t = ty.Bool
result bin.Gt t = ty.Bool
result bin.Le t = ty.Bool
result bin.Ge t = ty.Bool
result bin.Eq t = ty.Bool
result bin.Ne t = ty.Bool
result bin.And t = ty.Bool
result bin.Xor t = ty.Bool
result bin.Or t = ty.Bool

-- the type of a sign's value, where it takes an operand of this type
abbrev pub signed : UnOp → Ty → Option Ty
signed un.Neg ty.Bool = None
signed un.Neg ty.Int = Some ty.Int
signed un.Neg ty.Dint = Some ty.Dint
signed un.Neg ty.Lint = Some ty.Lint
signed un.Not ty.Bool = Some ty.Bool
signed un.Not ty.Int = None
signed un.Not ty.Dint = None
signed un.Not ty.Lint = None

-- these types, where the value's type is one of numbers
abbrev pub of_numbers : List Ty → Ty → Option (List Ty)
of_numbers ts ty.Bool = None
of_numbers ts ty.Int = Some ts
of_numbers ts ty.Dint = Some ts
of_numbers ts ty.Lint = Some ts

-- the types of a conversion: that of its argument, and that of its value; none where the function is no conversion
abbrev pub conversion : Fun → Option (Ty × Ty)
conversion fun.Abs = None
conversion fun.Min = None
conversion fun.Max = None
conversion fun.Limit = None
conversion fun.Sel = None
conversion fun.IntToDint = Some (ty.Int, ty.Dint)
conversion fun.IntToLint = Some (ty.Int, ty.Lint)
conversion fun.DintToInt = Some (ty.Dint, ty.Int)
conversion fun.DintToLint = Some (ty.Dint, ty.Lint)
conversion fun.LintToInt = Some (ty.Lint, ty.Int)
conversion fun.LintToDint = Some (ty.Lint, ty.Dint)
conversion fun.BoolToInt = Some (ty.Bool, ty.Int)

-- the one argument's type, where the conversion's value has the type t
abbrev pub converted_from : Ty × Ty → Ty → Option (List Ty)
converted_from types t = cond (same_type t types.1) (Some (types.0 ∷ [])) None

-- the types of a function's arguments, where its value has this type; none where it hasn't such a value
abbrev pub arguments : Fun → Ty → Option (List Ty)
arguments fun.Abs t = of_numbers (t ∷ []) t
arguments fun.Min t = of_numbers (t ∷ t ∷ []) t
arguments fun.Max t = of_numbers (t ∷ t ∷ []) t
arguments fun.Limit t = of_numbers (t ∷ t ∷ t ∷ []) t
arguments fun.Sel t = Some (ty.Bool ∷ t ∷ t ∷ [])
arguments f t = option_and_then (λ types. converted_from types t) (conversion f)
