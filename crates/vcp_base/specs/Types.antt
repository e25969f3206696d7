-- Types: each elementary type of IEC 61131-3 is a range of integers.
use Rattle.std.specs.Prelude.{◌≡◌, Bool, true, false, ◌&&◌, ℤ, pos, negsuc, int_le, List, [], ◌∷◌}
use Rattle.vcp_base.specs.declared.ty.Ty.{Ty}
use Rattle.vcp_base.specs.declared.ty.Ty.TheVariants as ty

-- the least value of a type; `negsuc n` is -(n + 1)
abbrev pub least : Ty → ℤ
least ty.Bool = pos 0
least ty.Int = negsuc 32767
least ty.Dint = negsuc 2147483647
least ty.Lint = negsuc 9223372036854775807

-- the greatest value of a type
abbrev pub greatest : Ty → ℤ
greatest ty.Bool = pos 1
greatest ty.Int = pos 32767
greatest ty.Dint = pos 2147483647
greatest ty.Lint = pos 9223372036854775807

-- v is a value of the type
abbrev pub fits : Ty → ℤ → Bool
fits t v = int_le (least t) v && int_le v (greatest t)

-- each value is in its type, and there are as many values as types
abbrev pub AreIn : List Ty → List ℤ → Type 0
AreIn [] [] = Unit {0}
AreIn [] (v ∷ vs) = ⊥
AreIn (t ∷ ts) [] = ⊥
AreIn (t ∷ ts) (v ∷ vs) = (fits t v ≡ true) × AreIn ts vs

-- Values of the first type are accepted where the second is wanted: the types are equal, or both are among INT, DINT, LINT
-- and the first comes before the second in this order.
abbrev pub within : Ty → Ty → Bool
within ty.Bool ty.Bool = true
within ty.Bool ty.Int = false
within ty.Bool ty.Dint = false
within ty.Bool ty.Lint = false
within ty.Int ty.Bool = false
within ty.Int ty.Int = true
within ty.Int ty.Dint = true
within ty.Int ty.Lint = true
within ty.Dint ty.Bool = false
within ty.Dint ty.Int = false
within ty.Dint ty.Dint = true
within ty.Dint ty.Lint = true
within ty.Lint ty.Bool = false
within ty.Lint ty.Int = false
within ty.Lint ty.Dint = false
within ty.Lint ty.Lint = true

-- the two are one type
abbrev pub same_type : Ty → Ty → Bool
same_type ty.Bool ty.Bool = true
same_type ty.Bool ty.Int = false
same_type ty.Bool ty.Dint = false
same_type ty.Bool ty.Lint = false
same_type ty.Int ty.Bool = false
same_type ty.Int ty.Int = true
same_type ty.Int ty.Dint = false
same_type ty.Int ty.Lint = false
same_type ty.Dint ty.Bool = false
same_type ty.Dint ty.Int = false
same_type ty.Dint ty.Dint = true
same_type ty.Dint ty.Lint = false
same_type ty.Lint ty.Bool = false
same_type ty.Lint ty.Int = false
same_type ty.Lint ty.Dint = false
same_type ty.Lint ty.Lint = true

abbrev pub is_bool : Ty → Bool
is_bool ty.Bool = true
is_bool ty.Int = false
is_bool ty.Dint = false
is_bool ty.Lint = false

-- INT, DINT or LINT
abbrev pub is_number : Ty → Bool
is_number ty.Bool = false
is_number ty.Int = true
is_number ty.Dint = true
is_number ty.Lint = true
