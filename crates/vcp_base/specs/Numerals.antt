-- Numerals: which number a text writes in decimal digits.
use Rattle.std.specs.Prelude.{ℕ, ◌+◌, ◌-◌, ◌*◌, ◌^◌, min, ◌==◌, cond, ◌&&◌, nat_le, List, [], ◌∷◌, length, fold, Option, Some, None, option_map, ℤ, pos, neg_ℤ}
use Rattle.std.specs.Char.{is_ascii_digit}
use Rattle.std.specs.List.{list_all}
use Rattle.std.specs.Str.{all_ascii_digits}
use Rattle.std.specs.Str.Parse.{digits_value}
use Rattle.vcp_base.specs.declared.ty.Ty.{Ty}
use Rattle.vcp_base.specs.Types.{fits}

-- the number that one to ten decimal digits write; leading zeros are allowed
abbrev pub numeral_of : List ℕ → Option ℕ
numeral_of digits = cond (nat_le 1 (length digits) && (nat_le (length digits) 10 && all_ascii_digits digits)) (Some (digits_value 10 digits)) None

-- the number that decimal digits spell
abbrev pub number_of : List ℕ → ℕ
number_of digits = fold (λ n digit. n * 10 + (digit - 48)) 0 digits

-- one or more decimal digits
abbrev pub natural_of : List ℕ → Option ℕ
natural_of [] = None
natural_of (c ∷ text) = cond (list_all is_ascii_digit (c ∷ text)) (Some (number_of (c ∷ text))) None

-- a number as an integer, cut to one that no type has
abbrev pub cut_natural : Option ℕ → Option ℤ
cut_natural o = option_map (λ n. pos (min n (2 ^ 64))) o

-- an optional `+` or `-`, and one or more decimal digits
abbrev pub integer_of : List ℕ → Option ℤ
integer_of [] = None
integer_of (c ∷ text) =
    cond (c == 43) (option_map pos (natural_of text))
    (cond (c == 45) (option_map (λ n. neg_ℤ (pos n)) (natural_of text))
    (option_map pos (natural_of (c ∷ text))))

-- the value, where it is one of the type
abbrev pub in_type : Ty → ℤ → Option ℤ
in_type t v = cond (fits t v) (Some v) None
