-- Literals: digits in the bases 2, 8, 10 and 16, after a type or without one.
use Rattle.std.specs.Prelude.{◌≡◌, ℕ, ℤ, pos, neg_ℤ, ◌+◌, ◌-◌, ◌*◌, ◌^◌, ◌==◌, Bool, true, false, ◌&&◌, ◌||◌, nat_lt, List, [], ◌∷◌, ◌++◌, length, take, drop}
use Rattle.std.specs.Prelude.{slice_index, Option, Some, None, if◌then◌else◌, codes}
use Rattle.std.specs.List.{prefix_len}
use Rattle.std.specs.Char.{is_ascii_digit, is_ascii_uppercase, is_ascii_lowercase}
use Rattle.std.specs.Str.{str_eq_ignore_ascii_case}
use Rattle.vcp_base.specs.declared.ty.Ty.{Ty}
use Rattle.vcp_base.specs.declared.ty.Ty.TheVariants as ty
use Rattle.vcp_base.specs.Spellings.{ty_name}
use Rattle.vcp_base.specs.Names.{is_letter_or_digit}
use Rattle.st_lexer.specs.declared.literal.Literal.{Literal}
use Rattle.st_lexer.specs.Symbols.{begins}

-- a letter, a digit, `_` or `#` (35): the bytes of a literal's run
abbrev pub is_run : ℕ → Bool
is_run b = is_letter_or_digit b || b == 35

-- the value of a digit, in either case, and 36 where the byte is none
unfoldable pub digit : ℕ → ℕ
digit b =
    if is_ascii_digit b then b - 48
    else (if is_ascii_uppercase b then b - 55
    else (if is_ascii_lowercase b then b - 87
    else 36))

-- s has digits of the base, with a single `_` between two of them; `behind` says that a digit is just before s
unfoldable pub are_digits : ℕ → Bool → List ℕ → Bool
are_digits base behind [] = behind
are_digits base behind (b ∷ s) =
    if nat_lt (digit b) base then are_digits base true s
    else behind && b == 95 && are_digits base false s

-- the number that the digits spell after those that spell `front`, each `_` left out
unfoldable pub number : ℕ → ℕ → List ℕ → ℕ
number base front [] = front
number base front (b ∷ s) = if b == 95 then number base front s else number base (front * base + digit b) s

-- the number that digits of the base spell; none where s is not such digits, or the number is above 2^63 - 1
abbrev pub digits : ℕ → List ℕ → Option ℕ
digits base s =
    if are_digits base false s && nat_lt (number base 0 s) (2 ^ 63) then Some (number base 0 s) else None

-- decimal digits, or a base, `#` and digits of that base
unfoldable pub based : List ℕ → Option ℕ
based run =
    if begins (codes "2#") run then digits 2 (drop 2 run)
    else (if begins (codes "8#") run then digits 8 (drop 2 run)
    else (if begins (codes "16#") run then digits 16 (drop 3 run)
    else digits 10 run))

-- the prefix of a literal of a type; one without has none
abbrev pub prefix : Option Ty → List ℕ
prefix None = []
prefix (Some t) = ty_name t ++ codes "#"

-- s begins with the word of a type and `#`
abbrev pub begins_typed : Ty → List ℕ → Bool
begins_typed t s = str_eq_ignore_ascii_case (take (length (prefix (Some t))) s) (prefix (Some t))

-- a literal begins at s: one of a type by its word and `#`, one without by a digit
abbrev pub BeginsLiteral : Option Ty → List ℕ → Type 0
BeginsLiteral None s = is_ascii_digit (slice_index s 0) ≡ true
BeginsLiteral (Some t) s = begins_typed t s ≡ true

-- INT, DINT and LINT take a sign
abbrev pub takes_sign : Option Ty → Bool
takes_sign None = false
takes_sign (Some ty.Bool) = false
takes_sign (Some ty.Int) = true
takes_sign (Some ty.Dint) = true
takes_sign (Some ty.Lint) = true

-- the text s, behind a prefix, begins with a sign that belongs to the literal, `+` (43) or `-` (45); without decimal digits behind it there is no
-- literal, with the sign or without
abbrev pub signed : Option Ty → List ℕ → Bool
signed t s = takes_sign t && (slice_index s 0 == 43 || slice_index s 0 == 45)

-- the longest run at the front of s
abbrev pub run : List ℕ → List ℕ
run s = take (prefix_len is_run s) s

-- the number of a run without a sign
unfoldable pub plain : Option Ty → List ℕ → Option ℕ
plain (Some ty.Bool) r =
    if str_eq_ignore_ascii_case r (codes "TRUE") then Some 1
    else (if str_eq_ignore_ascii_case r (codes "FALSE") then Some 0
    else based r)
plain (Some ty.Int) r = based r
plain (Some ty.Dint) r = based r
plain (Some ty.Lint) r = based r
plain None r = based r

-- the value of a number behind a sign: 45 is `-`
abbrev pub with_sign : ℕ → ℕ → ℤ
with_sign sign n = if sign == 45 then neg_ℤ (pos n) else pos n

-- a literal of so many bytes, where there is a number
abbrev pub literal_of : ℕ → (ℕ → ℤ) → Option ℕ → Option Literal
literal_of bytes value None = None
literal_of bytes value (Some n) = Some (record { value = value n; len = bytes })

-- the literal of a type (None: of none) that begins at s, where its prefix is left out; no literal where its run is none of the forms, or its number
-- is above 2^63 - 1
unfoldable pub literal_at : Option Ty → List ℕ → Option Literal
literal_at t s =
    if signed t s then literal_of (length (run (drop 1 s)) + 1) (with_sign (slice_index s 0)) (digits 10 (run (drop 1 s)))
    else literal_of (length (run s)) pos (plain t (run s))
