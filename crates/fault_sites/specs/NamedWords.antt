-- NamedWords: what single words write.
use Rattle.std.specs.Prelude.{ℕ, ◌==◌, cond, nat_lt, nat_le, List, [], ◌∷◌, length, Option, Some, None, option_map, option_and_then, ℤ}
use Rattle.std.specs.List.{position_or_len, before_first, after_first}
use Rattle.vcp_base.specs.declared.spot.Spot.{Spot}
use Rattle.vcp_base.specs.declared.ty.Ty.TheVariants as ty
use Rattle.vcp_base.specs.Numerals.{in_type, integer_of}
use Rattle.fault_script.specs.Forms.{cycle_of, index_of}
use Rattle.fault_sites.specs.declared.named.when.Span.{Span}

-- what stands before and behind the first byte c of a word
abbrev pub cut : ℕ → List ℕ → Option (List ℕ × List ℕ)
cut c w = cond (nat_lt (position_or_len (λ b. b == c) w) (length w)) (Some (before_first (λ b. b == c) w, after_first (λ b. b == c) w)) None

-- a place in a source, LINE:COL
abbrev pub spot_of : List ℕ → Option Spot
spot_of w =
    option_and_then (λ p. option_and_then (λ l. option_map (λ c. record { line = l; col = c }) (index_of p.1)) (index_of p.0)) (cut 58 w)

-- a number of 64 bits: an optional sign and digits
abbrev pub number_of_64 : List ℕ → Option ℤ
number_of_64 w = option_and_then (in_type ty.Lint) (integer_of w)

-- the cycle behind the second `.` of N..M
abbrev pub last_of : List ℕ → Option ℕ
last_of [] = None
last_of (c ∷ w) = cond (c == 46) (cycle_of w) None

-- cycles from the first to the last
abbrev pub from_to : ℕ → ℕ → Option Span
from_to first last = cond (nat_le first last) (Some (record { first = first; last = last })) None

-- one cycle, or N..M
abbrev pub span_by : List ℕ → Option (List ℕ × List ℕ) → Option Span
span_by w None = option_map (λ n. record { first = n; last = n }) (cycle_of w)
span_by w (Some p) = option_and_then (λ first. option_and_then (λ last. from_to first last) (last_of p.1)) (cycle_of p.0)

abbrev pub span_of : List ℕ → Option Span
span_of w = span_by w (cut 46 w)
