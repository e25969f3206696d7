-- Times: when the cycles of a run begin, where it is known how long a cycle takes.
use Rattle.std.specs.Prelude.{ℕ, ◌*◌, ◌/◌, ◌%◌, ◌-◌, nat_le, ◌&&◌, cond, Option, Some, None, List, [], ◌∷◌, length, take, drop, bytes_eq, codes, decimal, option_and_then}
use Rattle.vcp_base.specs.Numerals.{numeral_of}
use Rattle.pictures.specs.declared.waves.times.TimeUnit.{TimeUnit}
use Rattle.pictures.specs.declared.waves.times.TimeUnit.TheVariants as unit
use Rattle.pictures.specs.declared.waves.times.Period.{Period}

-- ---- as it is drawn

-- a time in s or ms has three digits behind the point: how many such thousandths a unit has
abbrev pub scale_of : TimeUnit → ℕ
scale_of unit.Seconds = 1000
scale_of unit.Milliseconds = 1
scale_of unit.Microseconds = 1

-- in what times are drawn: in ms where a cycle takes microseconds, else in s
abbrev pub drawn_in : TimeUnit → List ℕ
drawn_in unit.Seconds = codes " s"
drawn_in unit.Milliseconds = codes " s"
drawn_in unit.Microseconds = codes " ms"

-- so many thousandths
abbrev pub thousandths_pieces : ℕ → List ℕ → List (List ℕ)
thousandths_pieces n name = decimal (n / 1000) ∷ codes "." ∷ decimal (n % 1000 / 100) ∷ decimal (n % 100 / 10) ∷ decimal (n % 10) ∷ name ∷ []

-- how many thousandths behind the begin of the run a cycle begins
abbrev pub thousandths_at : Period → ℕ → ℕ
thousandths_at p cycle = p.number * scale_of p.unit * cycle

-- when a cycle begins
abbrev pub time_pieces : Period → ℕ → List (List ℕ)
time_pieces p cycle = thousandths_pieces (thousandths_at p cycle) (drawn_in p.unit)

-- ---- as it is named

-- the greatest number of a unit that a cycle may take
abbrev pub most_period : ℕ
most_period = 999999999

-- what stands before these bytes, where a text ends with them
abbrev pub front_before : List ℕ → List ℕ → Option (List ℕ)
front_before end text = cond (bytes_eq (drop (length text - length end) text) end) (Some (take (length text - length end) text)) None

-- a number of a unit
abbrev pub period_in : TimeUnit → ℕ → Option Period
period_in u n = cond (nat_le 1 n && nat_le n most_period) (Some (record { number = n; unit = u })) None

abbrev pub numbered_in : TimeUnit → List ℕ → Option Period
numbered_in u digits = option_and_then (period_in u) (numeral_of digits)

-- what is said by the text before the end of a text, where it ends so, else by another way
abbrev pub said_before : Option (List ℕ) → (List ℕ → Option Period) → Option Period → Option Period
said_before None says other = other
said_before (Some front) says other = says front

-- how long a cycle takes, by a text as `500ms`: a number from 1 to 999,999,999, of at most ten digits, and behind it `s`, `ms` or `us`
abbrev pub period_of : List ℕ → Option Period
period_of text =
    said_before (front_before (codes "ms") text) (numbered_in unit.Milliseconds)
    (said_before (front_before (codes "us") text) (numbered_in unit.Microseconds)
    (option_and_then (numbered_in unit.Seconds) (front_before (codes "s") text)))
