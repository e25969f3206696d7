-- Forms: what the words of a line of a wire's script say.
use Rattle.std.specs.Prelude.{ℕ, ◌==◌, Bool, false, ◌&&◌, cond, List, [], ◌∷◌, length, Option, Some, None, option_map, option_and_then, Result, Ok, Err, ℤ, pos, int_le, int_lt, unsigned_abs, codes, bytes_eq}
use Rattle.std.specs.List.{list_all}
use Rattle.vcp_base.specs.declared.ty.Ty.TheVariants as ty
use Rattle.vcp_base.specs.Limits.{seeds, most_step, most_cycles}
use Rattle.vcp_base.specs.Types.{fits}
use Rattle.vcp_base.specs.Numerals.{integer_of}
use Rattle.vcp_base.specs.Integers.{as_lint, is_addend}
use Rattle.telegram.specs.declared.event.Event.{Event}
use Rattle.telegram.specs.declared.event.Event.TheVariants as event
use Rattle.telegram.specs.declared.wire.Wire.{Wire}
use Rattle.telegram.specs.Sendings.{most_senders}
use Rattle.telegram.specs.declared.script.wire_fault.WireFault.{WireFault}
use Rattle.telegram.specs.declared.script.wire_fault.WireFault.TheVariants as refusal

-- ---- numbers

-- The numbers that these words write, where each writes one. A number that hasn't 64 bits counts as the greatest that has, which
-- is in none of the ranges below, as it isn't itself.
abbrev pub integers_of : List (List ℕ) → Option (List ℤ)
integers_of [] = Some []
integers_of (w ∷ ws) = option_and_then (λ v. option_map (λ vs. v ∷ vs) (integers_of ws)) (option_map as_lint (integer_of w))

-- v is at least the one and at most the other
abbrev pub is_between : ℕ → ℕ → ℤ → Bool
is_between least most v = int_le (pos least) v && int_le v (pos most)

-- v is one of so many, counted from 0
abbrev pub is_below : ℤ → ℤ → Bool
is_below many v = int_le (pos 0) v && int_lt v many

-- ---- the first line

-- the number, where it is at least the one and at most the other
abbrev pub number_between : ℕ → ℕ → ℤ → Option ℕ
number_between least most v = cond (is_between least most v) (Some (unsigned_abs v)) None

-- the number, where it is one of so many, counted from 0
abbrev pub number_below : ℕ → ℤ → Option ℕ
number_below many v = cond (is_below (pos many) v) (Some (unsigned_abs v)) None

-- The wire of five numbers, where each is in its range: there are 1 to 16 senders, and the heard one is one of them; the age is one of
-- 1,000,000; and the seed and the step are those of a code.
abbrev pub wire_with : (senders listen age seed step : ℤ) → Option Wire
wire_with senders listen age seed step =
    option_and_then
    (λ many. option_and_then
    (λ listen. option_and_then
    (λ age. option_and_then
    (λ seed. option_map (λ step. record { senders = many; listen = listen; age = age; seed = seed; step = step }) (number_between 1 most_step step))
    (number_below seeds seed))
    (number_below most_cycles age))
    (number_below many listen))
    (number_between 1 most_senders senders)

-- a wire, unless there is none
abbrev pub or_range : ℕ → Option Wire → Result Wire WireFault
or_range number None = Err (refusal.Range number)
or_range number (Some w) = Ok w

-- the wire of five numbers, unless one is out of its range
abbrev pub wire_if : ℕ → (senders listen age seed step : ℤ) → Result Wire WireFault
wire_if number senders listen age seed step = or_range number (wire_with senders listen age seed step)

-- the wire of a line with these numbers behind `wire`, of which there are five
abbrev pub wire_of : ℕ → Option (List ℤ) → Result Wire WireFault
wire_of number (Some (senders ∷ listen ∷ age ∷ seed ∷ step ∷ [])) = wire_if number senders listen age seed step
wire_of number _ = Err (refusal.Form number)

-- what the words of the first line say
abbrev pub head_of : ℕ → List (List ℕ) → Result Wire WireFault
head_of number [] = Err (refusal.Form number)
head_of number (verb ∷ more) = cond (bytes_eq verb (codes "wire")) (wire_of number (integers_of more)) (Err (refusal.Form number))

-- ---- the lines behind it

-- the cycle of a line with these values: a DINT for each sender
abbrev pub cycle_of : Wire → ℕ → Option (List ℤ) → Result Event WireFault
cycle_of w number None = Err (refusal.Form number)
cycle_of w number (Some values) =
    cond (length values == w.senders && list_all (fits ty.Dint) values) (Ok (event.Cycle values)) (Err (refusal.Range number))

-- A delivery of three numbers after so many cycles. What is added is at most 2^62 in size; then, the sender is one of the wire's, and
-- the cycle has begun.
abbrev pub delivery_if : Wire → ℕ → ℕ → (id n alter : ℤ) → Result Event WireFault
delivery_if w begun number id n alter =
    cond (is_addend alter)
    (cond (is_below (pos w.senders) id && is_below (pos begun) n)
    (Ok (event.Deliver number (unsigned_abs id) (unsigned_abs n) alter))
    (Err (refusal.Unsent number)))
    (Err (refusal.Range number))

-- the delivery of a line with these numbers behind `deliver`, of which there are three
abbrev pub delivery_of : Wire → ℕ → ℕ → Option (List ℤ) → Result Event WireFault
delivery_of w begun number (Some (id ∷ n ∷ alter ∷ [])) = delivery_if w begun number id n alter
delivery_of w begun number _ = Err (refusal.Form number)

-- what the words of a line behind the first say, after so many cycles
abbrev pub event_of : Wire → ℕ → ℕ → List (List ℕ) → Result Event WireFault
event_of w begun number [] = Err (refusal.Form number)
event_of w begun number (verb ∷ more) =
    cond (bytes_eq verb (codes "cycle")) (cycle_of w number (integers_of more))
    (cond (bytes_eq verb (codes "deliver")) (delivery_of w begun number (integers_of more))
    (Err (refusal.Form number)))

-- the first word is `wire`
abbrev pub names_wire : List (List ℕ) → Bool
names_wire [] = false
names_wire (verb ∷ more) = bytes_eq verb (codes "wire")
