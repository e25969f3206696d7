-- Draws: the numbers that a program is made of, by a linear congruential generator modulo 2^31.
use Rattle.std.specs.Prelude.{ℕ, zero, suc, ◌+◌, ◌*◌, ◌/◌, ◌%◌, ◌^◌}

-- how many states the generator has
abbrev pub states : ℕ
states = 2 ^ 31

-- the state after a state
abbrev pub next : ℕ → ℕ
next s = (1103515245 * s + 12345) % states

-- the generator's state after so many draws for the program of a number
unfoldable pub state : ℕ → ℕ → ℕ
state number zero = number % states
state number (suc draws) = next (state number draws)

-- one of as many choices, counted from 0, by a state: its low bits are left out
abbrev pub chosen : ℕ → ℕ → ℕ
chosen choices s = (s / 65536) % choices

-- draw `i`, counted from 0, of as many choices
abbrev pub draw : ℕ → ℕ → ℕ → ℕ
draw number i choices = chosen choices (state number (suc i))
