-- MadeRows: the rows file that the program of a number runs on. Each line ends with LF.
use Rattle.std.specs.Prelude.{ℕ, ◌+◌, ◌*◌, List, ◌++◌, ℤ, pos, ◌-ℤ◌, codes}
use Rattle.std.specs.Fmt.{signed_decimal}
use Rattle.program_maker.specs.Draws.{draw}
use Rattle.program_maker.specs.MadeSource.{statements, joined}

-- how many cycles a made program runs
abbrev pub cycles : ℕ
cycles = 1000

-- the draws that the statements take come first
abbrev pub draws_of_statements : ℕ
draws_of_statements = 4 * statements

-- an input of as many choices as -1000 to 1000 are
abbrev pub input : ℕ → ℤ
input drawn = pos drawn -ℤ pos 1000

-- the record of cycle i: the input a, and then b
abbrev pub row : ℕ → ℕ → List ℕ
row number i =
    signed_decimal (input (draw number (draws_of_statements + 2 * i) 2001))
    ++ (codes "," ++ (signed_decimal (input (draw number (draws_of_statements + (2 * i + 1)) 2001)) ++ codes "\n"))

-- the rows that the program of a number runs on
abbrev pub made_rows : ℕ → List ℕ
made_rows number = codes "a,b\n" ++ joined (row number) cycles
