-- The line that sums up the run of a made program. It ends with LF.
use Rattle.std.specs.Prelude.{ℕ, ℤ, List, ◌++◌, decimal, codes}
use Rattle.std.specs.Fmt.{signed_decimal}

-- the program's number, the cycles of its run, the last value of its output, and the sum of all values of that
abbrev pub summary_text : ℕ → ℕ → ℤ → ℤ → List ℕ
summary_text number cycles last sum =
    codes "demo " ++ (decimal number ++ (codes " cycles " ++ (decimal cycles ++ (codes " last " ++ (signed_decimal last ++ (codes " sum " ++ (signed_decimal sum ++ codes "\n")))))))
