-- Worked: draws and statements of made programs. The numbers are those of a program of another language.
use Rattle.std.specs.Prelude.{◌≡◌, ◌++◌, codes, refl}
use Rattle.program_maker.specs.Draws.{state, draw}
use Rattle.program_maker.specs.MadeSource.{variable, statement}

-- the greatest number of each half begins with one state
begun_alike : state 4294967295 0 ≡ state 2147483647 0
unfolding state
begun_alike = refl

-- the first line of program 1 is of the second form
first_form : draw 1 3 6 ≡ 1
unfolding state
first_form = refl

first_statement : statement 1 0 ≡ variable 38 ++ (codes " := (" ++ (variable 58 ++ codes " - b) MOD 1010;\n"))
unfolding state
first_statement = refl

second_statement : statement 1 1 ≡
    codes "IF " ++ (variable 27 ++ (codes " < " ++ (variable 10 ++ (codes " THEN " ++ (variable 51 ++ (codes " := (" ++ (variable 51 ++ codes " + 1) MOD 1000; END_IF;\n")))))))
unfolding state
second_statement = refl

third_statement : statement 1 2 ≡ variable 12 ++ (codes " := LIMIT(-500, " ++ (variable 86 ++ codes ", 500);\n"))
unfolding state
third_statement = refl
