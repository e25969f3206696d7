-- MadeSource: the source text of the program of a number. Each line ends with LF.
use Rattle.std.specs.Prelude.{ℕ, zero, suc, ◌+◌, ◌*◌, ◌==◌, cond, List, [], ◌∷◌, ◌++◌, decimal, codes}
use Rattle.std.specs.List.{flat_map}
use Rattle.program_maker.specs.Draws.{draw}

-- how many variables a made program has
abbrev pub variables : ℕ
variables = 100

-- how many statements it has before its last
abbrev pub statements : ℕ
statements = 1000

-- the first so many of these texts, one behind the other
unfoldable pub joined : (ℕ → List ℕ) → ℕ → List ℕ
joined text zero = []
joined text (suc n) = joined text n ++ text n

-- the name of a variable: `v0` to `v99`
abbrev pub variable : ℕ → List ℕ
variable i = codes "v" ++ decimal i

-- name i of a list of all variables: a comma and a space stand before each but the first
abbrev pub listed : ℕ → List ℕ
listed zero = variable 0
listed (suc i) = codes ", " ++ variable (suc i)

-- its name, its inputs, its output and its variables
abbrev pub heading : List ℕ
heading =
    codes "PROGRAM demo\nVAR_INPUT a, b : DINT; END_VAR\nVAR_OUTPUT y : DINT; END_VAR\nVAR "
    ++ (joined listed variables ++ codes " : DINT; END_VAR\n")

-- the line of a form, 0 to 5, whose letters p, q and r stand for variables
abbrev pub form_line : ℕ → List ℕ
form_line form =
    cond (form == 0) (codes "p := (q + a) MOD 1000;\n")
    (cond (form == 1) (codes "p := (q - b) MOD 1010;\n")
    (cond (form == 2) (codes "p := (q * r) MOD 1020;\n")
    (cond (form == 3) (codes "IF q < r THEN p := (p + 1) MOD 1000; END_IF;\n")
    (cond (form == 4) (codes "p := SEL(q = r, q, a MOD 1030);\n")
    (codes "p := LIMIT(-500, q, 500);\n")))))

-- a byte of a line on the variables p, q and r: the letters (112, 113 and 114 in ASCII) stand for their names
abbrev pub part : ℕ → ℕ → ℕ → ℕ → List ℕ
part p q r byte = cond (byte == 112) (variable p) (cond (byte == 113) (variable q) (cond (byte == 114) (variable r) (byte ∷ [])))

-- a line on the variables p, q and r
abbrev pub filled : ℕ → ℕ → ℕ → List ℕ → List ℕ
filled p q r line = flat_map (part p q r) line

-- statement i, counted from 0: it draws p, q and r, and then the form
abbrev pub statement : ℕ → ℕ → List ℕ
statement number i =
    filled (draw number (4 * i) variables) (draw number (4 * i + 1) variables) (draw number (4 * i + 2) variables) (form_line (draw number (4 * i + 3) 6))

-- the statement that sets the output, and the program's end
abbrev pub ending : List ℕ
ending = codes "y := v0 + v1 + v2 + v3;\nEND_PROGRAM\n"

-- the source of the program of a number
abbrev pub made_source : ℕ → List ℕ
made_source number = heading ++ (joined (statement number) statements ++ ending)
