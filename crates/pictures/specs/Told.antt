-- Told: what a call that reads lines answers.
use Rattle.std.specs.Prelude.{◌≡◌, ◌≢◌, ℕ, List, length, All, ⊤, Result, Ok, Err, ℤ}
use Rattle.pictures.specs.declared.waves.fault.RunTextFault.{RunTextFault}
use Rattle.pictures.specs.declared.waves.fault.RunTextFault.TheVariants as fault
use Rattle.pictures.specs.declared.waves.ending.Ending.{Ending}
use Rattle.pictures.specs.declared.waves.lines.Line.{Line}
use Rattle.pictures.specs.declared.waves.lines.Line.TheVariants as line
use Rattle.pictures.specs.RunOf.{ToldLines}

-- the rows and the last line are those that are told, or the refusal is, or it is for want of memory
abbrev pub Tells : ToldLines → Result (List (List ℤ) × Ending) RunTextFault → Type 0
Tells told (Ok read) = told ≡ record { rows = read.0; behind = Ok read.1 }
Tells told (Err why) = why ≢ fault.Memory → told.behind ≡ Err why

-- a fact of a line that is a row
abbrev pub IfRow : Line → (List ℤ → Type 0) → Type 0
IfRow (line.Row row) fact = fact row
IfRow (line.Last ending) fact = ⊤

-- each row has so many values
abbrev pub HasWidth : ℕ → List (List ℤ) → Type 0
HasWidth width rows = All (λ row. length row ≡ width) rows
