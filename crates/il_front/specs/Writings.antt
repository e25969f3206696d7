-- Writings: lines as the code keeps them, where names are tokens of the text.
use Rattle.std.specs.Prelude.{◌≡◌, ℕ, ◌<◌, ◌==◌, Bool, false, neg_ℤ, List, [], ◌∷◌, length, None}
use Rattle.st_lexer.specs.declared.token.Token.{Token}
use Rattle.st_lexer.specs.Reading.{IsInside}
use Rattle.st_tree.specs.Spelling.{bytes_in}
use Rattle.il_front.specs.declared.line.Words.{Words}
use Rattle.il_front.specs.declared.line.Words.TheVariants as words
use Rattle.il_front.specs.declared.line.Writing.{Writing}
use Rattle.il_front.specs.declared.line.Writing.TheVariants as writing
use Rattle.il_front.specs.declared.line.FormedLine.{FormedLine}
use Rattle.il_front.specs.Judging.{Written, nothing, name, number, Line}

-- the second of these tokens is in the line of the first
abbrev pub goes_on : List Token → Bool
goes_on [] = false
goes_on (t ∷ []) = false
goes_on (t ∷ u ∷ us) = t.spot.line == u.spot.line

-- the line has these tokens
abbrev pub AreWords : Words → List Token → Type 0
AreWords (words.One t) l = l ≡ t ∷ []
AreWords (words.Two t u) l = l ≡ t ∷ u ∷ []
AreWords (words.Three t u v) l = l ≡ t ∷ u ∷ v ∷ []
AreWords words.More l = 3 < length l

-- those that are kept are in the text
abbrev pub AreInside : List ℕ → Words → Type 0
AreInside text (words.One t) = IsInside text t
AreInside text (words.Two t u) = IsInside text t × IsInside text u
AreInside text (words.Three t u v) = IsInside text t × IsInside text u × IsInside text v
AreInside text words.More = Unit {0}

-- an operand that the code keeps, as it is written in the text
abbrev pub written_in : List ℕ → Writing → Written
written_in text writing.Nothing = nothing
written_in text (writing.Name t) = name (bytes_in text t)
written_in text (writing.Number ty v) = number ty v
written_in text (writing.Negative v) = number None (neg_ℤ v)

-- its token is in the text
abbrev pub InsideWriting : List ℕ → Writing → Type 0
InsideWriting text writing.Nothing = Unit {0}
InsideWriting text (writing.Name t) = IsInside text t
InsideWriting text (writing.Number ty v) = Unit {0}
InsideWriting text (writing.Negative v) = Unit {0}

abbrev pub line_in : List ℕ → FormedLine → Line
line_in text l = record { operator = l.operator; operand = written_in text l.operand; spot = l.spot; at = l.at }
