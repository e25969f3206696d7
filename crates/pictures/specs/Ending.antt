-- Ending: which text is the last line of a run.
use Rattle.std.specs.Prelude.{ℕ, cond, Bool, true, false, List, [], ◌∷◌, take, drop, length, bytes_eq, codes, decimal, Option, Some, None, option_and_then}
use Rattle.std.specs.Option.{is_some}
use Rattle.pictures.specs.declared.waves.ending.Mark.{Mark}
use Rattle.pictures.specs.declared.waves.ending.Mark.TheVariants as mark

-- what stands behind these bytes, where a text begins with them
abbrev pub rest_behind : List ℕ → List ℕ → Option (List ℕ)
rest_behind front text = cond (bytes_eq (take (length front) text) front) (Some (drop (length front) text)) None

-- what stands behind a word and a number
abbrev pub rest_behind_number : List ℕ → ℕ → List ℕ → Option (List ℕ)
rest_behind_number word n text = option_and_then (rest_behind (decimal n)) (rest_behind word text)

abbrev pub is_nothing : Option (List ℕ) → Bool
is_nothing None = false
is_nothing (Some []) = true
is_nothing (Some (b ∷ text)) = false

-- the end of a run over all its rows, which are so many
abbrev pub is_end : ℕ → List ℕ → Bool
is_end rows text = is_nothing (rest_behind_number (codes "end ") rows text)

-- a stop in this cycle, or an output that was refused in it
abbrev pub is_stop : ℕ → List ℕ → Bool
is_stop cycle text = is_some (option_and_then (rest_behind (codes " ")) (rest_behind_number (codes "stop ") cycle text))

abbrev pub is_refusal : ℕ → List ℕ → Bool
is_refusal cycle text = is_some (option_and_then (rest_behind (codes " ")) (rest_behind_number (codes "refused ") cycle text))

-- how a run ends by its last line, which stands behind the rows of the cycles below this one
abbrev pub mark_of : ℕ → List ℕ → Option Mark
mark_of cycle text =
    cond (is_end cycle text) (Some mark.Ended) (cond (is_stop cycle text) (Some mark.Stopped) (cond (is_refusal cycle text) (Some mark.Refused) None))
