-- Blanks: spaces and tabs.
use Rattle.std.specs.Prelude.{ℕ, ◌==◌, Bool, ◌||◌, cond, List, [], ◌∷◌}

-- a space or a tab
abbrev pub is_blank : ℕ → Bool
is_blank c = (c == 32) || (c == 9)

-- a text without the blanks at its start
abbrev pub unindented : List ℕ → List ℕ
unindented [] = []
unindented (c ∷ text) = cond (is_blank c) (unindented text) (c ∷ text)
