-- Abouts: what each command is about, a line a command. The task of each is in the crate of the top call; nothing else is said of a
-- command by its name.
-- The table has for each command which files it reads and how long they may be, whether it calls the unit,
-- whether it takes memory late, and with which statuses it may end.
use Rattle.std.specs.Prelude.{ℕ, ◌≡◌, ◌⊎◌, Bool, true, false, List, [], ◌∷◌, ◌++◌, IsSome, codes}
use Rattle.vcp_base.specs.Limits.{most_source_bytes, most_image_bytes, most_rows_bytes}
use Rattle.il_front.specs.Answers.{most_il_bytes}
use Rattle.vcp_outside.specs.Held.{Held}
use Rattle.vcp_inputs.specs.Tables.{rows_name}
use Rattle.vcp_inputs.specs.Forms.{Form, Rows, check, format, plain, run, il, compile, list, exec, trace, widen, audit, inject, pair, pairs, wire, demo, file, cycles}

-- ---- files that words name

-- a file's name, and the most bytes that the file may have
pub record FileWord : Type 0 where
  pub name : List ℕ
  pub most : ℕ

-- P, M and F
abbrev pub source_word : List ℕ → FileWord
source_word p = record { name = p; most = most_source_bytes }

abbrev pub listing_word : List ℕ → FileWord
listing_word p = record { name = p; most = most_il_bytes }

abbrev pub image_word : List ℕ → FileWord
image_word m = record { name = m; most = most_image_bytes }

abbrev pub script_word : List ℕ → FileWord
script_word f = record { name = f; most = most_source_bytes }

-- the file of ROWS, if they have one
abbrev pub rows_words : Rows → List FileWord
rows_words (file r) = record { name = r; most = most_rows_bytes } ∷ []
rows_words (cycles n) = []

-- and the name of those that have none
abbrev pub rows_others : Rows → List (List ℕ)
rows_others (file r) = []
rows_others (cycles n) = rows_name (cycles n) ∷ []

-- the name of a made source and of its rows
abbrev pub made_name : List ℕ
made_name = codes "demo"

-- ---- commands

-- A command: the files that it reads, in their order; the names by which its lines tell what is refused and is no file; whether it calls the
-- unit; whether memory may be wanted when it has begun to write, so that a front of its output may stand where it ends with 7; and the statuses
-- that it may end with beside 5, 6 and 7.
pub record About : Type 0 where
  pub files : List FileWord
  pub others : List (List ℕ)
  pub calls : Bool
  pub late : Bool
  pub ends : List ℕ

-- one that reads these files and then prints, without the unit
abbrev pub prints_of : List FileWord → About
prints_of files = record { files = files; others = []; calls = false; late = false; ends = 0 ∷ 1 ∷ [] }

-- one that reads these files, and has rows of these other names, and runs on the unit
abbrev pub runs_of : List FileWord → List (List ℕ) → About
runs_of files others = record { files = files; others = others; calls = true; late = true; ends = 0 ∷ 1 ∷ 2 ∷ 3 ∷ [] }

-- and one that judges faults by runs on the unit
abbrev pub judges_of : List FileWord → List (List ℕ) → About
judges_of files others = record { files = files; others = others; calls = true; late = true; ends = 0 ∷ 1 ∷ [] }

-- one that reads these files, takes all its memory, and then sends values on the unit
abbrev pub sends_of : List FileWord → About
sends_of files = record { files = files; others = []; calls = true; late = false; ends = 0 ∷ 1 ∷ 3 ∷ [] }

abbrev pub about : Form → About
about (check p) = prints_of (source_word p ∷ [])
about (format p) = prints_of (source_word p ∷ [])
about (plain p rows) = record { files = source_word p ∷ rows_words rows; others = rows_others rows; calls = false; late = true; ends = 0 ∷ 1 ∷ 2 ∷ [] }
about (run p rows code) = runs_of (source_word p ∷ rows_words rows) (rows_others rows)
about (il p rows code) = runs_of (listing_word p ∷ rows_words rows) (rows_others rows)
about (compile p code) = prints_of (source_word p ∷ [])
about (list m) = prints_of (image_word m ∷ [])
about (exec m rows) = runs_of (image_word m ∷ rows_words rows) (rows_others rows)
about (trace m rows n) = runs_of (image_word m ∷ rows_words rows) (rows_others rows)
about (widen m) = prints_of (image_word m ∷ [])
about (audit m horizon) = prints_of (image_word m ∷ [])
about (inject m rows f) = judges_of (image_word m ∷ (rows_words rows ++ script_word f ∷ [])) (rows_others rows)
about (pair m rows seed) = runs_of (image_word m ∷ rows_words rows) (rows_others rows)
about (pairs m rows seed f) = judges_of (image_word m ∷ (rows_words rows ++ script_word f ∷ [])) (rows_others rows)
about (wire f) = sends_of (script_word f ∷ [])
about (demo n) = runs_of [] (made_name ∷ [])

-- each of these files is held
abbrev pub AllHeld : Held → List FileWord → Type 0
AllHeld held [] = Unit {0}
AllHeld held (word ∷ words) = IsSome (held word.name) × AllHeld held words

-- one of these
abbrev pub Among : {X : Type 0} → X → List X → Type 0
Among x [] = ⊥
Among x (y ∷ ys) = (x ≡ y) ⊎ Among x ys
