-- LinesRead: the lines that are not skipped, one by one.
use Rattle.std.proofs.Common.{◌≡◌, ℕ, ◌+◌, ◌<◌, ◌==◌, Bool, true, false, cond, List, [], ◌∷◌, length, ap, ◌∙◌, arith}
use Rattle.std.specs.Str.Lines.{lines}
use Rattle.std.proofs.lemmas.Bool.{eqb-true}
use Rattle.std.proofs.lemmas.List.{nil_from_length}
use Rattle.vcp_base.specs.Lines.{is_skipped, read_lines}

-- one line more
at_first : (number : ℕ) (text line more : List ℕ) (b : Bool) → lines text ≡ line ∷ lines more → is_skipped line ≡ b
    → read_lines number (lines text)
    ≡ cond b (read_lines (number + 1) (lines more)) (record { number = number; text = line } ∷ read_lines (number + 1) (lines more))
at_first number text line more b is skips =
    ap (λ (ls : List (List ℕ)). read_lines number ls) is
    ∙ ap (λ (b : Bool). cond b (read_lines (number + 1) (lines more)) (record { number = number; text = line } ∷ read_lines (number + 1) (lines more))) skips

pub skipped : (number : ℕ) (text line more : List ℕ) → lines text ≡ line ∷ lines more → is_skipped line ≡ true
    → read_lines number (lines text) ≡ read_lines (number + 1) (lines more)
skipped number text line more is skips = at_first number text line more true is skips

pub read : (number : ℕ) (text line more : List ℕ) → lines text ≡ line ∷ lines more → is_skipped line ≡ false
    → read_lines number (lines text) ≡ record { number = number; text = line } ∷ read_lines (number + 1) (lines more)
read number text line more is skips = at_first number text line more false is skips

-- behind the last line
pub none_left : (number : ℕ) (text : List ℕ) → (length text == 0) ≡ true → read_lines number (lines text) ≡ []
none_left number text none = ap (λ (t : List ℕ). read_lines number (lines t)) (nil_from_length text (eqb-true (length text) 0 none))

-- a line that isn't skipped has a byte
pub some_byte : (line : List ℕ) → is_skipped line ≡ false → 0 < length line
some_byte [] is = absurd cc
some_byte (c ∷ line) is = omega arith
