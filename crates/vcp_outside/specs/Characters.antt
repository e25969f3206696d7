-- Characters: how the characters of a text are written in a picture.
use Rattle.std.specs.Prelude.{ℕ, List, [], ◌∷◌, Bool, cond, not, ◌&&◌, ◌==◌, nat_le, codes, decimal, flat_map}
use Rattle.std.specs.Fmt.{signed_decimal}
use Rattle.vcp_outside.specs.declared.svg.characters.Escaping.{Escaping}
use Rattle.vcp_outside.specs.declared.svg.characters.Escaping.TheVariants as escaping
use Rattle.vcp_outside.specs.declared.svg.characters.Piece.{Piece}
use Rattle.vcp_outside.specs.declared.svg.characters.Piece.TheVariants as piece

-- a byte that is written as it is: a character of ASCII from the space to `~`, but none of < > & " '
abbrev pub is_plain : ℕ → Bool
is_plain b = nat_le 32 b && nat_le b 126 && not (b == 60) && not (b == 62) && not (b == 38) && not (b == 34) && not (b == 39)

-- what is written in the place of another byte: its reference, or that of the replacement character
abbrev pub reference : ℕ → List ℕ
reference b =
    cond (b == 60) (codes "&lt;") (cond (b == 62) (codes "&gt;") (cond (b == 38) (codes "&amp;") (cond (b == 34) (codes "&quot;")
    (cond (b == 39) (codes "&#39;") (codes "&#65533;")))))

abbrev pub escape : ℕ → List ℕ
escape b = cond (is_plain b) (b ∷ []) (reference b)

-- bytes as they are written
abbrev pub escaped : List ℕ → List ℕ
escaped bytes = flat_map escape bytes

-- between double quotes, for Graphviz: a byte that is written as it is, a character of ASCII from the space to `~`, but neither a double quote, `&`
-- nor a backslash
abbrev pub is_unquoted : ℕ → Bool
is_unquoted b = nat_le 32 b && nat_le b 126 && not (b == 34) && not (b == 38) && not (b == 92)

-- what is written in the place of another byte: a double quote and a backslash behind a backslash, the references of `&` and of the replacement
-- character; and LF is the end of a line of the label
abbrev pub quoted_reference : ℕ → List ℕ
quoted_reference b =
    cond (b == 34) (codes "\\\"") (cond (b == 92) (codes "\\\\") (cond (b == 38) (codes "&amp;") (cond (b == 10) (codes "\\n") (codes "&#65533;"))))

abbrev pub quote : ℕ → List ℕ
quote b = cond (is_unquoted b) (b ∷ []) (quoted_reference b)

-- a byte as it is written, in a picture or between double quotes
abbrev pub escape_in : Escaping → ℕ → List ℕ
escape_in escaping.Markup = escape
escape_in escaping.Quoted = quote

-- bytes as they are written
abbrev pub escaped_in : Escaping → List ℕ → List ℕ
escaped_in e bytes = flat_map (escape_in e) bytes

-- the bytes of a piece
abbrev pub piece_bytes : Piece → List ℕ
piece_bytes (piece.Bytes bytes) = bytes.now
piece_bytes (piece.Count n) = decimal n
piece_bytes (piece.Value v) = signed_decimal v
