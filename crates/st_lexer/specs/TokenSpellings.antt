-- Spellings of tokens: which bytes are a token and no more.
use Rattle.std.specs.Prelude.{◌≡◌, ◌⊎◌, ℕ, ℤ, ◌+◌, true, List, length, drop, slice_index, Option, Some, codes}
use Rattle.std.specs.List.{list_all}
use Rattle.vcp_base.specs.declared.ty.Ty.{Ty}
use Rattle.vcp_base.specs.Names.{is_letter, is_letter_or_digit}
use Rattle.st_lexer.specs.declared.token.Key.TheVariants as key
use Rattle.st_lexer.specs.declared.token.Tok.{Tok}
use Rattle.st_lexer.specs.declared.token.Tok.TheVariants as tok
use Rattle.st_lexer.specs.Literals.{prefix, BeginsLiteral, literal_at}
use Rattle.st_lexer.specs.Symbols as symbols
use Rattle.st_lexer.specs.Words.{word}

-- a letter or `_`, and then letters, digits and `_`
abbrev pub IsWord : List ℕ → Type 0
IsWord w = (is_letter (slice_index w 0) ≡ true) × (list_all is_letter_or_digit w ≡ true)

-- one literal, of a type or of none, with this value
abbrev pub IsLiteral : Option Ty → ℤ → List ℕ → Type 0
IsLiteral t v w =
    (n : ℕ) × BeginsLiteral t w × (length w ≡ length (prefix t) + n)
    × (literal_at t (drop (length (prefix t)) w) ≡ Some (record { value = v; len = n }))

-- the bytes w are a spelling of the token; `&` is one of AND
abbrev pub IsSpelling : Tok → List ℕ → Type 0
IsSpelling tok.Name w = IsWord w × (word w ≡ tok.Name)
IsSpelling (tok.Key k) w = (IsWord w × (word w ≡ tok.Key k)) ⊎ ((k ≡ key.And) × (w ≡ codes "&"))
IsSpelling (tok.Number t v) w = IsLiteral t v w
IsSpelling (tok.Sym y) w = w ≡ symbols.spelling y
