-- How one piece is looked for: what the code asks, one question after the other. No promise of `lex` cites this.
use Rattle.std.specs.Prelude.{ℕ, ◌<◌, ◌≤◌, ◌==◌, ◌&&◌, List, slice_index, Option, Some, None, if◌then◌else◌, codes}
use Rattle.std.specs.Char.{is_ascii_digit}
use Rattle.vcp_base.specs.declared.ty.Ty.{Ty}
use Rattle.vcp_base.specs.declared.ty.Ty.TheVariants as ty
use Rattle.vcp_base.specs.Names.{is_letter}
use Rattle.st_lexer.specs.declared.token.Sym.{Sym}
use Rattle.st_lexer.specs.declared.piece.Found.{Found}
use Rattle.st_lexer.specs.declared.piece.Found.TheVariants as found
use Rattle.st_lexer.specs.declared.piece.Opening.{Opening}
use Rattle.st_lexer.specs.declared.piece.Opening.TheVariants as opens
use Rattle.st_lexer.specs.Literals.{begins_typed}
use Rattle.st_lexer.specs.Reading.{is_blank, order_mark, Stands, Refuses, StandsAt, RefusedAt}
use Rattle.st_lexer.specs.Symbols.{all_symbols, begins, symbol_among}

-- the type of the typed literal that begins at s
unfoldable pub type_at : List ℕ → Option Ty
type_at s =
    if begins_typed ty.Bool s then Some ty.Bool
    else (if begins_typed ty.Int s then Some ty.Int
    else (if begins_typed ty.Dint s then Some ty.Dint
    else (if begins_typed ty.Lint s then Some ty.Lint
    else None)))

-- a word, or a literal where the word is a type that `#` follows
abbrev pub word_opening : Option Ty → Opening
word_opening None = opens.Word
word_opening (Some t) = opens.Literal (Some t)

-- a symbol, or nothing
abbrev pub symbol_opening : Option Sym → Opening
symbol_opening None = opens.Nothing
symbol_opening (Some y) = opens.Symbol y

-- the first that is found to begin at place p of a text, where s is the text from there on (38 is `&`, 41 is `)`, 47 is `/`)
unfoldable pub opening : ℕ → List ℕ → Opening
opening p s =
    if is_blank (slice_index s 0) then opens.Blank
    else (if begins order_mark s && p == 0 then opens.OrderMark
    else (if begins (codes "(*") s then opens.Comment 41
    else (if begins (codes "/*") s then opens.Comment 47
    else (if begins (codes "//") s then opens.LineComment
    else (if is_letter (slice_index s 0) then word_opening (type_at s)
    else (if is_ascii_digit (slice_index s 0) then opens.Literal None
    else (if slice_index s 0 == 38 then opens.Ampersand
    else symbol_opening (symbol_among all_symbols s))))))))

-- what is found at the front of s is there, where this begins there, or is why nothing is
abbrev pub Finds : Opening → List ℕ → Found → Type 0
Finds o s (found.Piece t n) = Stands o s n t
Finds o s (found.Refused r) = Refuses o s r

-- what is found at place p of a text is there, where s is the text from there on, or is why nothing is
abbrev pub FindsAt : ℕ → List ℕ → Found → Type 0
FindsAt p s (found.Piece t n) = StandsAt p s n t
FindsAt p s (found.Refused r) = RefusedAt p s r

-- what is found has some bytes, and no more than there are
abbrev pub IsWithin : ℕ → Found → Type 0
IsWithin len (found.Piece t n) = (0 < n) × (n ≤ len)
IsWithin len (found.Refused r) = Unit {0}
