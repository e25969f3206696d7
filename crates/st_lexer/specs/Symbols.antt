-- Symbols: how each is spelled, and which one a text begins with.
use Rattle.std.specs.Prelude.{ℕ, List, [], ◌∷◌, Option, Some, None, if◌then◌else◌, codes, nat_eq, Bool}
use Rattle.std.specs.List.{starts_with}
use Rattle.st_lexer.specs.declared.token.Sym.{Sym}
use Rattle.st_lexer.specs.declared.token.Sym.TheVariants as sym

-- the table of symbols
abbrev pub spelling : Sym → List ℕ
spelling sym.Assign = codes ":="
spelling sym.Colon = codes ":"
spelling sym.Semi = codes ";"
spelling sym.Comma = codes ","
spelling sym.LParen = codes "("
spelling sym.RParen = codes ")"
spelling sym.DotDot = codes ".."
spelling sym.Plus = codes "+"
spelling sym.Minus = codes "-"
spelling sym.Star = codes "*"
spelling sym.Slash = codes "/"
spelling sym.Eq = codes "="
spelling sym.Ne = codes "<>"
spelling sym.Le = codes "<="
spelling sym.Ge = codes ">="
spelling sym.Lt = codes "<"
spelling sym.Gt = codes ">"

-- all symbols, a longer one before each that it begins with
abbrev pub all_symbols : List Sym
all_symbols =
    sym.Assign ∷ sym.Colon ∷ sym.Semi ∷ sym.Comma ∷ sym.LParen ∷ sym.RParen ∷
    sym.DotDot ∷ sym.Plus ∷ sym.Minus ∷ sym.Star ∷ sym.Slash ∷ sym.Eq ∷
    sym.Ne ∷ sym.Le ∷ sym.Ge ∷ sym.Lt ∷ sym.Gt ∷ []

-- the text s begins with the bytes of a word
abbrev pub begins : List ℕ → List ℕ → Bool
begins w s = starts_with nat_eq s w

-- the first of the symbols with which the text s begins
unfoldable pub symbol_among : List Sym → List ℕ → Option Sym
symbol_among [] s = None
symbol_among (y ∷ ys) s = if begins (spelling y) s then Some y else symbol_among ys s
