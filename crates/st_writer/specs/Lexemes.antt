-- Lexemes: the pieces of which the canonical text is made.
use Rattle.std.specs.Prelude.{ℕ, zero, suc, ℤ, pos, ◌==◌, List, [], ◌∷◌, ◌++◌, flat_map, Option, Some, None, cond}
use Rattle.std.specs.Fmt.{signed_decimal}
use Rattle.vcp_base.specs.declared.ty.Ty.{Ty}
use Rattle.vcp_base.specs.declared.ty.Ty.TheVariants as ty
use Rattle.st_lexer.specs.declared.token.Key.{Key}
use Rattle.st_lexer.specs.declared.token.Key.TheVariants as key
use Rattle.st_lexer.specs.declared.token.Sym.{Sym}
use Rattle.st_lexer.specs.declared.token.Tok.{Tok}
use Rattle.st_lexer.specs.declared.token.Tok.TheVariants as tok
use Rattle.st_lexer.specs.Literals.{prefix}
use Rattle.st_lexer.specs.Symbols as symbols
use Rattle.st_lexer.specs.Words as words

-- bytes, and the token that they spell unless they are a gap
pub record Lexeme : Type 0 where
  pub bytes : List ℕ
  pub tok : Option Tok

-- the text of lexemes, one behind the other
abbrev pub text_of : List Lexeme → List ℕ
text_of xs = flat_map (λ x. x.bytes) xs

abbrev pub kind_of : Option Tok → List Tok
kind_of None = []
kind_of (Some t) = t ∷ []

-- the tokens that they spell
abbrev pub kinds_of : List Lexeme → List Tok
kinds_of xs = flat_map (λ x. kind_of x.tok) xs

-- a space (32)
abbrev pub blank : Lexeme
blank = record { bytes = 32 ∷ []; tok = None }

-- the end of a line, LF (10)
abbrev pub line_end : Lexeme
line_end = record { bytes = 10 ∷ []; tok = None }

-- a reserved word, in capitals
abbrev pub word : Key → Lexeme
word k = record { bytes = words.spelling k; tok = Some (tok.Key k) }

abbrev pub symbol : Sym → Lexeme
symbol y = record { bytes = symbols.spelling y; tok = Some (tok.Sym y) }

-- a name, as it is written
abbrev pub name : List ℕ → Lexeme
name n = record { bytes = n; tok = Some tok.Name }

-- a number: its type where it has one, and its value in decimal digits
abbrev pub number : Option Ty → ℤ → Lexeme
number t v = record { bytes = prefix t ++ signed_decimal v; tok = Some (tok.Number t v) }

-- a BOOL literal: FALSE, TRUE, or `BOOL#` and a number that is neither 0 nor 1
abbrev pub truth : ℤ → Lexeme
truth (pos n) = cond (n == 0) (word key.False) (cond (n == 1) (word key.True) (number (Some ty.Bool) (pos n)))
truth v = number (Some ty.Bool) v

-- a literal
abbrev pub literal : Option Ty → ℤ → Lexeme
literal (Some ty.Bool) v = truth v
literal (Some ty.Int) v = number (Some ty.Int) v
literal (Some ty.Dint) v = number (Some ty.Dint) v
literal (Some ty.Lint) v = number (Some ty.Lint) v
literal None v = number None v

-- two spaces a level
abbrev pub indent : ℕ → List Lexeme
indent zero = []
indent (suc n) = blank ∷ blank ∷ indent n

-- a line at a level
abbrev pub line : ℕ → List Lexeme → List Lexeme
line n xs = indent n ++ (xs ++ line_end ∷ [])
