-- The tokens that lexemes spell, in order, with the bytes of each.
use Rattle.std.proofs.Common.{◌≡◌, ℕ, List, [], ◌∷◌, Option, Some, None}
use Rattle.st_lexer.specs.declared.token.Tok.{Tok}
use Rattle.st_lexer.specs.declared.token.Token.{Token}
use Rattle.st_writer.specs.Lexemes.{Lexeme}

-- the tokens begin with the one of a lexeme, unless it is a gap, and then the rest holds of those behind it
abbrev pub written_one : (Token → List ℕ) → List ℕ → Option Tok → (List Token → Type 0) → List Token → Type 0
written_one bytes bs None rest ts = rest ts
written_one bytes bs (Some k) rest ts = (t : Token) × (us : List Token) × (ts ≡ t ∷ us) × (t.tok ≡ k) × (bytes t ≡ bs) × rest us

abbrev pub Written : (Token → List ℕ) → List Lexeme → List Token → Type 0
Written bytes [] ts = ts ≡ []
Written bytes (x ∷ xs) ts = written_one bytes x.bytes x.tok (Written bytes xs) ts
