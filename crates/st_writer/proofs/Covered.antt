-- Lexemes that fit are the reading of their text.
use Rattle.std.proofs.Common.{◌≡◌, ℕ, ◌+◌, ◌-◌, ◌≤◌, List, [], ◌∷◌, ◌++◌, length, take, drop, Option, Some, None, sym, refl, ap, ◌∙◌, subst, arith}
use Rattle.std.proofs.Common.{length-append, length-drop}
use Rattle.std.proofs.lemmas.List.{drop-drop, drop_at, take_at}
use Rattle.st_lexer.specs.declared.token.Tok.{Tok}
use Rattle.st_lexer.specs.declared.token.Token.{Token}
use Rattle.st_lexer.specs.Reading.{StandsAt, Piece, Cover, token_of, tokens_of, Reads}
use Rattle.st_lexer.specs.Spots.{spot_at}
use Rattle.st_tree.specs.Spelling.{bytes_in}
use Rattle.st_writer.specs.Lexemes.{Lexeme, text_of}
use Rattle.st_writer.proofs.Written.{written_one, Written}
use Rattle.st_writer.proofs.Fits.{Fits}

-- each lexeme fits before those behind it
abbrev pub AllFit : List Lexeme → Type 0
AllFit [] = Unit {0}
AllFit (x ∷ xs) = Fits x (text_of xs) × AllFit xs

-- from place a on, the text is that of the lexemes
record Covered (text : List ℕ) (a : ℕ) (xs : List Lexeme) : Type 0 where
  pieces : List Piece
  cover : Cover text pieces a (length text)
  written : Written (bytes_in text) xs (tokens_of text pieces)

written-on : (text : List ℕ) (p : Piece) (o : Option Tok) (bs : List ℕ) (rest : List Token → Type 0) (ts : List Token)
    → take (p.to - p.from) (drop p.from text) ≡ bs → rest ts → written_one (bytes_in text) bs o rest (token_of text p o ++ ts)
written-on text p None bs rest ts e h = h
written-on text p (Some k) bs rest ts e h = (record { tok = k; from = p.from; to = p.to; spot = spot_at text p.from }, ts, refl, refl, e, h)

covered : (text : List ℕ) (a : ℕ) (xs : List Lexeme) → a ≤ length text → drop a text ≡ text_of xs → AllFit xs → Covered text a xs
covered text a [] le e fit = record { pieces = []; cover = omega (arith, le, length-drop a text, ap length e); written = refl }
covered text a (x ∷ xs) le e fit =
    let n = length x.bytes in
    let rest = text_of xs in
    let p : Piece = record { from = a; to = a + n; is = x.tok } in
    let on : drop (a + n) text ≡ rest = sym (drop-drop n a text) ∙ ap (drop n) e ∙ drop_at x.bytes rest n refl in
    let within : a + n ≤ length text = omega (arith, le, length-drop a text, ap length e, length-append x.bytes rest) in
    let c = covered text (a + n) xs within on fit.1 in
    let stands : StandsAt a (drop a text) n x.tok = subst (λ (s : List ℕ). StandsAt a s n x.tok) (sym e) (fit.0.stands a) in
    let bytes : take (a + n - a) (drop a text) ≡ x.bytes =
    ap (λ m. take m (drop a text)) (omega arith) ∙ ap (take n) e ∙ take_at x.bytes rest n refl in
    record {
      pieces = p ∷ c.pieces;
      cover = (refl, (n, fit.0.some_of, refl, within, stands), c.cover);
      written = written-on text p x.tok x.bytes (Written (bytes_in text) xs) (tokens_of text c.pieces) bytes c.written;
    }

-- the text of lexemes that fit has a reading, whose tokens are theirs
pub record Lexes (xs : List Lexeme) : Type 0 where
  pub tokens : List Token
  pub reads : Reads (text_of xs) tokens
  pub written : Written (bytes_in (text_of xs)) xs tokens

pub lexes : (xs : List Lexeme) → AllFit xs → Lexes xs
lexes xs fit =
    let c = covered (text_of xs) 0 xs (omega arith) refl fit in
    record { tokens = tokens_of (text_of xs) c.pieces; reads = (c.pieces, c.cover, refl); written = c.written }
