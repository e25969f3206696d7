-- Worked texts: what the definitions compute to.
use Rattle.std.proofs.Common.{◌≡◌, ℕ, ◌<◌, ◌≤◌, false, pos, negsuc, [], ◌∷◌, Some, None, refl, lit<, lit≤, arith, subst, inl, inr}
use Rattle.std.proofs.str.Laws.{order}
use Rattle.std.specs.Prelude.{codes}
use Rattle.vcp_base.specs.declared.ty.Ty.{Ty}
use Rattle.vcp_base.specs.declared.ty.Ty.TheVariants as ty
use Rattle.st_lexer.specs.declared.piece.Opening.TheVariants as opens
use Rattle.st_lexer.specs.declared.token.Key.TheVariants as key
use Rattle.st_lexer.specs.declared.token.Sym.TheVariants as symbol
use Rattle.st_lexer.specs.declared.token.Tok.TheVariants as tok
use Rattle.st_lexer.specs.declared.fault.Reason.TheVariants as reason
use Rattle.st_lexer.specs.Pieces.{type_at}
use Rattle.st_lexer.specs.Literals.{begins_typed, literal_at, plain, based, are_digits, number, digit}
use Rattle.st_lexer.specs.Spots.{spot_after, spot_at}
use Rattle.st_lexer.specs.Symbols.{symbol_among, all_symbols}
use Rattle.st_lexer.specs.Words.{key_among, word}
use Rattle.st_lexer.specs.Reading.{Closes, Reads, LexAt}

-- the spot behind two bytes, an LF and one byte more
spot-second-line : spot_at (120 ∷ 121 ∷ 10 ∷ 122 ∷ 59 ∷ []) 4 ≡ record { line = 2; col = 2 }
unfolding spot_after
spot-second-line = refl

reserved : word (codes "eNd_If") ≡ tok.Key key.EndIf
unfolding key_among
reserved = refl

name : word (codes "END_IF1") ≡ tok.Name
unfolding key_among
name = refl

longest-first : symbol_among all_symbols (codes "<>=") ≡ Some symbol.Ne
unfolding symbol_among
longest-first = refl

single-dot : symbol_among all_symbols (codes ".5") ≡ None
unfolding symbol_among
single-dot = refl

hexadecimal : literal_at None (codes "16#f_F;") ≡ Some (record { value = pos 255; len = 6 })
unfolding literal_at plain based are_digits number digit
hexadecimal = refl

binary : literal_at None (codes "2#102") ≡ None
unfolding literal_at plain based are_digits number digit
binary = refl

two-pauses : literal_at None (codes "1__0") ≡ None
unfolding literal_at plain based are_digits number digit
two-pauses = refl

signed-literal : literal_at (Some ty.Int) (codes "-5;") ≡ Some (record { value = negsuc 4; len = 2 })
unfolding literal_at plain based are_digits number digit
signed-literal = refl

signed-base : literal_at (Some ty.Int) (codes "-16#7F") ≡ None
unfolding literal_at plain based are_digits number digit
signed-base = refl

boolean : literal_at (Some ty.Bool) (codes "True)") ≡ Some (record { value = pos 1; len = 4 })
unfolding literal_at plain based are_digits number digit
boolean = refl

largest : literal_at None (codes "9223372036854775807") ≡ Some (record { value = pos 9223372036854775807; len = 19 })
unfolding literal_at plain based are_digits number digit
largest = refl

too-large : literal_at None (codes "9223372036854775808") ≡ None
unfolding literal_at plain based are_digits number digit
too-large = refl

wide-literal : literal_at (Some ty.Lint) (codes "16#FF;") ≡ Some (record { value = pos 255; len = 5 })
unfolding literal_at plain based are_digits number digit
wide-literal = refl

wide-signed : literal_at (Some ty.Lint) (codes "-5") ≡ Some (record { value = negsuc 4; len = 2 })
unfolding literal_at plain based are_digits number digit
wide-signed = refl

wide-too-small : literal_at (Some ty.Lint) (codes "-9223372036854775808") ≡ None
unfolding literal_at plain based are_digits number digit
wide-too-small = refl

wide-type : type_at (codes "lInt#16#ff") ≡ Some ty.Lint
unfolding type_at
wide-type = refl

-- ULINT is a reserved word and no type of the language, so `#` behind it begins nothing
no-wider-type : type_at (codes "ULINT#5") ≡ None
unfolding type_at
no-wider-type = refl

-- `1..2` is read as a number, the symbol `..` and a number
range : Reads (codes "1..2") (
    record { tok = tok.Number None (pos 1); from = 0; to = 1; spot = record { line = 1; col = 1 } }
    ∷ record { tok = tok.Sym symbol.DotDot; from = 1; to = 3; spot = record { line = 1; col = 2 } }
    ∷ record { tok = tok.Number None (pos 2); from = 3; to = 4; spot = record { line = 1; col = 4 } } ∷ [])
unfolding symbol_among literal_at plain based are_digits number digit spot_after
range = (
  record { from = 0; to = 1; is = Some (tok.Number None (pos 1)) }
      ∷ record { from = 1; to = 3; is = Some (tok.Sym symbol.DotDot) }
      ∷ record { from = 3; to = 4; is = Some (tok.Number None (pos 2)) } ∷ [],
  (
    refl,
    (1, lit< tt, refl, lit≤ tt, (opens.Literal None, refl, (record { value = pos 1; len = 1 }, refl, refl, refl))),
    (
      refl,
      (2, lit< tt, refl, lit≤ tt, (opens.Symbol symbol.DotDot, (refl, refl), (refl, refl))),
      (refl, (1, lit< tt, refl, lit≤ tt, (opens.Literal None, refl, (record { value = pos 2; len = 1 }, refl, refl, refl))), refl),
    ),
  ),
  refl,
)

-- `/*(**/` is one comment
comment : Reads (codes "/*(**/") []
unfolding spot_after
comment = (
  record { from = 0; to = 6; is = None } ∷ [],
  (refl, (6, lit< tt, refl, lit≤ tt, (opens.Comment 47, inr (refl, refl), ((4, refl, lit≤ tt, (lit< tt, refl, refl), before), refl))), refl),
  refl,
)
  where
    before : (j : ℕ) → 2 ≤ j → j < 4 → Closes 47 (codes "/*(**/") j → ⊥
    before j h k c = elim (order j 3) [
      | inl lt ↦ let e : j ≡ 2 = omega arith in let d = subst (λ (k : ℕ). Closes 47 (codes "/*(**/") k) e c in absurd (omega (arith, d.1))
      | inr le ↦ let e : j ≡ 3 = omega arith in let d = subst (λ (k : ℕ). Closes 47 (codes "/*(**/") k) e c in absurd (omega (arith, d.2))
    ]

-- `x {` is read up to the brace
brace : LexAt (codes "x {") 2 reason.Byte
unfolding symbol_among key_among
brace = (
  record { from = 0; to = 1; is = Some tok.Name } ∷ record { from = 1; to = 2; is = None } ∷ [],
  (
    refl,
    (1, lit< tt, refl, lit≤ tt, (opens.Word, (refl, no-type), (refl, refl))),
    (refl, (1, lit< tt, refl, lit≤ tt, (opens.Blank, refl, (refl, refl))), refl),
  ),
  lit< tt,
  (opens.Nothing, (refl, refl, refl), refl),
)
  where
    no-type : (t : Ty) → begins_typed t (codes "x {") ≡ false
    no-type ty.Bool = refl
    no-type ty.Int = refl
    no-type ty.Dint = refl
    no-type ty.Lint = refl

-- the comment of `(*)` isn't closed
open-comment : LexAt (codes "(*)") 0 reason.Comment
open-comment = ([], refl, lit< tt, (opens.Comment 41, inl (refl, refl), (refl, λ j h c. omega (arith, h, c.0))))
