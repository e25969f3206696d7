-- What begins at the front has at least one byte, and no more than there are.
use Rattle.std.proofs.Common.{◌≡◌, ℕ, ℤ, pos, ◌+◌, ◌<◌, ◌≤◌, Bool, true, false, cond, ◌||◌, List, [], ◌∷◌, ◌++◌, length, take, drop, Option, Some, None, refl}
use Rattle.std.proofs.Common.{sym, ap, ◌∙◌, arith, length-drop}
use Rattle.std.specs.Prelude.{slice_index, IfSome, codes}
use Rattle.std.specs.List.{prefix_len}
use Rattle.std.specs.Cmp.Lexicographic.{same_text}
use Rattle.std.proofs.lemmas.List.{length-take}
use Rattle.std.proofs.lemmas.List.Sums.{prefix_len-le-length}
use Rattle.std.proofs.lemmas.List.Folds.{length-prefix_len}
use Rattle.vcp_base.specs.declared.ty.Ty.{Ty}
use Rattle.vcp_base.specs.declared.ty.Ty.TheVariants as ty
use Rattle.vcp_base.specs.Names.{is_letter, is_letter_or_digit}
use Rattle.st_lexer.specs.declared.token.Sym.{Sym}
use Rattle.st_lexer.specs.declared.token.Sym.TheVariants as symbol
use Rattle.st_lexer.specs.declared.token.Tok.{Tok}
use Rattle.st_lexer.specs.declared.literal.Literal.{Literal}
use Rattle.st_lexer.specs.declared.piece.Found.{Found}
use Rattle.st_lexer.specs.declared.piece.Found.TheVariants as found
use Rattle.st_lexer.specs.declared.piece.Opening.{Opening}
use Rattle.st_lexer.specs.declared.piece.Opening.TheVariants as opens
use Rattle.st_lexer.specs.Literals.{is_run, run, signed, plain, based, are_digits, literal_at, literal_of, prefix}
use Rattle.st_lexer.specs.Spots.{is_not_lf}
use Rattle.st_lexer.specs.Symbols.{begins, spelling, symbol_among, all_symbols}
use Rattle.st_lexer.specs.Reading.{order_mark, Begins, Stands, StandsAt}
use Rattle.st_lexer.specs.Pieces.{FindsAt, IsWithin}
use Rattle.st_lexer.proofs.Lacking.{symbol-begins}
use Rattle.st_lexer.proofs.Openings.{begins-with}

-- ---- literals

-- an empty run is no literal
plain-empty : (t : Option Ty) → plain t [] ≡ None
unfolding plain based are_digits
plain-empty None = refl
plain-empty (Some ty.Bool) = refl
plain-empty (Some ty.Int) = refl
plain-empty (Some ty.Dint) = refl
plain-empty (Some ty.Lint) = refl

pub of-some : (m : ℕ) (f : ℕ → ℤ) (o : Option ℕ) (l : Literal) → literal_of m f o ≡ Some l → l.len ≡ m
of-some m f None l e = absurd cc
of-some m f (Some n) l e = cc

run-len : (s : List ℕ) → length (run s) ≤ length s
run-len s = omega (arith, length-prefix_len is_run s, prefix_len-le-length is_run s)

plain-pos : (t : Option Ty) (f : ℕ → ℤ) (r : List ℕ) (l : Literal) → literal_of (length r) f (plain t r) ≡ Some l → 0 < length r
plain-pos t f [] l e = absurd (let n = plain-empty t in let g = ap (literal_of 0 f) n in cc)
plain-pos t f (b ∷ r) l e = omega arith

no-sign : (t : Option Ty) → signed t [] ≡ true → ⊥
no-sign None e = cc
no-sign (Some ty.Bool) e = cc
no-sign (Some ty.Int) e = cc
no-sign (Some ty.Dint) e = cc
no-sign (Some ty.Lint) e = cc

signed-len : (t : Option Ty) (s : List ℕ) → signed t s ≡ true → length (run (drop 1 s)) + 1 ≤ length s
signed-len t [] e = absurd (no-sign t e)
signed-len t (b ∷ s) e = omega (arith, run-len s)

either : (t : Bool) (x y : Option Literal) (l : Literal) (P : Type 0) → cond t x y ≡ Some l → (t ≡ true → x ≡ Some l → P) → (t ≡ false → y ≡ Some l → P) → P
either true x y l P e f g = f refl e
either false x y l P e f g = g refl e

pub literal-sized : (t : Option Ty) (s : List ℕ) (l : Literal) → literal_at t s ≡ Some l → (0 < l.len) × (l.len ≤ length s)
unfolding literal_at
literal-sized t s l e =
    either (signed t s) _ _ l _ e
    (λ h k. let m = of-some _ _ _ l k in (omega (arith, m), omega (arith, m, signed-len t s h)))
    (λ h k. let m = of-some _ _ _ l k in (omega (arith, m, plain-pos t pos (run s) l k), omega (arith, m, run-len s)))

pub literal-within : (t : Option Ty) (s : List ℕ) (r : Option Literal) → r ≡ literal_at t s → IfSome r (λ l. l.len ≤ length s)
literal-within t s None e = tt
literal-within t s (Some l) e = (literal-sized t s l (sym e)).1

-- ---- openings

pub begins-is : (w s : List ℕ) → begins w s ≡ true → w ≡ take (length w) s
begins-is w s e = same_text w (take (length w) s) (sym e)

begins-len : (w s : List ℕ) → begins w s ≡ true → length w ≤ length s
begins-len w s e = omega (arith, ap length (begins-is w s e), length-take (length w) s)

-- what an opening says of the text
abbrev Fronts : Opening → List ℕ → Type 0
Fronts opens.OrderMark s = 3 ≤ length s
Fronts opens.LineComment s = is_not_lf (slice_index s 0) ≡ true
Fronts opens.Word s = is_letter_or_digit (slice_index s 0) ≡ true
Fronts (opens.Symbol y) s = length (spelling y) ≤ length s
Fronts _ s = Unit {0}

word-byte : (t u : Bool) → t ≡ true → t || u ≡ true
word-byte true u e = refl
word-byte false u e = absurd cc

line-front : (s : List ℕ) → begins (codes "//") s ≡ true → is_not_lf (slice_index s 0) ≡ true
line-front [] e = absurd cc
line-front (b ∷ s) e =
    let h : b ≡ 47 = sym (ap (λ (l : List ℕ). slice_index l 0) (begins-is (codes "//") (b ∷ s) e)) in
    rw h refl

fronts : (p : ℕ) (s : List ℕ) (o : Opening) → Begins p s o → Fronts o s
fronts p s opens.Blank h = tt
fronts p s opens.OrderMark h = begins-len order_mark s h.1
fronts p s (opens.Comment last) h = tt
fronts p s opens.LineComment h = line-front s h
fronts p s opens.Word h = word-byte (is_letter (slice_index s 0)) _ h.0
fronts p s (opens.Literal t) h = tt
fronts p s opens.Ampersand h = tt
fronts p s (opens.Symbol y) h = begins-len (spelling y) s (symbol-begins s y h.1)
fronts p s opens.Nothing h = tt

symbol-pos : (y : Sym) → 0 < length (spelling y)
symbol-pos symbol.Assign = omega arith
symbol-pos symbol.Colon = omega arith
symbol-pos symbol.Semi = omega arith
symbol-pos symbol.Comma = omega arith
symbol-pos symbol.LParen = omega arith
symbol-pos symbol.RParen = omega arith
symbol-pos symbol.DotDot = omega arith
symbol-pos symbol.Plus = omega arith
symbol-pos symbol.Minus = omega arith
symbol-pos symbol.Star = omega arith
symbol-pos symbol.Slash = omega arith
symbol-pos symbol.Eq = omega arith
symbol-pos symbol.Ne = omega arith
symbol-pos symbol.Le = omega arith
symbol-pos symbol.Ge = omega arith
symbol-pos symbol.Lt = omega arith
symbol-pos symbol.Gt = omega arith

some_run : (p : ℕ → Bool) (s : List ℕ) → 0 < length s → p (slice_index s 0) ≡ true → 0 < prefix_len p s
some_run p [] h e = absurd (omega arith)
some_run p (b ∷ s) h e = rw e (omega arith)

by_front : (o : Opening) (s : List ℕ) (n : ℕ) (t : Option Tok) → 0 < length s → Fronts o s → Stands o s n t → (0 < n) × (n ≤ length s)
by_front opens.Blank s n t h f st = (omega (arith, st.0), omega (arith, st.0))
by_front opens.OrderMark s n t h f st = (omega (arith, st.0), omega (arith, st.0, f))
by_front (opens.Comment last) s n t h f st = (omega (arith, st.0.1), omega (arith, st.0.1, st.0.3.0))
by_front opens.LineComment s n t h f st = (rw st.0 (some_run is_not_lf s h f), rw st.0 (prefix_len-le-length is_not_lf s))
by_front opens.Word s n t h f st = (rw st.0 (some_run is_letter_or_digit s h f), rw st.0 (prefix_len-le-length is_letter_or_digit s))
by_front (opens.Literal ty) s n t h f st =
    let z = literal-sized ty (drop (length (prefix ty)) s) st.0 st.1 in
    (omega (arith, st.2, z.0), omega (arith, st.2, z.0, z.1, length-drop (length (prefix ty)) s))
by_front opens.Ampersand s n t h f st = (omega (arith, st.0), omega (arith, st.0))
by_front (opens.Symbol y) s n t h f st = (omega (arith, st.0, symbol-pos y), omega (arith, st.0, f))
by_front opens.Nothing s n t h f st = absurd st

-- what stands has some bytes, and no more than there are
pub stands-within : (p : ℕ) (s : List ℕ) (n : ℕ) (t : Option Tok) → 0 < length s → StandsAt p s n t → (0 < n) × (n ≤ length s)
stands-within p s n t h st = by_front st.0 s n t h (fronts p s st.0 st.1) st.2

pub finds-within : (p : ℕ) (s : List ℕ) (f : Found) → 0 < length s → FindsAt p s f → IsWithin (length s) f
finds-within p s (found.Piece t n) h st = stands-within p s n t h st
finds-within p s (found.Refused r) h st = tt

-- ---- the longest symbol

same-symbol : (y z : Sym) (o : Option Sym) → o ≡ Some y → o ≡ Some z → y ≡ z
same-symbol y z o e f = cc

found-first : (z y : Sym) (s : List ℕ) → ((r : List ℕ) → symbol_among all_symbols (spelling z ++ r) ≡ Some z) → symbol_among all_symbols s ≡ Some y
    → begins (spelling z) s ≡ true → length (spelling z) ≤ length (spelling y)
found-first z y s f e b =
    let g = ap (λ (l : List ℕ). symbol_among all_symbols l) (sym (begins-with (spelling z) s b)) ∙ f (drop (length (spelling z)) s) in
    let h = same-symbol y z _ e g in omega (arith, ap (λ (x : Sym). length (spelling x)) h)

pub longest-symbol : (s : List ℕ) (y z : Sym) → symbol_among all_symbols s ≡ Some y → begins (spelling z) s ≡ true → length (spelling z) ≤ length (spelling y)
unfolding symbol_among
longest-symbol s y symbol.Assign e b = found-first symbol.Assign y s (λ r. refl) e b
longest-symbol s y symbol.Colon e b = symbol-pos y
longest-symbol s y symbol.Semi e b = symbol-pos y
longest-symbol s y symbol.Comma e b = symbol-pos y
longest-symbol s y symbol.LParen e b = symbol-pos y
longest-symbol s y symbol.RParen e b = symbol-pos y
longest-symbol s y symbol.DotDot e b = found-first symbol.DotDot y s (λ r. refl) e b
longest-symbol s y symbol.Plus e b = symbol-pos y
longest-symbol s y symbol.Minus e b = symbol-pos y
longest-symbol s y symbol.Star e b = symbol-pos y
longest-symbol s y symbol.Slash e b = symbol-pos y
longest-symbol s y symbol.Eq e b = symbol-pos y
longest-symbol s y symbol.Ne e b = found-first symbol.Ne y s (λ r. refl) e b
longest-symbol s y symbol.Le e b = found-first symbol.Le y s (λ r. refl) e b
longest-symbol s y symbol.Ge e b = found-first symbol.Ge y s (λ r. refl) e b
longest-symbol s y symbol.Lt e b = symbol-pos y
longest-symbol s y symbol.Gt e b = symbol-pos y
