-- A token has the bytes of the longest spelling of a token at its place, and stands only where no gap begins.
use Rattle.std.proofs.Common.{◌≡◌, ℕ, ℤ, pos, zero, suc, ◌+◌, ◌<◌, ◌≤◌, Bool, true, false, cond, ◌&&◌, ◌||◌, List, [], ◌∷◌, ◌++◌, length, take, drop, Option}
use Rattle.std.proofs.Common.{Some, None, refl, sym, ap, ◌∙◌, subst, arith, inl, inr}
use Rattle.std.specs.Prelude.{slice_index, ◌==◌, codes, nat_eq}
use Rattle.std.specs.List.{prefix_len, list_all}
use Rattle.std.specs.Char.{is_ascii_digit, to_ascii_lowercase}
use Rattle.std.specs.Str.{str_eq_ignore_ascii_case}
use Rattle.std.proofs.lemmas.Bool.Decides.{nat_tests}
use Rattle.std.proofs.lemmas.List.{length-take, take-append-drop, drop-take}
use Rattle.std.proofs.lemmas.List.Folds.{length-prefix_len}
use Rattle.vcp_base.specs.declared.ty.Ty.{Ty}
use Rattle.vcp_base.specs.declared.ty.Ty.TheVariants as ty
use Rattle.vcp_base.specs.Names.{is_letter, is_letter_or_digit}
use Rattle.st_lexer.specs.declared.token.Key.{Key}
use Rattle.st_lexer.specs.declared.token.Key.TheVariants as key
use Rattle.st_lexer.specs.declared.token.Sym.{Sym}
use Rattle.st_lexer.specs.declared.token.Sym.TheVariants as symbol
use Rattle.st_lexer.specs.declared.token.Tok.{Tok}
use Rattle.st_lexer.specs.declared.token.Tok.TheVariants as tok
use Rattle.st_lexer.specs.declared.literal.Literal.{Literal}
use Rattle.st_lexer.specs.declared.piece.Opening.{Opening}
use Rattle.st_lexer.specs.declared.piece.Opening.TheVariants as opens
use Rattle.st_lexer.specs.Literals.{is_run, run, takes_sign, signed, plain, digits, with_sign, literal_at, literal_of, prefix}
use Rattle.st_lexer.specs.Literals.{begins_typed, BeginsLiteral}
use Rattle.st_lexer.specs.Symbols.{begins, spelling, symbol_among, all_symbols}
use Rattle.st_lexer.specs.Words.{key_or_name, key_among, all_keys}
use Rattle.st_lexer.specs.Reading.{begins_gap, begins_token, Begins, Stands, StandsAt}
use Rattle.st_lexer.specs.TokenSpellings.{IsWord, IsLiteral, IsSpelling}
use Rattle.st_lexer.proofs.Fronts.{stands-within, begins-is, literal-sized, of-some, longest-symbol}
use Rattle.st_lexer.proofs.Lacking.{symbol-begins}
use Rattle.st_lexer.proofs.Openings.{and-true, NoWord, begins-no-word, digit-no-word, typed-word, typed-one, ampersand-no-word, no-gap-at, pick, skip}

-- ---- fronts of a text

or-first : (t u : Bool) → t ≡ true → t || u ≡ true
or-first true u e = refl
or-first false u e = absurd cc

or-second : (t u v : Bool) → u ≡ true → t || (u || v) ≡ true
or-second true u v e = refl
or-second false true v e = refl
or-second false false v e = absurd cc

or-third : (t u v : Bool) → v ≡ true → t || (u || v) ≡ true
or-third true u v e = refl
or-third false true v e = refl
or-third false false v e = e

clash : (x : Bool) → x ≡ true → x ≡ false → ⊥
clash x e f = cc

take-within : (n m : ℕ) (s : List ℕ) → n ≤ m → take n (take m s) ≡ take n s
take-within zero m s h = refl
take-within (suc n) zero s h = absurd (omega arith)
take-within (suc n) (suc m) [] h = refl
take-within (suc n) (suc m) (b ∷ s) h = ap (λ (l : List ℕ). b ∷ l) (take-within n m s (omega arith))

first-within : (m : ℕ) (s : List ℕ) → 0 < m → slice_index (take m s) 0 ≡ slice_index s 0
first-within zero s h = absurd (omega arith)
first-within (suc m) [] h = refl
first-within (suc m) (b ∷ s) h = refl

-- bytes that all are of a word are no more than the longest run of them
run-most : (s : List ℕ) (m : ℕ) → m ≤ length s → list_all is_letter_or_digit (take m s) ≡ true → m ≤ prefix_len is_letter_or_digit s
run-most s zero le e = omega arith
run-most [] (suc m) le e = absurd (omega arith)
run-most (b ∷ s) (suc m) le e =
    let h = and-true (is_letter_or_digit b) _ e in
    let more = run-most s m (omega arith) h.1 in
    rw h.0 (omega (arith, more))

cond-most : (t : Bool) (x y : ℕ) → x ≤ y → cond t (1 + x) 0 ≤ cond t (1 + y) 0
cond-most true x y h = omega arith
cond-most false x y h = omega arith

-- the run of a front is no longer than that of the text
run-within : (p : ℕ → Bool) (j : ℕ) (s : List ℕ) → prefix_len p (take j s) ≤ prefix_len p s
run-within p zero s = omega arith
run-within p (suc j) [] = omega arith
run-within p (suc j) (b ∷ s) = cond-most (p b) _ _ (run-within p j s)

one-more : (m b : ℕ) (s : List ℕ) → take (1 + m) (b ∷ s) ≡ b ∷ take m s
one-more m b s = ap (λ k. take k (b ∷ s)) (let more : 1 + m ≡ suc m = omega arith in more)

again-by : (p : ℕ → Bool) (b : ℕ) (s : List ℕ) (t : Bool) → p b ≡ t → prefix_len p (take (prefix_len p s) s) ≡ prefix_len p s
    → prefix_len p (take (cond t (1 + prefix_len p s) 0) (b ∷ s)) ≡ cond t (1 + prefix_len p s) 0
again-by p b s true e h = ap (prefix_len p) (one-more (prefix_len p s) b s) ∙ rw e (omega (arith, h))
again-by p b s false e h = refl

run-again : (p : ℕ → Bool) (s : List ℕ) → prefix_len p (take (prefix_len p s) s) ≡ prefix_len p s
run-again p [] = refl
run-again p (b ∷ s) = again-by p b s (p b) refl (run-again p s)

run-run : (s : List ℕ) → run (run s) ≡ run s
run-run s =
    ap (λ k. take k (run s)) (run-again is_run s) ∙ take-within (prefix_len is_run s) (prefix_len is_run s) s (omega arith)

all-by : (p : ℕ → Bool) (b : ℕ) (s : List ℕ) (t : Bool) → p b ≡ t → list_all p (take (prefix_len p s) s) ≡ true
    → list_all p (take (cond t (1 + prefix_len p s) 0) (b ∷ s)) ≡ true
all-by p b s true e h = ap (list_all p) (one-more (prefix_len p s) b s) ∙ ap (λ t. t && list_all p (take (prefix_len p s) s)) e ∙ h
all-by p b s false e h = refl

all-of-run : (p : ℕ → Bool) (s : List ℕ) → list_all p (take (prefix_len p s) s) ≡ true
all-of-run p [] = refl
all-of-run p (b ∷ s) = all-by p b s (p b) refl (all-of-run p s)

-- ---- literals of a type

eq-front : (q : List ℕ) (m : ℕ) (s : List ℕ) → str_eq_ignore_ascii_case (take (length q) (take m s)) q ≡ true
    → str_eq_ignore_ascii_case (take (length q) s) q ≡ true
eq-front [] m s e = refl
eq-front (c ∷ q) zero s e = absurd cc
eq-front (c ∷ q) (suc m) [] e = e
eq-front (c ∷ q) (suc m) (b ∷ s) e =
    let h = and-true (nat_eq (to_ascii_lowercase b) (to_ascii_lowercase c)) _ e in
    rw h.0 (eq-front q m s h.1)

typed-front : (t : Ty) (m : ℕ) (s : List ℕ) → begins_typed t (take m s) ≡ true → begins_typed t s ≡ true
typed-front t m s e = eq-front (prefix (Some t)) m s e

one-most : (t : Bool) (x y : ℕ) → x ≤ y → cond t (1 + x) 0 ≤ suc y
one-most true x y h = omega arith
one-most false x y h = omega arith

hash-no-word : (b : ℕ) → nat_eq (to_ascii_lowercase b) 35 ≡ true → is_letter_or_digit b ≡ false
hash-no-word b e = grind (arith, nat_tests)

-- a word ends before the `#` that stands behind it
hash-ends : (q s : List ℕ) → str_eq_ignore_ascii_case (take (length (q ++ 35 ∷ [])) s) (q ++ 35 ∷ []) ≡ true → prefix_len is_letter_or_digit s ≤ length q
hash-ends [] [] e = omega arith
hash-ends (c ∷ q) [] e = omega arith
hash-ends [] (b ∷ s) e =
    let h = and-true (nat_eq (to_ascii_lowercase b) 35) _ e in
    let none : prefix_len is_letter_or_digit (b ∷ s) ≡ 0 = rw (hash-no-word b h.0) refl in omega (arith, none)
hash-ends (c ∷ q) (b ∷ s) e =
    let h = and-true (nat_eq (to_ascii_lowercase b) (to_ascii_lowercase c)) _ e in
    let more = hash-ends q s h.1 in
    one-most (is_letter_or_digit b) (prefix_len is_letter_or_digit s) (length q) more

typed-ends : (t : Ty) (s : List ℕ) → begins_typed t s ≡ true → prefix_len is_letter_or_digit s ≤ length (prefix (Some t))
typed-ends ty.Bool s e = let h = hash-ends (66 ∷ 79 ∷ 79 ∷ 76 ∷ []) s e in omega (arith, h)
typed-ends ty.Int s e = let h = hash-ends (73 ∷ 78 ∷ 84 ∷ []) s e in omega (arith, h)
typed-ends ty.Dint s e = let h = hash-ends (68 ∷ 73 ∷ 78 ∷ 84 ∷ []) s e in omega (arith, h)
typed-ends ty.Lint s e = let h = hash-ends (76 ∷ 73 ∷ 78 ∷ 84 ∷ []) s e in omega (arith, h)

-- a literal begins with a digit, or with the word of a type
literal-first : (t : Option Ty) (s : List ℕ) → BeginsLiteral t s → begins_token (slice_index s 0) ≡ true
literal-first None s h = or-second (is_letter (slice_index s 0)) (is_ascii_digit (slice_index s 0)) _ h
literal-first (Some t) s h = or-first (is_letter (slice_index s 0)) _ (typed-word t s h)

-- the literals of two types don't begin at one place
literal-one : (t u : Option Ty) (s : List ℕ) → BeginsLiteral t s → BeginsLiteral u s → t ≡ u
literal-one None None s h k = refl
literal-one None (Some u) s h k = absurd (clash _ (typed-word u s k) (digit-no-word (slice_index s 0) h))
literal-one (Some t) None s h k = absurd (clash _ (typed-word t s h) (digit-no-word (slice_index s 0) k))
literal-one (Some t) (Some u) s h k = ap (λ (x : Ty). Some x) (typed-one t u s h k)

literal-front : (t : Option Ty) (m : ℕ) (s : List ℕ) → 0 < m → BeginsLiteral t (take m s) → BeginsLiteral t s
literal-front None m s some h = sym (ap is_ascii_digit (first-within m s some)) ∙ h
literal-front (Some t) m s some h = typed-front t m s h

-- no literal begins with the first byte of a symbol
literal-no-symbol : (t : Option Ty) (s : List ℕ) → BeginsLiteral t s → NoWord (slice_index s 0) → ⊥
literal-no-symbol None s h w = clash _ h w.digit
literal-no-symbol (Some t) s h w = clash _ (typed-word t s h) w.word

-- ---- how many bytes a literal has

literal-len : (t : Option Ty) (s : List ℕ) (l : Literal) (x : Bool) → signed t s ≡ x → literal_at t s ≡ Some l
    → l.len ≡ cond x (length (run (drop 1 s)) + 1) (length (run s))
unfolding literal_at
literal-len t s l true f e = of-some _ _ _ l (sym (pick (signed t s) _ _ f) ∙ e)
literal-len t s l false f e = of-some _ _ _ l (sym (skip (signed t s) _ _ f) ∙ e)

run-most-of : (j : ℕ) (s : List ℕ) → length (run (take j s)) ≤ length (run s)
run-most-of j s = omega (arith, length-prefix_len is_run (take j s), length-prefix_len is_run s, run-within is_run j s)

len-most : (x : Bool) (b j : ℕ) (s : List ℕ)
    → cond x (length (run (take j s)) + 1) (length (run (b ∷ take j s))) ≤ cond x (length (run s) + 1) (length (run (b ∷ s)))
len-most true b j s = let h = run-most-of j s in omega (arith, h)
len-most false b j s = let h = run-most-of (suc j) (b ∷ s) in omega (arith, h)

-- a literal of a front is no longer than that of the text
literal-shorter : (t : Option Ty) (s : List ℕ) (j : ℕ) (l m : Literal) → literal_at t s ≡ Some l → literal_at t (take j s) ≡ Some m → m.len ≤ l.len
literal-shorter t s zero l m e f = let h = literal-sized t [] m f in omega (arith, h.0, h.1)
literal-shorter t [] (suc j) l m e f = let h = literal-sized t [] m f in omega (arith, h.0, h.1)
literal-shorter t (b ∷ s) (suc j) l m e f =
    let x : Bool = signed t (b ∷ s) in
    let long = literal-len t (b ∷ s) l x refl e in
    let short = literal-len t (b ∷ take j s) m x refl f in
    let most = len-most x b j s in
    omega (arith, long, short, most)

literal-signed : (t : Option Ty) (s : List ℕ) → signed t s ≡ true
    → literal_at t s ≡ literal_of (length (run (drop 1 s)) + 1) (with_sign (slice_index s 0)) (digits 10 (run (drop 1 s)))
unfolding literal_at
literal-signed t s e = pick (signed t s) _ _ e

literal-plain : (t : Option Ty) (s : List ℕ) → signed t s ≡ false → literal_at t s ≡ literal_of (length (run s)) pos (plain t (run s))
unfolding literal_at
literal-plain t s e = skip (signed t s) _ _ e

signed-first : (t : Option Ty) (r s : List ℕ) → slice_index r 0 ≡ slice_index s 0 → signed t r ≡ signed t s
signed-first t r s h = ap (λ b. takes_sign t && (b == 43 || b == 45)) h

cut-by : (t : Option Ty) (b : ℕ) (s : List ℕ) (l : Literal) (x : Bool) → signed t (b ∷ s) ≡ x → literal_at t (b ∷ s) ≡ Some l
    → l.len ≡ cond x (length (run s) + 1) (length (run (b ∷ s))) → 0 < l.len → literal_at t (take l.len (b ∷ s)) ≡ Some l
cut-by t b s l true f e n some =
    let len : l.len ≡ suc (prefix_len is_run s) = omega (arith, n, length-prefix_len is_run s) in
    let cut : take l.len (b ∷ s) ≡ b ∷ run s = ap (λ k. take k (b ∷ s)) len in
    ap (literal_at t) cut ∙ literal-signed t (b ∷ run s) f
    ∙ ap (λ (r : List ℕ). literal_of (length r + 1) (with_sign b) (digits 10 r)) (run-run s)
    ∙ sym (literal-signed t (b ∷ s) f) ∙ e
cut-by t b s l false f e n some =
    let len : l.len ≡ prefix_len is_run (b ∷ s) = n ∙ length-prefix_len is_run (b ∷ s) in
    let cut : take l.len (b ∷ s) ≡ run (b ∷ s) = ap (λ k. take k (b ∷ s)) len in
    let first : slice_index (run (b ∷ s)) 0 ≡ b = first-within (prefix_len is_run (b ∷ s)) (b ∷ s) (omega (arith, len, some)) in
    ap (literal_at t) cut ∙ literal-plain t (run (b ∷ s)) (signed-first t (run (b ∷ s)) (b ∷ s) first ∙ f)
    ∙ ap (λ (r : List ℕ). literal_of (length r) pos (plain t r)) (run-run (b ∷ s))
    ∙ sym (literal-plain t (b ∷ s) f) ∙ e

-- a literal is one of its own bytes
literal-cut : (t : Option Ty) (s : List ℕ) (l : Literal) → literal_at t s ≡ Some l → literal_at t (take l.len s) ≡ Some l
literal-cut t [] l e = let h = literal-sized t [] l e in absurd (omega (arith, h.0, h.1))
literal-cut t (b ∷ s) l e =
    cut-by t b s l (signed t (b ∷ s)) refl e (literal-len t (b ∷ s) l _ refl e) (literal-sized t (b ∷ s) l e).0

-- ---- the longest spelling

-- the forms that spellings of tokens have
data Form (w : List ℕ) : Type 0 where
  a_word : IsWord w → Form w
  an_ampersand : w ≡ codes "&" → Form w
  a_literal : (t : Option Ty) (v : ℤ) → IsLiteral t v w → Form w
  a_symbol : (y : Sym) → w ≡ spelling y → Form w

form-of : (t : Tok) (w : List ℕ) → IsSpelling t w → Form w
form-of tok.Name w h = a_word h.0
form-of (tok.Key k) w (inl h) = a_word h.0
form-of (tok.Key k) w (inr h) = an_ampersand h.1
form-of (tok.Number t v) w h = a_literal t v h
form-of (tok.Sym y) w h = a_symbol y h

begins-itself : (y : Sym) (r : List ℕ) → begins (spelling y) (spelling y ++ r) ≡ true
begins-itself symbol.Assign r = refl
begins-itself symbol.Colon r = refl
begins-itself symbol.Semi r = refl
begins-itself symbol.Comma r = refl
begins-itself symbol.LParen r = refl
begins-itself symbol.RParen r = refl
begins-itself symbol.DotDot r = refl
begins-itself symbol.Plus r = refl
begins-itself symbol.Minus r = refl
begins-itself symbol.Star r = refl
begins-itself symbol.Slash r = refl
begins-itself symbol.Eq r = refl
begins-itself symbol.Ne r = refl
begins-itself symbol.Le r = refl
begins-itself symbol.Ge r = refl
begins-itself symbol.Lt r = refl
begins-itself symbol.Gt r = refl

symbol-front : (y : Sym) (m : ℕ) (s : List ℕ) → take m s ≡ spelling y → begins (spelling y) s ≡ true
symbol-front y m s e =
    subst (λ (l : List ℕ). begins (spelling y) l ≡ true)
    (ap (λ (l : List ℕ). l ++ drop m s) (sym e) ∙ take-append-drop m s) (begins-itself y (drop m s))

one-byte : (m : ℕ) (s : List ℕ) → m ≤ length s → take m s ≡ codes "&" → m ≡ 1
one-byte m s le e = omega (arith, ap length e, length-take m s)

first-word : (m : ℕ) (s : List ℕ) → 0 < m → IsWord (take m s) → is_letter (slice_index s 0) ≡ true
first-word m s some h = sym (ap is_letter (first-within m s some)) ∙ h.0

at-word : (m : ℕ) (s : List ℕ) → 0 < m → m ≤ length s → is_letter (slice_index s 0) ≡ true → ((t : Ty) → begins_typed t s ≡ false)
    → 0 < prefix_len is_letter_or_digit s → Form (take m s) → m ≤ prefix_len is_letter_or_digit s
at-word m s some le b none n (a_word h) = run-most s m le h.1
at-word m s some le b none n (an_ampersand e) = omega (arith, one-byte m s le e, n)
at-word m s some le b none n (a_literal None v h) =
    absurd (clash _ b (digit-no-word (slice_index s 0) (literal-front None m s some h.1)))
at-word m s some le b none n (a_literal (Some t) v h) = absurd (clash _ (typed-front t m s h.1) (none t))
at-word m s some le b none n (a_symbol y e) = absurd (clash _ b (begins-no-word y s (symbol-front y m s e)).word)

word-in-literal : (t : Option Ty) (m : ℕ) (s : List ℕ) → 0 < m → m ≤ length s → BeginsLiteral t s → IsWord (take m s) → m ≤ length (prefix t)
word-in-literal None m s some le b h = absurd (clash _ (first-word m s some h) (digit-no-word (slice_index s 0) b))
word-in-literal (Some t) m s some le b h = let k = run-most s m le h.1 in omega (arith, k, typed-ends t s b)

same-literal : (t : Option Ty) (v : ℤ) (m : ℕ) (s : List ℕ) (l : Literal) → m ≤ length s → literal_at t (drop (length (prefix t)) s) ≡ Some l
    → IsLiteral t v (take m s) → m ≤ length (prefix t) + l.len
same-literal t v m s l le e h =
    let k = length (prefix t) in
    let len : m ≡ k + h.0 = omega (arith, h.2, length-take m s) in
    let cut : drop k (take m s) ≡ take h.0 (drop k s) = ap (λ i. drop k (take i s)) len ∙ drop-take k h.0 s in
    let short = literal-shorter t (drop k s) h.0 l (record { value = v; len = h.0 }) e (sym (ap (literal_at t) cut) ∙ h.3) in
    omega (arith, len, short)

at-literal : (t : Option Ty) (m : ℕ) (s : List ℕ) (l : Literal) → 0 < m → m ≤ length s → BeginsLiteral t s
    → literal_at t (drop (length (prefix t)) s) ≡ Some l → 0 < length (prefix t) + l.len → Form (take m s) → m ≤ length (prefix t) + l.len
at-literal t m s l some le b e n (a_word h) = let k = word-in-literal t m s some le b h in omega (arith, k)
at-literal t m s l some le b e n (an_ampersand a) = omega (arith, one-byte m s le a, n)
at-literal t m s l some le b e n (a_literal u v h) =
    let same : u ≡ t = literal-one u t s (literal-front u m s some h.1) b in
    same-literal t v m s l le e (subst (λ (x : Option Ty). IsLiteral x v (take m s)) same h)
at-literal t m s l some le b e n (a_symbol y a) = absurd (literal-no-symbol t s b (begins-no-word y s (symbol-front y m s a)))

at-ampersand : (m : ℕ) (s : List ℕ) → 0 < m → m ≤ length s → (slice_index s 0 == 38) ≡ true → Form (take m s) → m ≤ 1
at-ampersand m s some le b (a_word h) = absurd (clash _ (first-word m s some h) (ampersand-no-word (slice_index s 0) b).0)
at-ampersand m s some le b (an_ampersand e) = omega (arith, one-byte m s le e)
at-ampersand m s some le b (a_literal None v h) = absurd (clash _ (literal-front None m s some h.1) (ampersand-no-word (slice_index s 0) b).1)
at-ampersand m s some le b (a_literal (Some t) v h) =
    absurd (clash _ (typed-word t s (typed-front t m s h.1)) (ampersand-no-word (slice_index s 0) b).0)
at-ampersand m s some le b (a_symbol y e) = absurd (clash _ b (begins-no-word y s (symbol-front y m s e)).ampersand)

at-symbol : (y : Sym) (m : ℕ) (s : List ℕ) → 0 < m → m ≤ length s → symbol_among all_symbols s ≡ Some y → 0 < length (spelling y)
    → Form (take m s) → m ≤ length (spelling y)
at-symbol y m s some le e n (a_word h) = absurd (clash _ (first-word m s some h) (begins-no-word y s (symbol-begins s y e)).word)
at-symbol y m s some le e n (an_ampersand a) = omega (arith, one-byte m s le a, n)
at-symbol y m s some le e n (a_literal t v h) =
    absurd (literal-no-symbol t s (literal-front t m s some h.1) (begins-no-word y s (symbol-begins s y e)))
at-symbol y m s some le e n (a_symbol z a) =
    let most = longest-symbol s y z e (symbol-front z m s a) in
    omega (arith, most, ap length a, length-take m s)

no-gap-token : (t : Tok) → Some t ≡ None → ⊥
no-gap-token t e = cc

longest-by : (o : Opening) (p : ℕ) (s : List ℕ) (n m : ℕ) (t : Tok) → Begins p s o → Stands o s n (Some t) → 0 < n → 0 < m → m ≤ length s
    → Form (take m s) → m ≤ n
longest-by opens.Blank p s n m t b st some_of some le f = absurd (no-gap-token t st.1)
longest-by opens.OrderMark p s n m t b st some_of some le f = absurd (no-gap-token t st.1)
longest-by (opens.Comment last) p s n m t b st some_of some le f = absurd (no-gap-token t st.1)
longest-by opens.LineComment p s n m t b st some_of some le f = absurd (no-gap-token t st.1)
longest-by opens.Word p s n m t b st some_of some le f =
    let most = at-word m s some le b.0 b.1 (omega (arith, st.0, some_of)) f in omega (arith, most, st.0)
longest-by (opens.Literal u) p s n m t b st some_of some le f =
    let most = at-literal u m s st.0 some le b st.1 (omega (arith, st.2, some_of)) f in omega (arith, most, st.2)
longest-by opens.Ampersand p s n m t b st some_of some le f = let most = at-ampersand m s some le b f in omega (arith, most, st.0)
longest-by (opens.Symbol y) p s n m t b st some_of some le f =
    let most = at-symbol y m s some le b.1 (omega (arith, st.0, some_of)) f in omega (arith, most, st.0)
longest-by opens.Nothing p s n m t b st some_of some le f = absurd st

-- no longer spelling of a token stands where a token does
pub longest-token : (p : ℕ) (s : List ℕ) (n m : ℕ) (t u : Tok) → StandsAt p s n (Some t) → m ≤ length s → IsSpelling u (take m s) → m ≤ n
longest-token p s n zero t u st le h = omega arith
longest-token p s n (suc m) t u st le h =
    let w = stands-within p s n (Some t) (omega arith) st in
    longest-by st.0 p s n (suc m) t st.1 st.2 w.0 (omega arith) le (form-of u (take (suc m) s) h)

-- ---- a token's own bytes

word-spelled : (w : List ℕ) (t : Tok) (o : Option Key) → key_among all_keys w ≡ o → IsWord w → Some t ≡ Some (key_or_name o) → IsSpelling t w
word-spelled w tok.Name None e h s = (h, ap key_or_name e)
word-spelled w tok.Name (Some k) e h s = absurd cc
word-spelled w (tok.Key j) None e h s = absurd cc
word-spelled w (tok.Key j) (Some k) e h s = let same : j ≡ k = cc in inl (h, ap key_or_name e ∙ ap (λ (x : Key). tok.Key x) (sym same))
word-spelled w (tok.Number t v) None e h s = absurd cc
word-spelled w (tok.Number t v) (Some k) e h s = absurd cc
word-spelled w (tok.Sym y) None e h s = absurd cc
word-spelled w (tok.Sym y) (Some k) e h s = absurd cc

same-spelling : (t u : Tok) (w : List ℕ) → Some t ≡ Some u → IsSpelling u w → IsSpelling t w
same-spelling t u w e h = let same : u ≡ t = cc in subst (λ (x : Tok). IsSpelling x w) same h

literal-back : (t : Option Ty) (n : ℕ) (s : List ℕ) → 0 < n → length (prefix t) ≤ n → BeginsLiteral t s → BeginsLiteral t (take n s)
literal-back None n s some le h = ap is_ascii_digit (first-within n s some) ∙ h
literal-back (Some t) n s some le h =
    ap (λ (l : List ℕ). str_eq_ignore_ascii_case l (prefix (Some t))) (take-within (length (prefix (Some t))) n s le) ∙ h

symbol-is : (y : Sym) (s : List ℕ) → begins (spelling y) s ≡ true → take (length (spelling y)) s ≡ spelling y
symbol-is y s e = sym (begins-is (spelling y) s e)

ampersand-is : (s : List ℕ) → 0 < length s → (slice_index s 0 == 38) ≡ true → take 1 s ≡ codes "&"
ampersand-is [] some e = absurd (omega arith)
ampersand-is (b ∷ s) some e = let same : b ≡ 38 = grind (arith, nat_tests) in ap (λ x. x ∷ []) same

spelled-by : (o : Opening) (p : ℕ) (s : List ℕ) (n : ℕ) (t : Tok) → Begins p s o → Stands o s n (Some t) → 0 < n → n ≤ length s → IsSpelling t (take n s)
spelled-by opens.Blank p s n t b st some_of le = absurd (no-gap-token t st.1)
spelled-by opens.OrderMark p s n t b st some_of le = absurd (no-gap-token t st.1)
spelled-by (opens.Comment last) p s n t b st some_of le = absurd (no-gap-token t st.1)
spelled-by opens.LineComment p s n t b st some_of le = absurd (no-gap-token t st.1)
spelled-by opens.Word p s n t b st some_of le =
    let first = ap is_letter (first-within n s some_of) ∙ b.0 in
    let each = ap (λ k. list_all is_letter_or_digit (take k s)) st.0 ∙ all-of-run is_letter_or_digit s in
    word-spelled (take n s) t _ refl (first, each) st.1
spelled-by (opens.Literal u) p s n t b st some_of le =
    let k = length (prefix u) in
    let len : length (take n s) ≡ k + st.0.len = omega (arith, length-take n s, st.2, le) in
    let cut : drop k (take n s) ≡ take st.0.len (drop k s) = ap (λ i. drop k (take i s)) st.2 ∙ drop-take k st.0.len s in
    same-spelling t (tok.Number u st.0.value) (take n s) st.3
    (st.0.len, literal-back u n s some_of (omega (arith, st.2)) b, len, ap (literal_at u) cut ∙ literal-cut u (drop k s) st.0 st.1)
spelled-by opens.Ampersand p s n t b st some_of le =
    same-spelling t (tok.Key key.And) (take n s) st.1 (inr (refl, ap (λ k. take k s) st.0 ∙ ampersand-is s (omega arith) b))
spelled-by (opens.Symbol y) p s n t b st some_of le =
    same-spelling t (tok.Sym y) (take n s) st.1 (ap (λ k. take k s) st.0 ∙ symbol-is y s (symbol-begins s y b.1))
spelled-by opens.Nothing p s n t b st some_of le = absurd st

-- the bytes of a token are a spelling of it
pub token-spelled : (p : ℕ) (s : List ℕ) (n : ℕ) (t : Tok) → 0 < length s → StandsAt p s n (Some t) → IsSpelling t (take n s)
token-spelled p s n t some st =
    let w = stands-within p s n (Some t) some st in
    spelled-by st.0 p s n t st.1 st.2 w.0 w.1

-- ---- gaps come first

gap-by : (o : Opening) (p : ℕ) (s : List ℕ) (n : ℕ) (t : Tok) → Begins p s o → Stands o s n (Some t) → begins_gap p s ≡ false
gap-by opens.Blank p s n t b st = absurd (no-gap-token t st.1)
gap-by opens.OrderMark p s n t b st = absurd (no-gap-token t st.1)
gap-by (opens.Comment last) p s n t b st = absurd (no-gap-token t st.1)
gap-by opens.LineComment p s n t b st = absurd (no-gap-token t st.1)
gap-by opens.Word p s n t b st = no-gap-at p s (or-first (is_letter (slice_index s 0)) _ b.0)
gap-by (opens.Literal u) p s n t b st = no-gap-at p s (literal-first u s b)
gap-by opens.Ampersand p s n t b st = no-gap-at p s (or-third (is_letter (slice_index s 0)) (is_ascii_digit (slice_index s 0)) _ b)
gap-by (opens.Symbol y) p s n t b st = b.0
gap-by opens.Nothing p s n t b st = absurd st

-- no token stands where a gap begins
pub gaps-first : (p : ℕ) (s : List ℕ) (n : ℕ) (t : Tok) → StandsAt p s n (Some t) → begins_gap p s ≡ false
gaps-first p s n t st = gap-by st.0 p s n t st.1 st.2
