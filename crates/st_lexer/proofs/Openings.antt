-- At each place one thing begins, and it is what is found to begin there.
use Rattle.std.proofs.Common.{◌≡◌, ℕ, Bool, true, false, cond, ◌&&◌, ◌||◌, List, [], ◌∷◌, ◌++◌, length, take, drop, Option, Some, None, refl, sym, ap, ◌∙◌}
use Rattle.std.proofs.Common.{subst, arith, inl, inr}
use Rattle.std.specs.Prelude.{slice_index, ◌==◌, codes, nat_eq}
use Rattle.std.specs.Char.{is_ascii_digit, to_ascii_lowercase}
use Rattle.std.specs.Cmp.Lexicographic.{same_text}
use Rattle.std.proofs.lemmas.Bool.Decides.{nat_tests}
use Rattle.std.proofs.lemmas.List.{take-append-drop}
use Rattle.vcp_base.specs.declared.ty.Ty.{Ty}
use Rattle.vcp_base.specs.declared.ty.Ty.TheVariants as ty
use Rattle.vcp_base.specs.Names.{is_letter}
use Rattle.st_lexer.specs.declared.token.Sym.{Sym}
use Rattle.st_lexer.specs.declared.token.Sym.TheVariants as symbol
use Rattle.st_lexer.specs.declared.token.Tok.{Tok}
use Rattle.st_lexer.specs.declared.fault.Reason.{Reason}
use Rattle.st_lexer.specs.declared.piece.Found.{Found}
use Rattle.st_lexer.specs.declared.piece.Found.TheVariants as found
use Rattle.st_lexer.specs.declared.piece.Opening.{Opening}
use Rattle.st_lexer.specs.declared.piece.Opening.TheVariants as opens
use Rattle.st_lexer.specs.Literals.{begins_typed}
use Rattle.st_lexer.specs.Symbols.{begins, spelling, symbol_among, all_symbols}
use Rattle.st_lexer.specs.Reading.{is_blank, order_mark, OpensComment, begins_gap, begins_token, Begins, Stands, Refuses, StandsAt, RefusedAt}
use Rattle.st_lexer.specs.Pieces.{type_at, word_opening, symbol_opening, opening, Finds, FindsAt}
use Rattle.st_lexer.proofs.Lacking.{symbol-begins}

-- ---- tests

or-false : (t u : Bool) → t || u ≡ false → (t ≡ false) × (u ≡ false)
or-false true u e = absurd cc
or-false false u e = (refl, e)

false-or : (t u : Bool) → t ≡ false → u ≡ false → t || u ≡ false
false-or true u e f = absurd cc
false-or false u e f = f

pub and-true : (t u : Bool) → t && u ≡ true → (t ≡ true) × (u ≡ true)
and-true true u e = (refl, e)
and-true false u e = absurd cc

same-number : (x y : ℕ) → (x == y) ≡ true → x ≡ y
same-number x y e = grind (arith, nat_tests)

-- a text that begins with w is w and the rest
pub begins-with : (w s : List ℕ) → begins w s ≡ true → w ++ drop (length w) s ≡ s
begins-with w s e =
    ap (λ (l : List ℕ). l ++ drop (length w) s) (same_text w (take (length w) s) (sym e)) ∙ take-append-drop (length w) s

-- ---- first bytes

-- no gap begins with the byte
pub record NoGap (b : ℕ) : Type 0 where
  pub blank : is_blank b ≡ false
  pub bracket : nat_eq 40 b ≡ false
  pub slash : nat_eq 47 b ≡ false
  pub mark : nat_eq 239 b ≡ false

word-no-gap : (b : ℕ) → is_letter b ≡ true → NoGap b
word-no-gap b e =
    record { blank = grind (arith, nat_tests); bracket = grind (arith, nat_tests); slash = grind (arith, nat_tests); mark = grind (arith, nat_tests) }

digit-no-gap : (b : ℕ) → is_ascii_digit b ≡ true → NoGap b
digit-no-gap b e =
    record { blank = grind (arith, nat_tests); bracket = grind (arith, nat_tests); slash = grind (arith, nat_tests); mark = grind (arith, nat_tests) }

pub digit-no-word : (b : ℕ) → is_ascii_digit b ≡ true → is_letter b ≡ false
digit-no-word b e = grind (arith, nat_tests)

-- the first byte of a symbol
pub record NoWord (b : ℕ) : Type 0 where
  pub word : is_letter b ≡ false
  pub digit : is_ascii_digit b ≡ false
  pub ampersand : (b == 38) ≡ false

pub symbol-no-word : (y : Sym) → NoWord (slice_index (spelling y) 0)
symbol-no-word symbol.Assign = record { word = refl; digit = refl; ampersand = refl }
symbol-no-word symbol.Colon = record { word = refl; digit = refl; ampersand = refl }
symbol-no-word symbol.Semi = record { word = refl; digit = refl; ampersand = refl }
symbol-no-word symbol.Comma = record { word = refl; digit = refl; ampersand = refl }
symbol-no-word symbol.LParen = record { word = refl; digit = refl; ampersand = refl }
symbol-no-word symbol.RParen = record { word = refl; digit = refl; ampersand = refl }
symbol-no-word symbol.DotDot = record { word = refl; digit = refl; ampersand = refl }
symbol-no-word symbol.Plus = record { word = refl; digit = refl; ampersand = refl }
symbol-no-word symbol.Minus = record { word = refl; digit = refl; ampersand = refl }
symbol-no-word symbol.Star = record { word = refl; digit = refl; ampersand = refl }
symbol-no-word symbol.Slash = record { word = refl; digit = refl; ampersand = refl }
symbol-no-word symbol.Eq = record { word = refl; digit = refl; ampersand = refl }
symbol-no-word symbol.Ne = record { word = refl; digit = refl; ampersand = refl }
symbol-no-word symbol.Le = record { word = refl; digit = refl; ampersand = refl }
symbol-no-word symbol.Ge = record { word = refl; digit = refl; ampersand = refl }
symbol-no-word symbol.Lt = record { word = refl; digit = refl; ampersand = refl }
symbol-no-word symbol.Gt = record { word = refl; digit = refl; ampersand = refl }

first-of : (y : Sym) (r : List ℕ) → slice_index (spelling y ++ r) 0 ≡ slice_index (spelling y) 0
first-of symbol.Assign r = refl
first-of symbol.Colon r = refl
first-of symbol.Semi r = refl
first-of symbol.Comma r = refl
first-of symbol.LParen r = refl
first-of symbol.RParen r = refl
first-of symbol.DotDot r = refl
first-of symbol.Plus r = refl
first-of symbol.Minus r = refl
first-of symbol.Star r = refl
first-of symbol.Slash r = refl
first-of symbol.Eq r = refl
first-of symbol.Ne r = refl
first-of symbol.Le r = refl
first-of symbol.Ge r = refl
first-of symbol.Lt r = refl
first-of symbol.Gt r = refl

-- where a text begins with a symbol
pub begins-no-word : (y : Sym) (s : List ℕ) → begins (spelling y) s ≡ true → NoWord (slice_index s 0)
begins-no-word y s e =
    let first : slice_index (spelling y) 0 ≡ slice_index s 0 =
    sym (first-of y (drop (length (spelling y)) s)) ∙ ap (λ (l : List ℕ). slice_index l 0) (begins-with (spelling y) s e) in
    subst NoWord first (symbol-no-word y)

-- ---- literals of a type

-- the first letter of a type, in lowercase
abbrev letter : Ty → ℕ
letter ty.Bool = 98
letter ty.Int = 105
letter ty.Dint = 100
letter ty.Lint = 108

typed-letter : (t : Ty) (b : ℕ) (s : List ℕ) → begins_typed t (b ∷ s) ≡ true → nat_eq (to_ascii_lowercase b) (letter t) ≡ true
typed-letter ty.Bool b s e = (and-true (nat_eq (to_ascii_lowercase b) 98) _ e).0
typed-letter ty.Int b s e = (and-true (nat_eq (to_ascii_lowercase b) 105) _ e).0
typed-letter ty.Dint b s e = (and-true (nat_eq (to_ascii_lowercase b) 100) _ e).0
typed-letter ty.Lint b s e = (and-true (nat_eq (to_ascii_lowercase b) 108) _ e).0

letter-word : (t : Ty) (b : ℕ) → nat_eq (to_ascii_lowercase b) (letter t) ≡ true → is_letter b ≡ true
letter-word ty.Bool b e = grind (arith, nat_tests)
letter-word ty.Int b e = grind (arith, nat_tests)
letter-word ty.Dint b e = grind (arith, nat_tests)
letter-word ty.Lint b e = grind (arith, nat_tests)

typed-some : (t : Ty) → begins_typed t [] ≡ true → ⊥
typed-some ty.Bool e = cc
typed-some ty.Int e = cc
typed-some ty.Dint e = cc
typed-some ty.Lint e = cc

-- a literal of a type begins with a letter
pub typed-word : (t : Ty) (s : List ℕ) → begins_typed t s ≡ true → is_letter (slice_index s 0) ≡ true
typed-word t [] e = absurd (typed-some t e)
typed-word t (b ∷ s) e = letter-word t b (typed-letter t b s e)

letter-one : (t u : Ty) → letter t ≡ letter u → t ≡ u
letter-one ty.Bool ty.Bool e = refl
letter-one ty.Bool ty.Int e = absurd (omega arith)
letter-one ty.Bool ty.Dint e = absurd (omega arith)
letter-one ty.Bool ty.Lint e = absurd (omega arith)
letter-one ty.Int ty.Bool e = absurd (omega arith)
letter-one ty.Int ty.Int e = refl
letter-one ty.Int ty.Dint e = absurd (omega arith)
letter-one ty.Int ty.Lint e = absurd (omega arith)
letter-one ty.Dint ty.Bool e = absurd (omega arith)
letter-one ty.Dint ty.Int e = absurd (omega arith)
letter-one ty.Dint ty.Dint e = refl
letter-one ty.Dint ty.Lint e = absurd (omega arith)
letter-one ty.Lint ty.Bool e = absurd (omega arith)
letter-one ty.Lint ty.Int e = absurd (omega arith)
letter-one ty.Lint ty.Dint e = absurd (omega arith)
letter-one ty.Lint ty.Lint e = refl

both-same : (x y z : ℕ) → nat_eq x y ≡ true → nat_eq x z ≡ true → y ≡ z
both-same x y z e f = grind (arith, nat_tests)

-- a literal of one type begins
pub typed-one : (t u : Ty) (s : List ℕ) → begins_typed t s ≡ true → begins_typed u s ≡ true → t ≡ u
typed-one t u [] e f = absurd (typed-some t e)
typed-one t u (b ∷ s) e f =
    letter-one t u (both-same (to_ascii_lowercase b) (letter t) (letter u) (typed-letter t b s e) (typed-letter u b s f))

other-type : (t u : Ty) (s : List ℕ) (x : Bool) → begins_typed u s ≡ x → (t ≡ u → ⊥) → begins_typed t s ≡ true → x ≡ false
other-type t u s true f apart e = absurd (apart (typed-one t u s e f))
other-type t u s false f apart e = refl

-- ---- the chain of questions

pub pick : {A : Type 0} (t : Bool) (x y : A) → t ≡ true → cond t x y ≡ x
pick true x y e = refl
pick false x y e = absurd cc

pub skip : {A : Type 0} (t : Bool) (x y : A) → t ≡ false → cond t x y ≡ y
skip true x y e = absurd cc
skip false x y e = refl

pub chosen : {A : Type 0} (P : A → Type 0) (t : Bool) (x y : A) → (t ≡ true → P x) → (t ≡ false → P y) → P (cond t x y)
chosen P true x y f g = f refl
chosen P false x y f g = g refl

type-is : (t : Ty) (s : List ℕ) → begins_typed t s ≡ true → type_at s ≡ Some t
unfolding type_at
type-is ty.Bool s e = pick (begins_typed ty.Bool s) _ _ e
type-is ty.Int s e =
    let no_bool = other-type ty.Int ty.Bool s _ refl (λ h. let k : letter ty.Int ≡ letter ty.Bool = ap letter h in omega (arith, k)) e in
    skip (begins_typed ty.Bool s) _ _ no_bool ∙ pick (begins_typed ty.Int s) _ _ e
type-is ty.Dint s e =
    let no_bool = other-type ty.Dint ty.Bool s _ refl (λ h. let k : letter ty.Dint ≡ letter ty.Bool = ap letter h in omega (arith, k)) e in
    let no_int = other-type ty.Dint ty.Int s _ refl (λ h. let k : letter ty.Dint ≡ letter ty.Int = ap letter h in omega (arith, k)) e in
    skip (begins_typed ty.Bool s) _ _ no_bool ∙ skip (begins_typed ty.Int s) _ _ no_int ∙ pick (begins_typed ty.Dint s) _ _ e
type-is ty.Lint s e =
    let no_bool = other-type ty.Lint ty.Bool s _ refl (λ h. let k : letter ty.Lint ≡ letter ty.Bool = ap letter h in omega (arith, k)) e in
    let no_int = other-type ty.Lint ty.Int s _ refl (λ h. let k : letter ty.Lint ≡ letter ty.Int = ap letter h in omega (arith, k)) e in
    let no_dint = other-type ty.Lint ty.Dint s _ refl (λ h. let k : letter ty.Lint ≡ letter ty.Dint = ap letter h in omega (arith, k)) e in
    skip (begins_typed ty.Bool s) _ _ no_bool ∙ skip (begins_typed ty.Int s) _ _ no_int ∙ skip (begins_typed ty.Dint s) _ _ no_dint
    ∙ pick (begins_typed ty.Lint s) _ _ e

type-none : (s : List ℕ) → ((t : Ty) → begins_typed t s ≡ false) → type_at s ≡ None
unfolding type_at
type-none s h =
    skip (begins_typed ty.Bool s) _ _ (h ty.Bool) ∙ skip (begins_typed ty.Int s) _ _ (h ty.Int) ∙ skip (begins_typed ty.Dint s) _ _ (h ty.Dint)
    ∙ skip (begins_typed ty.Lint s) _ _ (h ty.Lint)

-- what begins where no gap does
behind-gaps : ℕ → List ℕ → Opening
behind-gaps b s =
    cond (is_letter b) (word_opening (type_at s))
    (cond (is_ascii_digit b) (opens.Literal None) (cond (b == 38) opens.Ampersand (symbol_opening (symbol_among all_symbols s))))

behind-gap : (p : ℕ) (s : List ℕ) → begins_gap p s ≡ false → opening p s ≡ behind-gaps (slice_index s 0) s
unfolding opening behind-gaps
behind-gap p s e =
    let a = or-false (is_blank (slice_index s 0)) _ e in
    let b = or-false (begins order_mark s && p == 0) _ a.1 in
    let c = or-false (begins (codes "(*") s) _ b.1 in
    let d = or-false (begins (codes "/*") s) (begins (codes "//") s) c.1 in
    skip (is_blank (slice_index s 0)) _ _ a.0 ∙ skip (begins order_mark s && p == 0) _ _ b.0
    ∙ skip (begins (codes "(*") s) _ _ c.0 ∙ skip (begins (codes "/*") s) _ _ d.0 ∙ skip (begins (codes "//") s) _ _ d.1

no-gap : (p : ℕ) (s : List ℕ) → NoGap (slice_index s 0) → begins_gap p s ≡ false
no-gap p [] g = refl
no-gap p (b ∷ s) g = rw (g.blank, g.bracket, g.slash, g.mark) refl

ampersand-no-gap : (b : ℕ) → (b == 38) ≡ true → NoGap b
ampersand-no-gap b e =
    record { blank = grind (arith, nat_tests); bracket = grind (arith, nat_tests); slash = grind (arith, nat_tests); mark = grind (arith, nat_tests) }

pub ampersand-no-word : (b : ℕ) → (b == 38) ≡ true → (is_letter b ≡ false) × (is_ascii_digit b ≡ false)
ampersand-no-word b e = (grind (arith, nat_tests), grind (arith, nat_tests))

-- where a token or a literal begins that is no symbol, no gap does
pub no-gap-at : (p : ℕ) (s : List ℕ) → begins_token (slice_index s 0) ≡ true → begins_gap p s ≡ false
no-gap-at p s e =
    no-gap p s (token-no-gap (is_letter (slice_index s 0)) (is_ascii_digit (slice_index s 0)) (slice_index s 0 == 38) (slice_index s 0)
    (word-no-gap (slice_index s 0)) (digit-no-gap (slice_index s 0)) (ampersand-no-gap (slice_index s 0)) e)
  where
    token-no-gap : (t u v : Bool) (b : ℕ) → (t ≡ true → NoGap b) → (u ≡ true → NoGap b) → (v ≡ true → NoGap b) → t || (u || v) ≡ true → NoGap b
    token-no-gap true u v b f g h e = f refl
    token-no-gap false true v b f g h e = g refl
    token-no-gap false false v b f g h e = h e

opening-word : (p : ℕ) (s : List ℕ) → is_letter (slice_index s 0) ≡ true → opening p s ≡ word_opening (type_at s)
unfolding behind-gaps
opening-word p s e = behind-gap p s (no-gap p s (word-no-gap (slice_index s 0) e)) ∙ pick (is_letter (slice_index s 0)) _ _ e

opening-comment : (p last : ℕ) (s : List ℕ) → OpensComment last s → opening p s ≡ opens.Comment last
unfolding opening
opening-comment p last s (inl h) =
    let at : opening p (codes "(*" ++ drop 2 s) ≡ opens.Comment 41 = refl in
    subst (λ (l : List ℕ). opening p l ≡ opens.Comment 41) (begins-with (codes "(*") s h.1) at ∙ ap opens.Comment (sym h.0)
opening-comment p last s (inr h) =
    let at : opening p (codes "/*" ++ drop 2 s) ≡ opens.Comment 47 = refl in
    subst (λ (l : List ℕ). opening p l ≡ opens.Comment 47) (begins-with (codes "/*") s h.1) at ∙ ap opens.Comment (sym h.0)

opening-line : (p : ℕ) (s : List ℕ) → begins (codes "//") s ≡ true → opening p s ≡ opens.LineComment
unfolding opening
opening-line p s e =
    let at : opening p (codes "//" ++ drop 2 s) ≡ opens.LineComment = refl in
    subst (λ (l : List ℕ). opening p l ≡ opens.LineComment) (begins-with (codes "//") s e) at

opening-mark : (p : ℕ) (s : List ℕ) → p ≡ 0 → begins order_mark s ≡ true → opening p s ≡ opens.OrderMark
unfolding opening
opening-mark p s z e =
    let at : opening 0 (order_mark ++ drop 3 s) ≡ opens.OrderMark = refl in
    ap (λ k. opening k s) z ∙ subst (λ (l : List ℕ). opening 0 l ≡ opens.OrderMark) (begins-with order_mark s e) at

-- where nothing but a symbol can begin
opening-symbol : (p : ℕ) (s : List ℕ) → begins_gap p s ≡ false → NoWord (slice_index s 0) → opening p s ≡ symbol_opening (symbol_among all_symbols s)
unfolding behind-gaps
opening-symbol p s gap w =
    behind-gap p s gap ∙ skip (is_letter (slice_index s 0)) _ _ w.word ∙ skip (is_ascii_digit (slice_index s 0)) _ _ w.digit
    ∙ skip (slice_index s 0 == 38) _ _ w.ampersand

no-token : (b : ℕ) → begins_token b ≡ false → NoWord b
no-token b e =
    let a = or-false (is_letter b) _ e in
    let c = or-false (is_ascii_digit b) (b == 38) a.1 in record { word = a.0; digit = c.0; ampersand = c.1 }

-- what begins is found
pub opening-is : (p : ℕ) (s : List ℕ) (o : Opening) → Begins p s o → opening p s ≡ o
unfolding opening behind-gaps
opening-is p s opens.Blank h = pick (is_blank (slice_index s 0)) _ _ h
opening-is p s opens.OrderMark h = opening-mark p s h.0 h.1
opening-is p s (opens.Comment last) h = opening-comment p last s h
opening-is p s opens.LineComment h = opening-line p s h
opening-is p s opens.Word h = opening-word p s h.0 ∙ ap word_opening (type-none s h.1)
opening-is p s (opens.Literal None) h =
    behind-gap p s (no-gap p s (digit-no-gap (slice_index s 0) h)) ∙ skip (is_letter (slice_index s 0)) _ _ (digit-no-word (slice_index s 0) h)
    ∙ pick (is_ascii_digit (slice_index s 0)) _ _ h
opening-is p s (opens.Literal (Some t)) h = opening-word p s (typed-word t s h) ∙ ap word_opening (type-is t s h)
opening-is p s opens.Ampersand h =
    let w = ampersand-no-word (slice_index s 0) h in
    behind-gap p s (no-gap p s (ampersand-no-gap (slice_index s 0) h)) ∙ skip (is_letter (slice_index s 0)) _ _ w.0
    ∙ skip (is_ascii_digit (slice_index s 0)) _ _ w.1 ∙ pick (slice_index s 0 == 38) _ _ h
opening-is p s (opens.Symbol y) h = opening-symbol p s h.0 (begins-no-word y s (symbol-begins s y h.1)) ∙ ap symbol_opening h.1
opening-is p s opens.Nothing h = opening-symbol p s h.0 (no-token (slice_index s 0) h.1) ∙ ap symbol_opening h.2

-- ---- what is found begins

no-types : (s : List ℕ) → begins_typed ty.Bool s ≡ false → begins_typed ty.Int s ≡ false → begins_typed ty.Dint s ≡ false → begins_typed ty.Lint s ≡ false
    → (t : Ty) → begins_typed t s ≡ false
no-types s b i d l ty.Bool = b
no-types s b i d l ty.Int = i
no-types s b i d l ty.Dint = d
no-types s b i d l ty.Lint = l

word-begins : (p : ℕ) (s : List ℕ) → is_letter (slice_index s 0) ≡ true → Begins p s (word_opening (type_at s))
unfolding type_at
word-begins p s e =
    let P : Option Ty → Type 0 = λ o. Begins p s (word_opening o) in
    chosen P (begins_typed ty.Bool s) _ _ (λ h. h)
    (λ b. chosen P (begins_typed ty.Int s) _ _ (λ h. h)
    (λ i. chosen P (begins_typed ty.Dint s) _ _ (λ h. h)
    (λ d. chosen P (begins_typed ty.Lint s) _ _ (λ h. h)
    (λ l. (e, no-types s b i d l)))))

symbol-or-nothing : (p : ℕ) (s : List ℕ) → begins_gap p s ≡ false → begins_token (slice_index s 0) ≡ false → (o : Option Sym) → symbol_among all_symbols s ≡ o
    → Begins p s (symbol_opening o)
symbol-or-nothing p s g n None e = (g, n, e)
symbol-or-nothing p s g n (Some y) e = (g, e)

pub opening-begins : (p : ℕ) (s : List ℕ) → Begins p s (opening p s)
unfolding opening
opening-begins p s =
    let P : Opening → Type 0 = λ o. Begins p s o in
    chosen P (is_blank (slice_index s 0)) _ _ (λ e. e)
    (λ n1. chosen P (begins order_mark s && p == 0) _ _ (λ e. let k = and-true (begins order_mark s) (p == 0) e in (same-number p 0 k.1, k.0))
    (λ n2. chosen P (begins (codes "(*") s) _ _ (λ e. inl (refl, e))
    (λ n3. chosen P (begins (codes "/*") s) _ _ (λ e. inr (refl, e))
    (λ n4. chosen P (begins (codes "//") s) _ _ (λ e. e)
    (λ n5. chosen P (is_letter (slice_index s 0)) _ _ (λ e. word-begins p s e)
    (λ n6. chosen P (is_ascii_digit (slice_index s 0)) _ _ (λ e. e)
    (λ n7. chosen P (slice_index s 0 == 38) _ _ (λ e. e)
    (λ n8. symbol-or-nothing p s
    (false-or _ _ n1 (false-or _ _ n2 (false-or _ _ n3 (false-or _ _ n4 n5)))) (false-or _ _ n6 (false-or _ _ n7 n8))
    (symbol_among all_symbols s) refl))))))))

-- at each place one thing begins
pub one-opening : (p : ℕ) (s : List ℕ) → (o : Opening) × Begins p s o × ((q : Opening) → Begins p s q → q ≡ o)
one-opening p s = (opening p s, opening-begins p s, λ q h. sym (opening-is p s q h))

-- ---- what stands at a place, by what is found to begin there

pub stands-found : (p : ℕ) (s : List ℕ) (n : ℕ) (t : Option Tok) → StandsAt p s n t → Stands (opening p s) s n t
stands-found p s n t h = subst (λ (o : Opening). Stands o s n t) (sym (opening-is p s h.0 h.1)) h.2

pub refused-found : (p : ℕ) (s : List ℕ) (r : Reason) → RefusedAt p s r → Refuses (opening p s) s r
refused-found p s r h = subst (λ (o : Opening). Refuses o s r) (sym (opening-is p s h.0 h.1)) h.2

pub found-stands : (p : ℕ) (s : List ℕ) (n : ℕ) (t : Option Tok) → Stands (opening p s) s n t → StandsAt p s n t
found-stands p s n t h = (opening p s, opening-begins p s, h)

pub found-refused : (p : ℕ) (s : List ℕ) (r : Reason) → Refuses (opening p s) s r → RefusedAt p s r
found-refused p s r h = (opening p s, opening-begins p s, h)

pub finds-at : (p : ℕ) (s : List ℕ) (f : Found) → Finds (opening p s) s f → FindsAt p s f
finds-at p s (found.Piece t n) h = found-stands p s n t h
finds-at p s (found.Refused r) h = found-refused p s r h
