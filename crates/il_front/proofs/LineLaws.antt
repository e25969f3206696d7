-- LineLaws: the tokens of a line stand one behind the other.
use Rattle.std.proofs.Common.{◌≡◌, ℕ, zero, suc, ◌+◌, ◌-◌, ◌<◌, ◌≤◌, ◌==◌, Bool, true, false, cond, List, [], ◌∷◌, length, take, drop, slice_get, Option}
use Rattle.std.proofs.Common.{Some}
use Rattle.std.proofs.Common.{refl, sym, ap, subst, ◌∙◌, arith, All}
use Rattle.std.proofs.lemmas.List.Elements.{All-get_or}
use Rattle.std.proofs.lemmas.Option.{get_or_from_slice_get, slice_get_within}
use Rattle.st_tree.specs.Spelling.{bytes_in}
use Rattle.il_front.specs.Judging.{Operator, operator_of, Written, nothing, written_one, written_negative, Line, line_with, line_of, is_last_word}
use Rattle.st_lexer.specs.declared.token.Token.{Token}
use Rattle.il_front.specs.Lines.{and_token, lines_of}
use Rattle.il_front.specs.Writings.{goes_on}

-- how many tokens are in the line of t behind it
abbrev pub more_of : Token → List Token → ℕ
more_of t [] = 0
more_of t (u ∷ us) = cond (t.spot.line == u.spot.line) (suc (more_of u us)) 0

-- how many tokens the first line has
abbrev pub line_length : List Token → ℕ
line_length [] = 0
line_length (t ∷ us) = suc (more_of t us)

split-line : (b : Bool) (t u : Token) (us : List Token) (m : ℕ) → lines_of (u ∷ us) ≡ (u ∷ take m us) ∷ lines_of (drop m us)
    → cond b ((t ∷ u ∷ take m us) ∷ lines_of (drop m us)) ((t ∷ []) ∷ (u ∷ take m us) ∷ lines_of (drop m us))
    ≡ (t ∷ take (cond b (suc m) 0) (u ∷ us)) ∷ lines_of (drop (cond b (suc m) 0) (u ∷ us))
split-line true t u us m e = refl
split-line false t u us m e = ap (λ (ls : List (List Token)). (t ∷ []) ∷ ls) (sym e)

pub line-first : (t : Token) (us : List Token) → lines_of (t ∷ us) ≡ (t ∷ take (more_of t us) us) ∷ lines_of (drop (more_of t us) us)
line-first t [] = refl
line-first t (u ∷ us) =
    ap (and_token t) (line-first u us) ∙ split-line (t.spot.line == u.spot.line) t u us (more_of u us) (line-first u us)

-- the first line of some tokens, and the lines behind it
pub line-of : (ts : List Token) → 0 < length ts → lines_of ts ≡ take (line_length ts) ts ∷ lines_of (drop (line_length ts) ts)
line-of [] h = absurd (let no : 1 ≤ 0 = h in omega arith)
line-of (t ∷ us) h = line-first t us

-- there is a line where there is a token
abbrev pub IsSomeLine : List (List Token) → Type 0
IsSomeLine ls = (l : List Token) × (rest : List (List Token)) × (ls ≡ l ∷ rest)

pub some-line : (ts : List Token) → 0 < length ts → IsSomeLine (lines_of ts)
some-line ts h = (take (line_length ts) ts, lines_of (drop (line_length ts) ts), line-of ts h)

-- ---- places in a list

pub drop-at : (ts : List Token) (i : ℕ) (t : Token) → slice_get ts i ≡ Some t → drop i ts ≡ t ∷ drop (suc i) ts
drop-at [] i t e = absurd cc
drop-at (x ∷ xs) zero t e = let same : x ≡ t = cc in ap (λ (y : Token). y ∷ xs) same
drop-at (x ∷ xs) (suc i) t e = drop-at xs i t e

pub drop-end : (ts : List Token) (i : ℕ) → length ts ≤ i → drop i ts ≡ []
drop-end [] zero h = refl
drop-end [] (suc i) h = refl
drop-end (x ∷ xs) zero h = absurd (let no : suc (length xs) ≤ 0 = h in omega arith)
drop-end (x ∷ xs) (suc i) h = drop-end xs i (omega arith)

pub drop-drop : (ts : List Token) (i k : ℕ) → drop k (drop i ts) ≡ drop (i + k) ts
drop-drop ts zero k = ap (λ (n : ℕ). drop n ts) (let e : k ≡ 0 + k = omega arith in e)
drop-drop [] (suc i) zero = sym (drop-end [] (suc i + zero) (omega arith))
drop-drop [] (suc i) (suc k) = sym (drop-end [] (suc i + suc k) (omega arith))
drop-drop (x ∷ xs) (suc i) k =
    drop-drop xs i k ∙ ap (λ (n : ℕ). drop n (x ∷ xs)) (let e : suc (i + k) ≡ suc i + k = omega arith in e)

-- the token behind is in the line, or not
more-on : (t : Token) (us : List Token) → goes_on (t ∷ us) ≡ true → more_of t us ≡ line_length us
more-on t [] e = absurd cc
more-on t (u ∷ us) e = ap (λ (b : Bool). cond b (suc (more_of u us)) 0) e

more-off : (t : Token) (us : List Token) → goes_on (t ∷ us) ≡ false → more_of t us ≡ 0
more-off t [] e = refl
more-off t (u ∷ us) e = ap (λ (b : Bool). cond b (suc (more_of u us)) 0) e

pub length-on : (ts : List Token) (i : ℕ) (t : Token) → slice_get ts i ≡ Some t → goes_on (drop i ts) ≡ true
    → i + line_length (drop i ts) ≡ suc i + line_length (drop (suc i) ts)
length-on ts i t e g =
    let d = drop-at ts i t e in
    let m : more_of t (drop (suc i) ts) ≡ line_length (drop (suc i) ts) = more-on t (drop (suc i) ts) (ap goes_on (sym d) ∙ g) in
    let l : line_length (drop i ts) ≡ suc (more_of t (drop (suc i) ts)) = ap line_length d in
    omega (arith, m, l)

pub length-off : (ts : List Token) (i : ℕ) (t : Token) → slice_get ts i ≡ Some t → goes_on (drop i ts) ≡ false → line_length (drop i ts) ≡ 1
length-off ts i t e g =
    let d = drop-at ts i t e in
    ap line_length d ∙ ap suc (more-off t (drop (suc i) ts) (ap goes_on (sym d) ∙ g))

-- a place within has a token
pub get-within : (ts : List Token) (i : ℕ) → i < length ts → (t : Token) × (slice_get ts i ≡ Some t)
get-within [] i h = absurd (let no : suc i ≤ 0 = h in omega arith)
get-within (x ∷ xs) zero h = (x, refl)
get-within (x ∷ xs) (suc i) h = get-within xs i (omega arith)

-- the line from a place up to another, where it is as long
pub line-upto : (ts : List Token) (at to : ℕ) → at < length ts → at + line_length (drop at ts) ≡ to
    → lines_of (drop at ts) ≡ take (to - at) (drop at ts) ∷ lines_of (drop to ts)
line-upto ts at to h e =
    let (t, g) = get-within ts at h in
    let d = drop-at ts at t g in
    let some : 0 < length (drop at ts) = subst (λ (xs : List Token). 0 < length xs) (sym d) (omega arith) in
    let n : line_length (drop at ts) ≡ to - at = omega (arith, e) in
    line-of (drop at ts) some
    ∙ ap (λ (k : ℕ). take k (drop at ts) ∷ lines_of (drop k (drop at ts))) n
    ∙ ap (λ (xs : List Token). take (to - at) (drop at ts) ∷ lines_of xs)
    (drop-drop ts at (to - at) ∙ ap (λ (k : ℕ). drop k ts) (let s : at + (to - at) ≡ to = omega (arith, e) in s))

-- what all tokens have, the token at a place has
pub all-at : (P : Token → Type 0) (ts : List Token) (i : ℕ) (t : Token) → slice_get ts i ≡ Some t → All P ts → P t
all-at P ts i t e h = subst P (get_or_from_slice_get ts i t t e) (All-get_or P ts i t (slice_get_within ts i t e) h)

-- ---- whether the line goes on

pub goes-none : (ts : List Token) (i : ℕ) → i < length ts → length ts ≤ suc i → false ≡ goes_on (drop i ts)
goes-none ts i h k =
    let (t, e) = get-within ts i h in
    sym (ap goes_on (drop-at ts i t e ∙ ap (λ (xs : List Token). t ∷ xs) (drop-end ts (suc i) k)))

pub goes-some : (ts : List Token) (i : ℕ) (t u : Token) → slice_get ts i ≡ Some t → slice_get ts (suc i) ≡ Some u
    → (t.spot.line == u.spot.line) ≡ goes_on (drop i ts)
goes-some ts i t u e f = sym (ap goes_on (drop-at ts i t e ∙ ap (λ (xs : List Token). t ∷ xs) (drop-at ts (suc i) u f)))

-- ---- the first tokens from a place on

pub one-from : (ts : List Token) (i n : ℕ) (t : Token) → n ≡ 1 → slice_get ts i ≡ Some t → take n (drop i ts) ≡ t ∷ []
one-from ts i n t is e = ap (λ (k : ℕ). take k (drop i ts)) is ∙ ap (λ (xs : List Token). take 1 xs) (drop-at ts i t e)

pub two-from : (ts : List Token) (i n : ℕ) (t u : Token) → n ≡ 2 → slice_get ts i ≡ Some t → slice_get ts (suc i) ≡ Some u
    → take n (drop i ts) ≡ t ∷ u ∷ []
two-from ts i n t u is e f =
    ap (λ (k : ℕ). take k (drop i ts)) is
    ∙ ap (λ (xs : List Token). take 2 xs) (drop-at ts i t e ∙ ap (λ (xs : List Token). t ∷ xs) (drop-at ts (suc i) u f))

pub three-from : (ts : List Token) (i n : ℕ) (t u v : Token) → n ≡ 3 → slice_get ts i ≡ Some t → slice_get ts (suc i) ≡ Some u
    → slice_get ts (suc (suc i)) ≡ Some v → take n (drop i ts) ≡ t ∷ u ∷ v ∷ []
three-from ts i n t u v is e f g =
    ap (λ (k : ℕ). take k (drop i ts)) is
    ∙ ap (λ (xs : List Token). take 3 xs)
    (drop-at ts i t e
    ∙ ap (λ (xs : List Token). t ∷ xs) (drop-at ts (suc i) u f ∙ ap (λ (xs : List Token). u ∷ xs) (drop-at ts (suc (suc i)) v g)))

pub at-place : (ts : List Token) (i j : ℕ) (t : Token) → slice_get ts i ≡ Some t → i ≡ j → slice_get ts j ≡ Some t
at-place ts i j t e is = subst (λ (k : ℕ). slice_get ts k ≡ Some t) is e

-- ---- lines of so many tokens

pub no-last-word : (l : List Token) → 3 < length l → false ≡ is_last_word l
no-last-word [] h = absurd (let no : 4 ≤ 0 = h in omega arith)
no-last-word (t ∷ []) h = absurd (let no : 4 ≤ 1 = h in omega arith)
no-last-word (t ∷ u ∷ us) h = refl

pub line-one : (text : List ℕ) (l : List Token) (t : Token) (r : Option Line) (o : Option Operator) → l ≡ t ∷ []
    → o ≡ operator_of (bytes_in text t) t.tok → r ≡ line_with t.spot t.spot o (Some nothing) → r ≡ line_of text l
line-one text l t r o is f e = e ∙ ap (λ (x : Option Operator). line_with t.spot t.spot x (Some nothing)) f ∙ sym (ap (line_of text) is)

pub line-two : (text : List ℕ) (l : List Token) (t u : Token) (r : Option Line) (o : Option Operator) (w : Option Written) → l ≡ t ∷ u ∷ []
    → o ≡ operator_of (bytes_in text t) t.tok → w ≡ written_one (bytes_in text u) u.tok → r ≡ line_with t.spot u.spot o w → r ≡ line_of text l
line-two text l t u r o w is f g e =
    e ∙ ap (λ (x : Option Operator). line_with t.spot u.spot x w) f
    ∙ ap (λ (x : Option Written). line_with t.spot u.spot (operator_of (bytes_in text t) t.tok) x) g ∙ sym (ap (line_of text) is)

pub line-three : (text : List ℕ) (l : List Token) (t u v : Token) (r : Option Line) (o : Option Operator) (w : Option Written) → l ≡ t ∷ u ∷ v ∷ []
    → o ≡ operator_of (bytes_in text t) t.tok → w ≡ written_negative u.tok v.tok → r ≡ line_with t.spot u.spot o w → r ≡ line_of text l
line-three text l t u v r o w is f g e =
    e ∙ ap (λ (x : Option Operator). line_with t.spot u.spot x w) f
    ∙ ap (λ (x : Option Written). line_with t.spot u.spot (operator_of (bytes_in text t) t.tok) x) g ∙ sym (ap (line_of text) is)
