-- What the tokens of a reading say: a name is a word that is no reserved one, and a literal has a value that can be read.
use Rattle.std.proofs.Common.{◌≡◌, ℕ, ℤ, pos, zero, suc, ◌+◌, ◌-◌, ◌^◌, ◌<◌, Bool, true, false, cond, ◌&&◌, ◌||◌, List, [], ◌∷◌, ◌++◌, length, take, drop}
use Rattle.std.proofs.Common.{Option, Some, None, sym, refl, ap, ◌∙◌, subst, arith}
use Rattle.std.specs.Prelude.{nat_lt, ◌==◌, codes, slice_index, neg_ℤ}
use Rattle.std.specs.List.{list_all, prefix_len}
use Rattle.std.specs.Char.{is_ascii_digit}
use Rattle.std.specs.Str.{str_eq_ignore_ascii_case}
use Rattle.std.proofs.lemmas.Bool.Decides.{nat_tests}
use Rattle.vcp_base.specs.declared.ty.Ty.{Ty}
use Rattle.vcp_base.specs.declared.ty.Ty.TheVariants as ty
use Rattle.vcp_base.specs.Names.{is_letter, is_letter_or_digit}
use Rattle.st_lexer.specs.declared.token.Key.{Key}
use Rattle.st_lexer.specs.declared.token.Key.TheVariants as key
use Rattle.st_lexer.specs.declared.token.Tok.{Tok}
use Rattle.st_lexer.specs.declared.token.Tok.TheVariants as tok
use Rattle.st_lexer.specs.declared.token.Token.{Token}
use Rattle.st_lexer.specs.declared.literal.Literal.{Literal}
use Rattle.st_lexer.specs.declared.piece.Opening.{Opening}
use Rattle.st_lexer.specs.declared.piece.Opening.TheVariants as opens
use Rattle.st_lexer.specs.Literals.{are_digits, number, digits, based, plain, prefix, takes_sign, signed, literal_at, literal_of}
use Rattle.st_lexer.specs.Reading.{Begins, Stands, StandsAt, Piece, Cover, token_of, tokens_of, Reads}
use Rattle.st_lexer.specs.Symbols.{begins}
use Rattle.st_lexer.specs.Words.{word, key_or_name, key_among, all_keys}
use Rattle.st_tree.specs.Spelling.{bytes_in}
use Rattle.st_writer.proofs.Numbers.{both}
use Rattle.st_writer.proofs.IsReadable.{IsName, IsValue}

-- what bytes that are read as a token are
abbrev pub Says : List ℕ → Tok → Type 0
Says w tok.Name = IsName w
Says w (tok.Number t v) = IsValue t v
Says w (tok.Key k) = Unit {0}
Says w (tok.Sym y) = Unit {0}

-- ---- literals

below : (t : Bool) (m n : ℕ) → cond (t && nat_lt m (2 ^ 63)) (Some m) None ≡ Some n → n < 2 ^ 63
below t m n e = in_both (t && nat_lt m (2 ^ 63)) refl e
  where
    less : nat_lt m (2 ^ 63) ≡ true → m < 2 ^ 63
    less e = grind (arith, nat_tests)

    in_both : (u : Bool) → (t && nat_lt m (2 ^ 63)) ≡ u → cond u (Some m) None ≡ Some n → n < 2 ^ 63
    in_both true f e = let same : m ≡ n = cc in subst (λ k. k < 2 ^ 63) same (less (both t _ f).1)
    in_both false f e = absurd cc

digits-below : (base : ℕ) (s : List ℕ) (n : ℕ) → digits base s ≡ Some n → n < 2 ^ 63
digits-below base s n e = below (are_digits base false s) (number base 0 s) n e

chosen : {X : Type 0} (t : Bool) (x y : Option X) (z : X) (P : Type 0) → cond t x y ≡ Some z → (t ≡ true → x ≡ Some z → P) → (t ≡ false → y ≡ Some z → P) → P
chosen true x y z P e f g = f refl e
chosen false x y z P e f g = g refl e

based-below : (s : List ℕ) (n : ℕ) → based s ≡ Some n → n < 2 ^ 63
unfolding based
based-below s n e =
    chosen (begins (codes "2#") s) _ _ n _ e (λ _ h. digits-below 2 (drop 2 s) n h)
    (λ _ e. chosen (begins (codes "8#") s) _ _ n _ e (λ _ h. digits-below 8 (drop 2 s) n h)
    (λ _ e. chosen (begins (codes "16#") s) _ _ n _ e (λ _ h. digits-below 16 (drop 3 s) n h)
    (λ _ h. digits-below 10 s n h)))

small : (m n : ℕ) → m < 2 ^ 63 → Some m ≡ Some n → n < 2 ^ 63
small m n lt e = let same : m ≡ n = cc in subst (λ k. k < 2 ^ 63) same lt

plain-below : (t : Option Ty) (s : List ℕ) (n : ℕ) → plain t s ≡ Some n → n < 2 ^ 63
unfolding plain
plain-below None s n e = based-below s n e
plain-below (Some ty.Bool) s n e =
    chosen (str_eq_ignore_ascii_case s (codes "TRUE")) _ _ n _ e (λ _ h. small 1 n (omega arith) h)
    (λ _ e. chosen (str_eq_ignore_ascii_case s (codes "FALSE")) _ _ n _ e (λ _ h. small 0 n (omega arith) h)
    (λ _ h. based-below s n h))
plain-below (Some ty.Int) s n e = based-below s n e
plain-below (Some ty.Dint) s n e = based-below s n e
plain-below (Some ty.Lint) s n e = based-below s n e

of-number : (t : Option Ty) (m : ℕ) (f : ℕ → ℤ) (o : Option ℕ) (l : Literal) → literal_of m f o ≡ Some l → ((n : ℕ) → o ≡ Some n → IsValue t (f n))
    → IsValue t l.value
of-number t m f None l e g = absurd cc
of-number t m f (Some n) l e g = let same : f n ≡ l.value = cc in subst (λ (v : ℤ). IsValue t v) same (g n refl)

negated : (t : Option Ty) (n : ℕ) → takes_sign t ≡ true → n < 2 ^ 63 → IsValue t (neg_ℤ (pos n))
negated t zero e lt = lt
negated t (suc n) e lt = (e, lt)

sign-or-none : (t : Option Ty) (b : Bool) (n : ℕ) → takes_sign t ≡ true → n < 2 ^ 63 → IsValue t (cond b (neg_ℤ (pos n)) (pos n))
sign-or-none t true n e lt = negated t n e lt
sign-or-none t false n e lt = lt

literal-value : (t : Option Ty) (s : List ℕ) (l : Literal) → literal_at t s ≡ Some l → IsValue t l.value
unfolding literal_at
literal-value t s l e =
    chosen (signed t s) _ _ l _ e
    (λ h k. of-number t _ _ _ l k (λ n r. sign-or-none t (slice_index s 0 == 45) n (both (takes_sign t) _ h).0 (digits-below 10 _ n r)))
    (λ h k. of-number t _ _ _ l k (λ n r. plain-below t _ n r))

-- ---- words

one-more : (m b : ℕ) (s : List ℕ) → take (1 + m) (b ∷ s) ≡ b ∷ take m s
one-more m b s = ap (λ k. take k (b ∷ s)) (let more : 1 + m ≡ suc m = omega arith in more)

all-with : (p : ℕ → Bool) (b : ℕ) (s : List ℕ) (t : Bool) → p b ≡ t → list_all p (take (prefix_len p s) s) ≡ true
    → list_all p (take (cond t (1 + prefix_len p s) 0) (b ∷ s)) ≡ true
all-with p b s true e h = ap (list_all p) (one-more (prefix_len p s) b s) ∙ ap (λ t. t && list_all p (take (prefix_len p s) s)) e ∙ h
all-with p b s false e h = refl

all-of-run : (p : ℕ → Bool) (s : List ℕ) → list_all p (take (prefix_len p s) s) ≡ true
all-of-run p [] = refl
all-of-run p (b ∷ s) = all-with p b s (p b) refl (all-of-run p s)

word-byte : (t u : Bool) → t ≡ true → (t || u) ≡ true
word-byte true u e = refl
word-byte false u e = absurd cc

first-of-run : (s : List ℕ) → is_letter (slice_index s 0) ≡ true → is_letter (slice_index (take (prefix_len is_letter_or_digit s) s) 0) ≡ true
first-of-run [] e = e
first-of-run (b ∷ s) e =
    let long : prefix_len is_letter_or_digit (b ∷ s) ≡ 1 + prefix_len is_letter_or_digit s = rw (word-byte (is_letter b) (is_ascii_digit b) e) refl in
    ap (λ (w : List ℕ). is_letter (slice_index w 0)) (ap (λ k. take k (b ∷ s)) long ∙ one-more (prefix_len is_letter_or_digit s) b s) ∙ e

no-number : (o : Option Key) (t : Option Ty) (v : ℤ) → key_or_name o ≡ tok.Number t v → ⊥
no-number None t v e = cc
no-number (Some k) t v e = cc

says-word : (w : List ℕ) (t : Tok) → is_letter (slice_index w 0) ≡ true → list_all is_letter_or_digit w ≡ true → t ≡ word w → Says w t
says-word w tok.Name b h e = record { begins = b; each = h; is = sym e }
says-word w (tok.Number t v) b h e = absurd (no-number (key_among all_keys w) t v (sym e))
says-word w (tok.Key k) b h e = tt
says-word w (tok.Sym y) b h e = tt

-- ---- tokens

same-tok : (w : List ℕ) (t u : Tok) → Some t ≡ Some u → Says w u → Says w t
same-tok w t u e h = let same : u ≡ t = cc in subst (Says w) same h

by-opening : (o : Opening) (p : ℕ) (s : List ℕ) (n : ℕ) (t : Tok) → Begins p s o → Stands o s n (Some t) → Says (take n s) t
by-opening opens.Blank p s n t b st = absurd (let e = st.1 in cc)
by-opening opens.OrderMark p s n t b st = absurd (let e = st.1 in cc)
by-opening (opens.Comment last) p s n t b st = absurd (let e = st.1 in cc)
by-opening opens.LineComment p s n t b st = absurd (let e = st.1 in cc)
by-opening opens.Word p s n t b st =
    let w = take (prefix_len is_letter_or_digit s) s in
    let cut : take n s ≡ w = ap (λ k. take k s) st.0 in
    subst (λ (x : List ℕ). Says x t) (sym cut)
    (same-tok w t (word w) (st.1 ∙ ap (λ (x : List ℕ). Some (word x)) cut) (says-word w (word w) (first-of-run s b.0) (all-of-run is_letter_or_digit s) refl))
by-opening (opens.Literal ty) p s n t b st =
    same-tok (take n s) t (tok.Number ty st.0.value) st.3 (literal-value ty (drop (length (prefix ty)) s) st.0 st.1)
by-opening opens.Ampersand p s n t b st = same-tok (take n s) t (tok.Key key.And) st.1 tt
by-opening (opens.Symbol y) p s n t b st = same-tok (take n s) t (tok.Sym y) st.1 tt
by-opening opens.Nothing p s n t b st = absurd st

-- each token is what its bytes are read as
abbrev pub EachSays : List ℕ → List Token → Type 0
EachSays text [] = Unit {0}
EachSays text (t ∷ ts) = Says (bytes_in text t) t.tok × EachSays text ts

says-one : (text : List ℕ) (p : Piece) (n : ℕ) (o : Option Tok) (ts : List Token) → p.to ≡ p.from + n
    → StandsAt p.from (drop p.from text) n o → EachSays text ts → EachSays text (token_of text p o ++ ts)
says-one text p n None ts e st h = h
says-one text p n (Some t) ts e st h =
    let s = drop p.from text in
    let len : n ≡ p.to - p.from = omega (arith, e) in
    (subst (λ k. Says (take k s) t) len (by-opening st.0 p.from s n t st.1 st.2), h)

says-each : (text : List ℕ) (ps : List Piece) (a b : ℕ) → Cover text ps a b → EachSays text (tokens_of text ps)
says-each text [] a b c = tt
says-each text (p ∷ ps) a b c = says-one text p c.1.0 p.is (tokens_of text ps) c.1.2 c.1.4 (says-each text ps p.to b c.2)

pub reading-says : (text : List ℕ) (ts : List Token) → Reads text ts → EachSays text ts
reading-says text ts r = subst (EachSays text) (sym r.2) (says-each text r.0 0 (length text) r.1)
