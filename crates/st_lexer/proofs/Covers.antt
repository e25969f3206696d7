-- Pieces one after the other, and that there is one way to cut a text into them.
use Rattle.std.proofs.Common.{◌≡◌, ℕ, ◌+◌, ◌<◌, ◌≤◌, List, [], ◌∷◌, ◌++◌, length, drop, take, Option, Some, None, sym, refl, ap, ◌∙◌, subst, arith, All}
use Rattle.std.proofs.Common.{append_assoc, length-drop, inl, inr}
use Rattle.std.proofs.lemmas.List.{append-nil}
use Rattle.std.proofs.lemmas.List.Elements.{All-append, All-cons}
use Rattle.std.proofs.str.Laws.{order}
use Rattle.st_lexer.specs.declared.token.Token.{Token}
use Rattle.st_lexer.specs.declared.token.Tok.{Tok}
use Rattle.st_lexer.specs.declared.token.Tok.TheVariants as tok
use Rattle.st_lexer.specs.declared.fault.Reason.{Reason}
use Rattle.st_lexer.specs.declared.literal.Literal.{Literal}
use Rattle.st_lexer.specs.declared.piece.Opening.{Opening}
use Rattle.st_lexer.specs.declared.piece.Opening.TheVariants as opens
use Rattle.st_lexer.specs.Literals.{prefix}
use Rattle.st_lexer.specs.Spots.{spot_at}
use Rattle.st_lexer.specs.Words.{word}
use Rattle.st_lexer.specs.Reading.{Stands, Refuses, StandsAt, RefusedAt, ClosesFirst, Piece, IsPiece, Cover, token_of, tokens_of, IsInside, Reads, LexAt}
use Rattle.st_lexer.specs.Pieces.{opening}
use Rattle.st_lexer.proofs.Openings.{stands-found, refused-found}

cover-push : (text : List ℕ) (ps : List Piece) (p : Piece) (a : ℕ) → Cover text ps a p.from → IsPiece text p → Cover text (ps ++ p ∷ []) a p.to
cover-push text [] p a c h = (sym c, h, refl)
cover-push text (q ∷ ps) p a c h = (c.0, c.1, cover-push text ps p q.to c.2 h)

tokens-push : (text : List ℕ) (ps : List Piece) (p : Piece) → tokens_of text (ps ++ p ∷ []) ≡ tokens_of text ps ++ token_of text p p.is
tokens-push text [] p = append-nil (token_of text p p.is)
tokens-push text (q ∷ ps) p =
    ap (λ (l : List Token). token_of text q q.is ++ l) (tokens-push text ps p)
    ∙ sym (append_assoc (token_of text q q.is) (tokens_of text ps) (token_of text p p.is))

-- the tokens so far are those of pieces up to a place
pub record Upto (text : List ℕ) (ts : List Token) (at : ℕ) : Type 0 where
  pub pieces : List Piece
  pub cover : Cover text pieces 0 at
  pub tokens : ts ≡ tokens_of text pieces

pub upto-start : (text : List ℕ) → Upto text [] 0
upto-start text = record { pieces = []; cover = refl; tokens = refl }

-- one piece more
pub upto-more : (text : List ℕ) (ts : List Token) (at n : ℕ) (t : Option Tok) → Upto text ts at → 0 < n → n ≤ length (drop at text) → at < length text
    → StandsAt at (drop at text) n t → Upto text (ts ++ token_of text (record { from = at; to = at + n; is = t }) t) (at + n)
upto-more text ts at n t u pos le lt st =
    let p : Piece = record { from = at; to = at + n; is = t } in
    record {
      pieces = u.pieces ++ p ∷ [];
      cover = cover-push text u.pieces p 0 u.cover (n, pos, refl, omega (arith, length-drop at text), st);
      tokens = ap (λ (l : List Token). l ++ token_of text p t) u.tokens ∙ sym (tokens-push text u.pieces p);
    }

-- ---- one reading

first-one : (last : ℕ) (s : List ℕ) (m n : ℕ) → ClosesFirst last s m → ClosesFirst last s n → m ≡ n
first-one last s m n a b =
    elim (order a.0 b.0) [
      | inl lt ↦ absurd (b.4 a.0 a.2 lt a.3)
      | inr le ↦ elim (order b.0 a.0) [ inl lt ↦ absurd (a.4 b.0 b.2 lt b.3) | inr ge ↦ omega (arith, a.1, b.1) ]
    ]

some_one : (x y : Literal) (o : Option Literal) → o ≡ Some x → o ≡ Some y → x ≡ y
some_one x y o e f = cc

pub record SameCut (m n : ℕ) (t u : Option Tok) : Type 0 where
  pub len : m ≡ n
  pub is : t ≡ u

stands-one : (o : Opening) (s : List ℕ) (m n : ℕ) (t u : Option Tok) → Stands o s m t → Stands o s n u → SameCut m n t u
stands-one opens.Blank s m n t u a b = record { len = a.0 ∙ sym b.0; is = a.1 ∙ sym b.1 }
stands-one opens.OrderMark s m n t u a b = record { len = a.0 ∙ sym b.0; is = a.1 ∙ sym b.1 }
stands-one (opens.Comment last) s m n t u a b = record { len = first-one last s m n a.0 b.0; is = a.1 ∙ sym b.1 }
stands-one opens.LineComment s m n t u a b = record { len = a.0 ∙ sym b.0; is = a.1 ∙ sym b.1 }
stands-one opens.Word s m n t u a b =
    let e : m ≡ n = a.0 ∙ sym b.0 in record { len = e; is = a.1 ∙ ap (λ k. Some (word (take k s))) e ∙ sym b.1 }
stands-one (opens.Literal ty) s m n t u a b =
    let v = some_one a.0 b.0 _ a.1 b.1 in
    record {
      len = a.2 ∙ ap (λ (l : Literal). length (prefix ty) + l.len) v ∙ sym b.2;
      is = a.3 ∙ ap (λ (l : Literal). Some (tok.Number ty l.value)) v ∙ sym b.3;
    }
stands-one opens.Ampersand s m n t u a b = record { len = a.0 ∙ sym b.0; is = a.1 ∙ sym b.1 }
stands-one (opens.Symbol y) s m n t u a b = record { len = a.0 ∙ sym b.0; is = a.1 ∙ sym b.1 }
stands-one opens.Nothing s m n t u a b = absurd a

none_some : (x : Literal) (o : Option Literal) → o ≡ Some x → o ≡ None → ⊥
none_some x o e f = cc

stands-not : (o : Opening) (s : List ℕ) (n : ℕ) (t : Option Tok) (r : Reason) → Stands o s n t → Refuses o s r → ⊥
stands-not opens.Blank s n t r a b = b
stands-not opens.OrderMark s n t r a b = b
stands-not (opens.Comment last) s n t r a b = b.1 a.0.0 a.0.2 a.0.3
stands-not opens.LineComment s n t r a b = b
stands-not opens.Word s n t r a b = b
stands-not (opens.Literal ty) s n t r a b = none_some a.0 _ a.1 b.1
stands-not opens.Ampersand s n t r a b = b
stands-not (opens.Symbol y) s n t r a b = b
stands-not opens.Nothing s n t r a b = a

refuses-one : (o : Opening) (s : List ℕ) (q r : Reason) → Refuses o s q → Refuses o s r → q ≡ r
refuses-one opens.Nothing s q r a b = a ∙ sym b
refuses-one (opens.Comment last) s q r a b = a.0 ∙ sym b.0
refuses-one (opens.Literal ty) s q r a b = a.0 ∙ sym b.0
refuses-one opens.Blank s q r a b = absurd a
refuses-one opens.OrderMark s q r a b = absurd a
refuses-one opens.LineComment s q r a b = absurd a
refuses-one opens.Word s q r a b = absurd a
refuses-one opens.Ampersand s q r a b = absurd a
refuses-one (opens.Symbol y) s q r a b = absurd a

stands-one-at : (p : ℕ) (s : List ℕ) (m n : ℕ) (t u : Option Tok) → StandsAt p s m t → StandsAt p s n u → SameCut m n t u
stands-one-at p s m n t u a b = stands-one (opening p s) s m n t u (stands-found p s m t a) (stands-found p s n u b)

stands-not-at : (p : ℕ) (s : List ℕ) (n : ℕ) (t : Option Tok) (r : Reason) → StandsAt p s n t → RefusedAt p s r → ⊥
stands-not-at p s n t r a b = stands-not (opening p s) s n t r (stands-found p s n t a) (refused-found p s r b)

refuses-one-at : (p : ℕ) (s : List ℕ) (q r : Reason) → RefusedAt p s q → RefusedAt p s r → q ≡ r
refuses-one-at p s q r a b = refuses-one (opening p s) s q r (refused-found p s q a) (refused-found p s r b)

moved : (text : List ℕ) (i j n : ℕ) (t : Option Tok) → i ≡ j → StandsAt i (drop i text) n t → StandsAt j (drop j text) n t
moved text i j n t e st = subst (λ k. StandsAt k (drop k text) n t) e st

piece-one : (text : List ℕ) (p q : Piece) → p.from ≡ q.from → IsPiece text p → IsPiece text q → p ≡ q
piece-one text p q e a b =
    let s = stands-one-at q.from (drop q.from text) a.0 b.0 p.is q.is (moved text p.from q.from a.0 p.is e a.4) b.4 in
    let t : p.to ≡ q.to = a.2 ∙ ap (λ i. i + a.0) e ∙ ap (λ i. q.from + i) s.len ∙ sym b.2 in
    λ i. record { from = e i; to = t i; is = s.is i }

-- no piece stands at the end
cover-past : (text : List ℕ) (p : Piece) (ps : List Piece) (a b : ℕ) → Cover text (p ∷ ps) a b → a < length text
cover-past text p ps a b c = omega (arith, c.0, c.1.1, c.1.2, c.1.3)

pub cover-one : (text : List ℕ) (ps qs : List Piece) (a : ℕ) → Cover text ps a (length text) → Cover text qs a (length text) → ps ≡ qs
cover-one text [] [] a c d = refl
cover-one text [] (q ∷ qs) a c d = absurd (omega (arith, c, cover-past text q qs a (length text) d))
cover-one text (p ∷ ps) [] a c d = absurd (omega (arith, d, cover-past text p ps a (length text) c))
cover-one text (p ∷ ps) (q ∷ qs) a c d =
    let e = piece-one text p q (c.0 ∙ sym d.0) c.1 d.1 in
    let rest = cover-one text ps qs q.to (subst (λ (r : Piece). Cover text ps r.to (length text)) e c.2) d.2 in
    λ i. e i ∷ rest i

-- a whole cover stops at no place that is refused
cover-refused : (text : List ℕ) (ps qs : List Piece) (a p : ℕ) (r : Reason) → Cover text ps a (length text) → Cover text qs a p → p < length text
    → RefusedAt p (drop p text) r → ⊥
cover-refused text [] [] a p r c d lt ref = omega (arith, c, d)
cover-refused text [] (q ∷ qs) a p r c d lt ref = omega (arith, c, cover-past text q qs a p d)
cover-refused text (x ∷ ps) [] a p r c d lt ref =
    stands-not-at p (drop p text) c.1.0 x.is r (moved text x.from p c.1.0 x.is (c.0 ∙ d) c.1.4) ref
cover-refused text (x ∷ ps) (q ∷ qs) a p r c d lt ref =
    let e = piece-one text x q (c.0 ∙ sym d.0) c.1 d.1 in
    cover-refused text ps qs q.to p r (subst (λ (y : Piece). Cover text ps y.to (length text)) e c.2) d.2 lt ref

refused-one : (text : List ℕ) (ps qs : List Piece) (a p q : ℕ) (r s : Reason) → Cover text ps a p → RefusedAt p (drop p text) r → Cover text qs a q
    → RefusedAt q (drop q text) s → p ≡ q
refused-one text [] [] a p q r s c ref d ref' = sym c ∙ d
refused-one text [] (y ∷ qs) a p q r s c ref d ref' =
    absurd (stands-not-at p (drop p text) d.1.0 y.is r (moved text y.from p d.1.0 y.is (d.0 ∙ c) d.1.4) ref)
refused-one text (x ∷ ps) [] a p q r s c ref d ref' =
    absurd (stands-not-at q (drop q text) c.1.0 x.is s (moved text x.from q c.1.0 x.is (c.0 ∙ d) c.1.4) ref')
refused-one text (x ∷ ps) (y ∷ qs) a p q r s c ref d ref' =
    let e = piece-one text x y (c.0 ∙ sym d.0) c.1 d.1 in
    refused-one text ps qs y.to p q r s (subst (λ (z : Piece). Cover text ps z.to p) e c.2) ref d.2 ref'

pub tokens-one : (text : List ℕ) (a b : List Token) → Reads text a → Reads text b → a ≡ b
tokens-one text a b x y = x.2 ∙ ap (λ (ps : List Piece). tokens_of text ps) (cover-one text x.0 y.0 0 x.1 y.1) ∙ sym y.2

pub reads-not : (text : List ℕ) (a : List Token) (p : ℕ) (r : Reason) → Reads text a → LexAt text p r → ⊥
reads-not text a p r x y = cover-refused text x.0 y.0 0 p r x.1 y.1 y.2 y.3

pub place-one : (text : List ℕ) (p q : ℕ) (r s : Reason) → LexAt text p r → LexAt text q s → p ≡ q
place-one text p q r s x y = refused-one text x.0 y.0 0 p q r s x.1 x.3 y.1 y.3

pub reason-one : (text : List ℕ) (p q : ℕ) (r s : Reason) → LexAt text p r → LexAt text q s → r ≡ s
reason-one text p q r s x y =
    refuses-one-at q (drop q text) r s
    (subst (λ i. RefusedAt i (drop i text) r) (place-one text p q r s x y) x.3) y.3

none-inside : (text : List ℕ) → All (IsInside text) []
none-inside text k d h = absurd (omega arith)

token-inside : (text : List ℕ) (p : Piece) (t : Option Tok) → IsPiece text p → All (IsInside text) (token_of text p t)
token-inside text p None h = none-inside text
token-inside text p (Some t) h =
    All-cons (IsInside text) (record { tok = t; from = p.from; to = p.to; spot = spot_at text p.from }) []
    (omega (arith, h.1, h.2), h.3) (none-inside text)

inside : (text : List ℕ) (ps : List Piece) (a b : ℕ) → Cover text ps a b → All (IsInside text) (tokens_of text ps)
inside text [] a b c = none-inside text
inside text (p ∷ ps) a b c =
    All-append (IsInside text) (token_of text p p.is) (tokens_of text ps) (token-inside text p p.is c.1) (inside text ps p.to b c.2)

pub upto-inside : (text : List ℕ) (ts us : List Token) (at : ℕ) → us ≡ ts → Upto text ts at → All (IsInside text) us
upto-inside text ts us at e u =
    subst (λ (l : List Token). All (IsInside text) l) (sym (e ∙ u.tokens)) (inside text u.pieces 0 at u.cover)

pub reads-inside : (text : List ℕ) (ts : List Token) → Reads text ts → All (IsInside text) ts
reads-inside text ts r = subst (λ (l : List Token). All (IsInside text) l) (sym r.2) (inside text r.0 0 (length text) r.1)
