-- Every text has a reading, or a place at which none goes on.
use Rattle.std.proofs.Common.{◌≡◌, ℕ, zero, suc, ◌+◌, ◌<◌, ◌≤◌, Bool, true, false, List, [], length, take, drop, Option, Some, None, refl, subst, arith}
use Rattle.std.proofs.Common.{length-drop, inl, inr}
use Rattle.std.specs.Prelude.{slice_index, ◌==◌, ◌⊎◌}
use Rattle.std.specs.List.{prefix_len}
use Rattle.std.proofs.str.Laws.{order}
use Rattle.std.proofs.lemmas.Bool.Decides.{nat_tests}
use Rattle.vcp_base.specs.declared.ty.Ty.{Ty}
use Rattle.vcp_base.specs.Names.{is_letter_or_digit}
use Rattle.st_lexer.specs.declared.fault.Reason.{Reason}
use Rattle.st_lexer.specs.declared.fault.Reason.TheVariants as reason
use Rattle.st_lexer.specs.declared.literal.Literal.{Literal}
use Rattle.st_lexer.specs.declared.piece.Opening.{Opening}
use Rattle.st_lexer.specs.declared.piece.Opening.TheVariants as opens
use Rattle.st_lexer.specs.declared.token.Key.TheVariants as key
use Rattle.st_lexer.specs.declared.token.Tok.{Tok}
use Rattle.st_lexer.specs.declared.token.Tok.TheVariants as tok
use Rattle.st_lexer.specs.declared.token.Token.{Token}
use Rattle.st_lexer.specs.Literals.{literal_at, prefix}
use Rattle.st_lexer.specs.Spots.{is_not_lf}
use Rattle.st_lexer.specs.Symbols.{spelling}
use Rattle.st_lexer.specs.Words.{word}
use Rattle.st_lexer.specs.Reading.{Closes, ClosesFirst, Stands, Refuses, StandsAt, RefusedAt, Cover, Reads, LexAt}
use Rattle.st_lexer.specs.Pieces.{opening}
use Rattle.st_lexer.proofs.Openings.{found-stands, found-refused}
use Rattle.st_lexer.proofs.Covers.{Upto, upto-start, upto-more}
use Rattle.st_lexer.proofs.Fronts.{stands-within}

true-false : (t : Bool) → t ≡ true → t ≡ false → ⊥
true-false t p q = cc

tested : (t : Bool) → (t ≡ true) ⊎ (t ≡ false)
tested true = inl refl
tested false = inr refl

is-or-not : (x y : ℕ) → (x ≡ y) ⊎ (x ≡ y → ⊥)
is-or-not x y = elim (tested (x == y)) [
  | inl e ↦ let f : x ≡ y = grind (arith, nat_tests) in inl f
  | inr e ↦ inr (λ f. let g : (x == y) ≡ true = grind (arith, nat_tests) in true-false (x == y) g e)
]

closes-or-not : (last : ℕ) (s : List ℕ) (k : ℕ) → Closes last s k ⊎ (Closes last s k → ⊥)
closes-or-not last s k = elim (order (k + 1) (length s)) [
  | inl lt ↦ elim (is-or-not (slice_index s k) 42) [
    | inl e ↦ elim (is-or-not (slice_index s (k + 1)) last) [ inl f ↦ inl (lt, e, f) | inr f ↦ inr (λ c. f c.2) ]
    | inr e ↦ inr (λ c. e c.1)
  ]
  | inr ge ↦ inr (λ c. omega (arith, c.0))
]

-- the first closing mark from k on, or that there is none
search-mark : (last : ℕ) (s : List ℕ) (fuel k : ℕ) → length s ≤ fuel + k → 2 ≤ k → ((j : ℕ) → 2 ≤ j → j < k → Closes last s j → ⊥)
    → ((n : ℕ) × ClosesFirst last s n) ⊎ ((j : ℕ) → 2 ≤ j → Closes last s j → ⊥)
search-mark last s zero k h two before = inr (λ j t c. before j t (omega (arith, c.0)) c)
search-mark last s (suc fuel) k h two before = elim (closes-or-not last s k) [
  | inl c ↦ inl (k + 2, (k, refl, two, c, before))
  | inr none ↦ search-mark last s fuel (k + 1) (omega arith) (omega arith)
      (λ j t lt c. elim (order j k) [
        | inl less ↦ before j t less c
        | inr ge ↦ let e : j ≡ k = omega arith in none (subst (λ i. Closes last s i) e c)
      ])
]

literal-decided : (ty : Option Ty) (s : List ℕ) (o : Option Literal) → literal_at ty (drop (length (prefix ty)) s) ≡ o
    → ((n : ℕ) × (t : Option Tok) × Stands (opens.Literal ty) s n t) ⊎ ((r : Reason) × Refuses (opens.Literal ty) s r)
literal-decided ty s None e = inr (reason.Number, (refl, e))
literal-decided ty s (Some l) e = inl (length (prefix ty) + l.len, Some (tok.Number ty l.value), (l, e, refl, refl))

decided : (o : Opening) (s : List ℕ) → ((n : ℕ) × (t : Option Tok) × Stands o s n t) ⊎ ((r : Reason) × Refuses o s r)
decided opens.Blank s = inl (1, None, (refl, refl))
decided opens.OrderMark s = inl (3, None, (refl, refl))
decided (opens.Comment last) s = elim (search-mark last s (length s) 2 (omega arith) (omega arith) (λ j t lt c. absurd (omega arith))) [
  | inl c ↦ inl (c.0, None, (c.1, refl))
  | inr none ↦ inr (reason.Comment, (refl, none))
]
decided opens.LineComment s = inl (prefix_len is_not_lf s, None, (refl, refl))
decided opens.Word s = inl (prefix_len is_letter_or_digit s, Some (word (take (prefix_len is_letter_or_digit s) s)), (refl, refl))
decided (opens.Literal ty) s = literal-decided ty s _ refl
decided opens.Ampersand s = inl (1, Some (tok.Key key.And), (refl, refl))
decided (opens.Symbol y) s = inl (length (spelling y), Some (tok.Sym y), (refl, refl))
decided opens.Nothing s = inr (reason.Byte, refl)

decided-at : (p : ℕ) (s : List ℕ) → ((n : ℕ) × (t : Option Tok) × StandsAt p s n t) ⊎ ((r : Reason) × RefusedAt p s r)
decided-at p s = elim (decided (opening p s) s) [
  | inl st ↦ inl (st.0, st.1, found-stands p s st.0 st.1 st.2)
  | inr ref ↦ inr (ref.0, found-refused p s ref.0 ref.1)
]

from-place : (text : List ℕ) (fuel at : ℕ) (ts : List Token) → length text ≤ fuel + at → at ≤ length text → Upto text ts at
    → ((us : List Token) × Reads text us) ⊎ ((p : ℕ) × (r : Reason) × LexAt text p r)
from-place text zero at ts h le u =
    let e : at ≡ length text = omega arith in
    inl (ts, (u.pieces, subst (λ i. Cover text u.pieces 0 i) e u.cover, u.tokens))
from-place text (suc fuel) at ts h le u = elim (order at (length text)) [
  | inl lt ↦ elim (decided-at at (drop at text)) [
    | inl st ↦
        let some : 0 < length (drop at text) = omega (arith, length-drop at text) in
        let w = stands-within at (drop at text) st.0 st.1 some st.2 in
        let fits : at + st.0 ≤ length text = omega (arith, w.1, length-drop at text) in
        from-place text fuel (at + st.0) _ (omega (arith, w.0)) fits (upto-more text ts at st.0 st.1 u w.0 w.1 lt st.2)
    | inr ref ↦ inr (at, ref.0, (u.pieces, u.cover, lt, ref.1))
  ]
  | inr ge ↦
      let e : at ≡ length text = omega arith in
      inl (ts, (u.pieces, subst (λ i. Cover text u.pieces 0 i) e u.cover, u.tokens))
]

pub reads-or-stops : (text : List ℕ) → ((ts : List Token) × Reads text ts) ⊎ ((p : ℕ) × (r : Reason) × LexAt text p r)
reads-or-stops text = from-place text (length text) 0 [] (omega arith) (omega arith) (upto-start text)
