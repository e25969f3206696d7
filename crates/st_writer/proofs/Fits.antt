-- Lexemes that stand where they are put.
use Rattle.std.proofs.Common.{◌≡◌, ℕ, ℤ, pos, negsuc, suc, ◌+◌, ◌<◌, Bool, true, false, cond, List, [], ◌∷◌, ◌++◌, length, take, Option, Some, None, sym, refl}
use Rattle.std.proofs.Common.{ap, ◌∙◌, arith}
use Rattle.std.specs.Prelude.{nat_eq, ◌==◌, slice_index}
use Rattle.std.specs.List.{list_all, prefix_len}
use Rattle.std.specs.Char.{is_ascii_digit, to_ascii_lowercase}
use Rattle.std.specs.Str.{str_eq_ignore_ascii_case}
use Rattle.std.specs.Fmt.{decimal, signed_decimal}
use Rattle.std.proofs.lemmas.Bool.Decides.{nat_tests}
use Rattle.std.proofs.lemmas.List.{take_at}
use Rattle.vcp_base.specs.declared.ty.Ty.{Ty}
use Rattle.vcp_base.specs.declared.ty.Ty.TheVariants as ty
use Rattle.vcp_base.specs.Names.{is_letter, is_letter_or_digit}
use Rattle.st_lexer.specs.declared.token.Key.{Key}
use Rattle.st_lexer.specs.declared.token.Key.TheVariants as key
use Rattle.st_lexer.specs.declared.token.Sym.{Sym}
use Rattle.st_lexer.specs.declared.token.Sym.TheVariants as symbol
use Rattle.st_lexer.specs.declared.token.Tok.{Tok}
use Rattle.st_lexer.specs.declared.token.Tok.TheVariants as tok
use Rattle.st_lexer.specs.declared.literal.Literal.{Literal}
use Rattle.st_lexer.specs.declared.piece.Opening.TheVariants as opens
use Rattle.st_lexer.specs.Literals.{is_run, run, takes_sign, signed, begins_typed, literal_at}
use Rattle.st_lexer.specs.Reading.{StandsAt}
use Rattle.st_lexer.specs.Symbols.{symbol_among}
use Rattle.st_lexer.specs.Words as words
use Rattle.st_writer.specs.Lexemes.{Lexeme, blank, line_end, word, symbol, number, truth, literal}
use Rattle.st_writer.proofs.Numbers.{both, and-false, AreDecimal, decimal-is, plain-is}
use Rattle.st_writer.proofs.IsReadable.{IsWordOf, IsName, IsValue}

-- the lexeme stands before these bytes, at any place of a text
pub record Fits (x : Lexeme) (rest : List ℕ) : Type 0 where
  pub some_of : 0 < length x.bytes
  pub stands : (p : ℕ) → StandsAt p (x.bytes ++ rest) (length x.bytes) x.tok

-- no word and no literal goes on with these bytes
abbrev pub Free : List ℕ → Type 0
Free rest = is_run (slice_index rest 0) ≡ false

-- ---- gaps and symbols

pub fit-blank : (rest : List ℕ) → Fits blank rest
fit-blank rest = record { some_of = omega arith; stands = λ p. (opens.Blank, refl, (refl, refl)) }

pub fit-line-end : (rest : List ℕ) → Fits line_end rest
fit-line-end rest = record { some_of = omega arith; stands = λ p. (opens.Blank, refl, (refl, refl)) }

pub fit-semi : (rest : List ℕ) → Fits (symbol symbol.Semi) rest
unfolding symbol_among
fit-semi rest = record { some_of = omega arith; stands = λ p. (opens.Symbol symbol.Semi, (refl, refl), (refl, refl)) }

pub fit-comma : (rest : List ℕ) → Fits (symbol symbol.Comma) rest
unfolding symbol_among
fit-comma rest = record { some_of = omega arith; stands = λ p. (opens.Symbol symbol.Comma, (refl, refl), (refl, refl)) }

pub fit-close : (rest : List ℕ) → Fits (symbol symbol.RParen) rest
unfolding symbol_among
fit-close rest = record { some_of = omega arith; stands = λ p. (opens.Symbol symbol.RParen, (refl, refl), (refl, refl)) }

pub fit-minus : (rest : List ℕ) → Fits (symbol symbol.Minus) rest
unfolding symbol_among
fit-minus rest = record { some_of = omega arith; stands = λ p. (opens.Symbol symbol.Minus, (refl, refl), (refl, refl)) }

pub fit-assign : (rest : List ℕ) → Fits (symbol symbol.Assign) rest
unfolding symbol_among
fit-assign rest = record { some_of = omega arith; stands = λ p. (opens.Symbol symbol.Assign, (refl, refl), (refl, refl)) }

pub fit-dots : (rest : List ℕ) → Fits (symbol symbol.DotDot) rest
unfolding symbol_among
fit-dots rest = record { some_of = omega arith; stands = λ p. (opens.Symbol symbol.DotDot, (refl, refl), (refl, refl)) }

-- before a space
pub fit-symbol : (y : Sym) (rest : List ℕ) → Fits (symbol y) (32 ∷ rest)
unfolding symbol_among
fit-symbol symbol.Assign rest = record { some_of = omega arith; stands = λ p. (opens.Symbol symbol.Assign, (refl, refl), (refl, refl)) }
fit-symbol symbol.Colon rest = record { some_of = omega arith; stands = λ p. (opens.Symbol symbol.Colon, (refl, refl), (refl, refl)) }
fit-symbol symbol.Semi rest = record { some_of = omega arith; stands = λ p. (opens.Symbol symbol.Semi, (refl, refl), (refl, refl)) }
fit-symbol symbol.Comma rest = record { some_of = omega arith; stands = λ p. (opens.Symbol symbol.Comma, (refl, refl), (refl, refl)) }
fit-symbol symbol.LParen rest = record { some_of = omega arith; stands = λ p. (opens.Symbol symbol.LParen, (refl, refl), (refl, refl)) }
fit-symbol symbol.RParen rest = record { some_of = omega arith; stands = λ p. (opens.Symbol symbol.RParen, (refl, refl), (refl, refl)) }
fit-symbol symbol.DotDot rest = record { some_of = omega arith; stands = λ p. (opens.Symbol symbol.DotDot, (refl, refl), (refl, refl)) }
fit-symbol symbol.Plus rest = record { some_of = omega arith; stands = λ p. (opens.Symbol symbol.Plus, (refl, refl), (refl, refl)) }
fit-symbol symbol.Minus rest = record { some_of = omega arith; stands = λ p. (opens.Symbol symbol.Minus, (refl, refl), (refl, refl)) }
fit-symbol symbol.Star rest = record { some_of = omega arith; stands = λ p. (opens.Symbol symbol.Star, (refl, refl), (refl, refl)) }
fit-symbol symbol.Slash rest = record { some_of = omega arith; stands = λ p. (opens.Symbol symbol.Slash, (refl, refl), (refl, refl)) }
fit-symbol symbol.Eq rest = record { some_of = omega arith; stands = λ p. (opens.Symbol symbol.Eq, (refl, refl), (refl, refl)) }
fit-symbol symbol.Ne rest = record { some_of = omega arith; stands = λ p. (opens.Symbol symbol.Ne, (refl, refl), (refl, refl)) }
fit-symbol symbol.Le rest = record { some_of = omega arith; stands = λ p. (opens.Symbol symbol.Le, (refl, refl), (refl, refl)) }
fit-symbol symbol.Ge rest = record { some_of = omega arith; stands = λ p. (opens.Symbol symbol.Ge, (refl, refl), (refl, refl)) }
fit-symbol symbol.Lt rest = record { some_of = omega arith; stands = λ p. (opens.Symbol symbol.Lt, (refl, refl), (refl, refl)) }
fit-symbol symbol.Gt rest = record { some_of = omega arith; stands = λ p. (opens.Symbol symbol.Gt, (refl, refl), (refl, refl)) }

-- the colon behind the labels of a branch, which ends their line
pub fit-colon-at-end : (rest : List ℕ) → Fits (symbol symbol.Colon) (10 ∷ rest)
unfolding symbol_among
fit-colon-at-end rest = record { some_of = omega arith; stands = λ p. (opens.Symbol symbol.Colon, (refl, refl), (refl, refl)) }

-- no comment begins with these bytes behind `(`
abbrev pub Safe : List ℕ → Type 0
Safe rest = nat_eq 42 (slice_index rest 0) ≡ false

pub fit-open : (rest : List ℕ) → Safe rest → Fits (symbol symbol.LParen) rest
unfolding symbol_among
fit-open [] e = record { some_of = omega arith; stands = λ p. (opens.Symbol symbol.LParen, (refl, refl), (refl, refl)) }
fit-open (c ∷ rest) e = record { some_of = omega arith; stands = λ p. (opens.Symbol symbol.LParen, (rw e refl, refl), (refl, refl)) }

-- ---- runs

weaken : (p q : ℕ → Bool) (bs : List ℕ) → ((b : ℕ) → p b ≡ true → q b ≡ true) → list_all p bs ≡ true → list_all q bs ≡ true
weaken p q [] f e = refl
weaken p q (b ∷ bs) f e = let h = both (p b) _ e in rw (f b h.0) (weaken p q bs f h.1)

run-is : (p : ℕ → Bool) (bs rest : List ℕ) → list_all p bs ≡ true → p 0 ≡ false → p (slice_index rest 0) ≡ false → prefix_len p (bs ++ rest) ≡ length bs
run-is p [] [] e z f = refl
run-is p [] (c ∷ cs) e z f = rw f refl
run-is p (b ∷ bs) rest e z f =
    let h = both (p b) _ e in
    let more : prefix_len p (bs ++ rest) ≡ length bs = run-is p bs rest h.1 z f in
    rw h.0 (omega (arith, more))

no-run-no-word : (b : ℕ) → is_run b ≡ false → is_letter_or_digit b ≡ false
no-run-no-word b e = grind (arith, nat_tests)

digit-is-run : (b : ℕ) → is_ascii_digit b ≡ true → is_run b ≡ true
digit-is-run b e = grind (arith, nat_tests)

-- ---- words

begins-no-star : (b : ℕ) → is_letter b ≡ true → nat_eq 42 b ≡ false
begins-no-star b e = grind (arith, nat_tests)

-- no word with `#` behind it stands where a word ends

other-letter : (r p : ℕ) → is_run r ≡ false → is_letter_or_digit p ≡ true → nat_eq (to_ascii_lowercase r) (to_ascii_lowercase p) ≡ false
other-letter r p e f = grind (arith, nat_tests)

no-hash-behind : (r : ℕ) → is_run r ≡ false → nat_eq (to_ascii_lowercase r) 35 ≡ false
no-hash-behind r e = grind (arith, nat_tests)

no-hash-within : (r : ℕ) → is_letter_or_digit r ≡ true → nat_eq (to_ascii_lowercase r) 35 ≡ false
no-hash-within r e = grind (arith, nat_tests)

no-prefix : (w rest q : List ℕ) → list_all is_letter_or_digit w ≡ true → Free rest → list_all is_letter_or_digit q ≡ true
    → str_eq_ignore_ascii_case (take (length (q ++ 35 ∷ [])) (w ++ rest)) (q ++ 35 ∷ []) ≡ false
no-prefix [] [] [] e f g = refl
no-prefix [] [] (c ∷ q) e f g = refl
no-prefix [] (r ∷ rest) [] e f g = rw (no-hash-behind r f) refl
no-prefix [] (r ∷ rest) (c ∷ q) e f g = rw (other-letter r c f (both (is_letter_or_digit c) _ g).0) refl
no-prefix (b ∷ w) rest [] e f g = rw (no-hash-within b (both (is_letter_or_digit b) _ e).0) refl
no-prefix (b ∷ w) rest (c ∷ q) e f g =
    and-false (nat_eq (to_ascii_lowercase b) (to_ascii_lowercase c)) _
    (no-prefix w rest q (both (is_letter_or_digit b) _ e).1 f (both (is_letter_or_digit c) _ g).1)

no-type : (w rest : List ℕ) → list_all is_letter_or_digit w ≡ true → Free rest → (t : Ty) → begins_typed t (w ++ rest) ≡ false
no-type w rest e f ty.Bool = no-prefix w rest (66 ∷ 79 ∷ 79 ∷ 76 ∷ []) e f refl
no-type w rest e f ty.Int = no-prefix w rest (73 ∷ 78 ∷ 84 ∷ []) e f refl
no-type w rest e f ty.Dint = no-prefix w rest (68 ∷ 73 ∷ 78 ∷ 84 ∷ []) e f refl
no-type w rest e f ty.Lint = no-prefix w rest (76 ∷ 73 ∷ 78 ∷ 84 ∷ []) e f refl

pub fit-word : (w : List ℕ) (t : Tok) (rest : List ℕ) → IsWordOf w t → Free rest → Fits (record { bytes = w; tok = Some t }) rest
fit-word [] t rest h f = absurd (let e = h.begins in cc)
fit-word (b ∷ bs) t rest h f =
    let s = b ∷ (bs ++ rest) in
    let long : prefix_len is_letter_or_digit s ≡ length (b ∷ bs) =
    run-is is_letter_or_digit (b ∷ bs) rest h.each refl (no-run-no-word (slice_index rest 0) f) in
    record {
      some_of = omega arith;
      stands = λ p. (
        opens.Word,
        (h.begins, no-type (b ∷ bs) rest h.each f),
        (sym long, ap (λ (x : Tok). Some x) (sym h.is ∙ ap words.word (sym (take_at (b ∷ bs) rest (length (b ∷ bs)) refl)))),
      );
    }

pub key-is : (k : Key) → IsWordOf (words.spelling k) (tok.Key k)
unfolding words.key_among
key-is key.Program = record { begins = refl; each = refl; is = refl }
key-is key.EndProgram = record { begins = refl; each = refl; is = refl }
key-is key.Var = record { begins = refl; each = refl; is = refl }
key-is key.VarInput = record { begins = refl; each = refl; is = refl }
key-is key.VarOutput = record { begins = refl; each = refl; is = refl }
key-is key.Constant = record { begins = refl; each = refl; is = refl }
key-is key.Retain = record { begins = refl; each = refl; is = refl }
key-is key.EndVar = record { begins = refl; each = refl; is = refl }
key-is key.Bool = record { begins = refl; each = refl; is = refl }
key-is key.Int = record { begins = refl; each = refl; is = refl }
key-is key.Dint = record { begins = refl; each = refl; is = refl }
key-is key.Lint = record { begins = refl; each = refl; is = refl }
key-is key.If = record { begins = refl; each = refl; is = refl }
key-is key.Then = record { begins = refl; each = refl; is = refl }
key-is key.Elsif = record { begins = refl; each = refl; is = refl }
key-is key.Else = record { begins = refl; each = refl; is = refl }
key-is key.EndIf = record { begins = refl; each = refl; is = refl }
key-is key.Case = record { begins = refl; each = refl; is = refl }
key-is key.Of = record { begins = refl; each = refl; is = refl }
key-is key.EndCase = record { begins = refl; each = refl; is = refl }
key-is key.For = record { begins = refl; each = refl; is = refl }
key-is key.To = record { begins = refl; each = refl; is = refl }
key-is key.By = record { begins = refl; each = refl; is = refl }
key-is key.Do = record { begins = refl; each = refl; is = refl }
key-is key.EndFor = record { begins = refl; each = refl; is = refl }
key-is key.And = record { begins = refl; each = refl; is = refl }
key-is key.Or = record { begins = refl; each = refl; is = refl }
key-is key.Xor = record { begins = refl; each = refl; is = refl }
key-is key.Not = record { begins = refl; each = refl; is = refl }
key-is key.Mod = record { begins = refl; each = refl; is = refl }
key-is key.True = record { begins = refl; each = refl; is = refl }
key-is key.False = record { begins = refl; each = refl; is = refl }
key-is key.Sint = record { begins = refl; each = refl; is = refl }
key-is key.Usint = record { begins = refl; each = refl; is = refl }
key-is key.Uint = record { begins = refl; each = refl; is = refl }
key-is key.Udint = record { begins = refl; each = refl; is = refl }
key-is key.Ulint = record { begins = refl; each = refl; is = refl }
key-is key.Real = record { begins = refl; each = refl; is = refl }
key-is key.Lreal = record { begins = refl; each = refl; is = refl }
key-is key.String = record { begins = refl; each = refl; is = refl }
key-is key.Time = record { begins = refl; each = refl; is = refl }
key-is key.Array = record { begins = refl; each = refl; is = refl }
key-is key.Struct = record { begins = refl; each = refl; is = refl }
key-is key.While = record { begins = refl; each = refl; is = refl }
key-is key.Repeat = record { begins = refl; each = refl; is = refl }
key-is key.Until = record { begins = refl; each = refl; is = refl }
key-is key.Exit = record { begins = refl; each = refl; is = refl }
key-is key.Continue = record { begins = refl; each = refl; is = refl }
key-is key.Return = record { begins = refl; each = refl; is = refl }
key-is key.At = record { begins = refl; each = refl; is = refl }
key-is key.Function = record { begins = refl; each = refl; is = refl }
key-is key.FunctionBlock = record { begins = refl; each = refl; is = refl }

pub fit-key : (k : Key) (rest : List ℕ) → Free rest → Fits (word k) rest
fit-key k rest f = fit-word (words.spelling k) (tok.Key k) rest (key-is k) f

-- ---- numbers

run-of : (ds rest : List ℕ) → list_all is_ascii_digit ds ≡ true → Free rest → run (ds ++ rest) ≡ ds
run-of ds rest e f =
    ap (λ n. take n (ds ++ rest)) (run-is is_run ds rest (weaken is_ascii_digit is_run ds digit-is-run e) refl f)
    ∙ take_at ds rest (length ds) refl

no-sign : (c : ℕ) → is_ascii_digit c ≡ true → ((c == 43) ≡ false) × ((c == 45) ≡ false)
no-sign c e = (grind (arith, nat_tests), grind (arith, nat_tests))

unsigned : (t : Option Ty) (ds rest : List ℕ) (n : ℕ) → AreDecimal ds n → signed t (ds ++ rest) ≡ false
unsigned t [] rest n d = absurd (let e = d.some_of in omega (arith, e))
unsigned t (c ∷ ds) rest n d =
    let h = no-sign c (both (is_ascii_digit c) _ d.each).0 in
    and-false (takes_sign t) _ (rw (h.0, h.1) refl)

read-plain : (t : Option Ty) (ds rest : List ℕ) (n : ℕ) → AreDecimal ds n → Free rest
    → literal_at t (ds ++ rest) ≡ Some (record { value = pos n; len = length ds })
unfolding literal_at
read-plain t ds rest n d f = rw (unsigned t ds rest n d, run-of ds rest d.each f, plain-is t ds n d) refl

read-negative : (t : Option Ty) (ds rest : List ℕ) (n : ℕ) → takes_sign t ≡ true → AreDecimal ds (suc n) → Free rest
    → literal_at t (45 ∷ (ds ++ rest)) ≡ Some (record { value = negsuc n; len = length ds + 1 })
unfolding literal_at
read-negative t ds rest n e d f = rw (e, run-of ds rest d.each f, d.read) refl

-- what stands behind a literal's type
record ReadAs (t : Option Ty) (v : ℤ) (ds rest : List ℕ) : Type 0 where
  literal : Literal
  is_read : literal_at t (ds ++ rest) ≡ Some literal
  value : literal.value ≡ v
  len : literal.len ≡ length ds

read-value : (t : Option Ty) (v : ℤ) (rest : List ℕ) → IsValue t v → Free rest → ReadAs t v (signed_decimal v) rest
read-value t (pos n) rest h f = record {
  literal = record { value = pos n; len = length (decimal n) };
  is_read = read-plain t (decimal n) rest n (decimal-is n h) f;
  value = refl;
  len = refl;
}
read-value t (negsuc n) rest h f = record {
  literal = record { value = negsuc n; len = length (decimal (suc n)) + 1 };
  is_read = read-negative t (decimal (suc n)) rest n h.0 (decimal-is (suc n) h.1) f;
  value = refl;
  len = omega arith;
}

untyped : (n : ℕ) (ds rest : List ℕ) → AreDecimal ds n → ReadAs None (pos n) ds rest → Fits (record { bytes = ds; tok = Some (tok.Number None (pos n)) }) rest
untyped n [] rest d r = absurd (let e = d.some_of in omega (arith, e))
untyped n (c ∷ ds) rest d r =
    let e = (both (is_ascii_digit c) _ d.each).0 in
    record {
      some_of = omega arith;
      stands = λ p. (opens.Literal None, e, (r.literal, r.is_read, omega (arith, r.len), ap (λ (x : ℤ). Some (tok.Number None x)) (sym r.value)));
    }

pub fit-number : (t : Option Ty) (v : ℤ) (rest : List ℕ) → IsValue t v → Free rest → Fits (number t v) rest
fit-number None (pos n) rest h f = untyped n (decimal n) rest (decimal-is n h) (read-value None (pos n) rest h f)
fit-number None (negsuc n) rest h f = absurd (let e = h.0 in cc)
fit-number (Some ty.Bool) v rest h f =
    let r = read-value (Some ty.Bool) v rest h f in
    record {
      some_of = omega arith;
      stands = λ p. (
        opens.Literal (Some ty.Bool),
        refl,
        (r.literal, r.is_read, omega (arith, r.len), ap (λ (x : ℤ). Some (tok.Number (Some ty.Bool) x)) (sym r.value)),
      );
    }
fit-number (Some ty.Int) v rest h f =
    let r = read-value (Some ty.Int) v rest h f in
    record {
      some_of = omega arith;
      stands = λ p. (
        opens.Literal (Some ty.Int),
        refl,
        (r.literal, r.is_read, omega (arith, r.len), ap (λ (x : ℤ). Some (tok.Number (Some ty.Int) x)) (sym r.value)),
      );
    }
fit-number (Some ty.Dint) v rest h f =
    let r = read-value (Some ty.Dint) v rest h f in
    record {
      some_of = omega arith;
      stands = λ p. (
        opens.Literal (Some ty.Dint),
        refl,
        (r.literal, r.is_read, omega (arith, r.len), ap (λ (x : ℤ). Some (tok.Number (Some ty.Dint) x)) (sym r.value)),
      );
    }
fit-number (Some ty.Lint) v rest h f =
    let r = read-value (Some ty.Lint) v rest h f in
    record {
      some_of = omega arith;
      stands = λ p. (
        opens.Literal (Some ty.Lint),
        refl,
        (r.literal, r.is_read, omega (arith, r.len), ap (λ (x : ℤ). Some (tok.Number (Some ty.Lint) x)) (sym r.value)),
      );
    }

either : (P : Lexeme → Type 0) (t : Bool) (x y : Lexeme) → P x → P y → P (cond t x y)
either P true x y f g = f
either P false x y f g = g

fit-truth : (v : ℤ) (rest : List ℕ) → IsValue (Some ty.Bool) v → Free rest → Fits (truth v) rest
fit-truth (pos n) rest h f =
    let P : Lexeme → Type 0 = λ x. Fits x rest in
    either P (n == 0) _ _ (fit-key key.False rest f) (either P (n == 1) _ _ (fit-key key.True rest f) (fit-number (Some ty.Bool) (pos n) rest h f))
fit-truth (negsuc n) rest h f = fit-number (Some ty.Bool) (negsuc n) rest h f

pub fit-literal : (t : Option Ty) (v : ℤ) (rest : List ℕ) → IsValue t v → Free rest → Fits (literal t v) rest
fit-literal None v rest h f = fit-number None v rest h f
fit-literal (Some ty.Bool) v rest h f = fit-truth v rest h f
fit-literal (Some ty.Int) v rest h f = fit-number (Some ty.Int) v rest h f
fit-literal (Some ty.Dint) v rest h f = fit-number (Some ty.Dint) v rest h f
fit-literal (Some ty.Lint) v rest h f = fit-number (Some ty.Lint) v rest h f

-- ---- how a word or a literal begins, behind an opening bracket

word-safe : (w rest : List ℕ) (t : Tok) → IsWordOf w t → Safe (w ++ rest)
word-safe [] rest t h = absurd (let e = h.begins in cc)
word-safe (b ∷ w) rest t h = begins-no-star b h.begins

pub name-safe : (w rest : List ℕ) → IsName w → Safe (w ++ rest)
name-safe w rest h = word-safe w rest tok.Name h

digit-safe : (c : ℕ) → is_ascii_digit c ≡ true → nat_eq 42 c ≡ false
digit-safe c e = grind (arith, nat_tests)

digits-safe : (n : ℕ) (ds rest : List ℕ) → AreDecimal ds n → Safe (ds ++ rest)
digits-safe n [] rest d = absurd (let e = d.some_of in omega (arith, e))
digits-safe n (c ∷ ds) rest d = digit-safe c (both (is_ascii_digit c) _ d.each).0

number-safe : (t : Option Ty) (v : ℤ) (rest : List ℕ) → IsValue t v → Safe ((number t v).bytes ++ rest)
number-safe None (pos n) rest h = digits-safe n (decimal n) rest (decimal-is n h)
number-safe None (negsuc n) rest h = absurd (let e = h.0 in cc)
number-safe (Some ty.Bool) v rest h = refl
number-safe (Some ty.Int) v rest h = refl
number-safe (Some ty.Dint) v rest h = refl
number-safe (Some ty.Lint) v rest h = refl

truth-safe : (v : ℤ) (rest : List ℕ) → IsValue (Some ty.Bool) v → Safe ((truth v).bytes ++ rest)
truth-safe (pos n) rest h =
    let P : Lexeme → Type 0 = λ x. Safe (x.bytes ++ rest) in
    either P (n == 0) _ _ refl (either P (n == 1) _ _ refl refl)
truth-safe (negsuc n) rest h = refl

pub literal-safe : (t : Option Ty) (v : ℤ) (rest : List ℕ) → IsValue t v → Safe ((literal t v).bytes ++ rest)
literal-safe None v rest h = number-safe None v rest h
literal-safe (Some ty.Bool) v rest h = truth-safe v rest h
literal-safe (Some ty.Int) v rest h = number-safe (Some ty.Int) v rest h
literal-safe (Some ty.Dint) v rest h = number-safe (Some ty.Dint) v rest h
literal-safe (Some ty.Lint) v rest h = number-safe (Some ty.Lint) v rest h
