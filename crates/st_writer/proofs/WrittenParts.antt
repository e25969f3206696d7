-- The tokens that lexemes spell, cut where the lexemes are, and their depths.
use Rattle.std.proofs.Common.{◌≡◌, ℕ, zero, suc, ◌≤◌, ℤ, pos, negsuc, Bool, true, false, cond, ◌==◌, eqb-true, List, [], ◌∷◌, ◌++◌, Option, Some, None, refl}
use Rattle.std.proofs.Common.{ap, sym, ◌∙◌, subst, append_assoc, append-nil}
use Rattle.std.proofs.lemmas.List.{map-append}
use Rattle.vcp_base.specs.declared.ty.Ty.{Ty}
use Rattle.vcp_base.specs.declared.ty.Ty.TheVariants as ty
use Rattle.st_lexer.specs.declared.token.Key.TheVariants as key
use Rattle.st_lexer.specs.declared.token.Sym.TheVariants as symbol
use Rattle.st_lexer.specs.declared.token.Tok.{Tok}
use Rattle.st_lexer.specs.declared.token.Tok.TheVariants as tok
use Rattle.st_lexer.specs.declared.token.Token.{Token}
use Rattle.st_tree.specs.Placed.{Placed, at, tokens_of, Within}
use Rattle.st_tree.specs.Expressions.{Value, literal_of}
use Rattle.st_writer.specs.Lexemes as lexeme
use Rattle.st_writer.specs.Lexemes.{Lexeme}
use Rattle.st_writer.proofs.Written.{Written, written_one}

-- ---- lexemes one behind the other

-- tokens cut in two: those of the lexemes xs, and those of ys behind them
pub record Cut (bytes : Token → List ℕ) (xs ys : List Lexeme) (ts : List Token) : Type 0 where
  pub front : List Token
  pub back : List Token
  pub parts : ts ≡ front ++ back
  pub front_is : Written bytes xs front
  pub back_is : Written bytes ys back

module _ (bytes : Token → List ℕ) where
  cut_one : (bs : List ℕ) (k : Option Tok) (xs ys : List Lexeme) (ts : List Token) → ((us : List Token) → Written bytes (xs ++ ys) us → Cut bytes xs ys us)
      → written_one bytes bs k (Written bytes (xs ++ ys)) ts → Cut bytes (record { bytes = bs; tok = k } ∷ xs) ys ts
  cut_one bs None xs ys ts more w =
      let r = more ts w in
      record { front = r.front; back = r.back; parts = r.parts; front_is = r.front_is; back_is = r.back_is }
  cut_one bs (Some k) xs ys ts more w =
      let r = more w.1 w.5 in
      record {
        front = w.0 ∷ r.front;
        back = r.back;
        parts = w.2 ∙ ap (λ (us : List Token). w.0 ∷ us) r.parts;
        front_is = (w.0, r.front, refl, w.3, w.4, r.front_is);
        back_is = r.back_is;
      }

  pub cut : (xs ys : List Lexeme) (ts : List Token) → Written bytes (xs ++ ys) ts → Cut bytes xs ys ts
  cut [] ys ts w = record { front = []; back = ts; parts = refl; front_is = refl; back_is = w }
  cut (x ∷ xs) ys ts w = cut_one x.bytes x.tok xs ys ts (λ us v. cut xs ys us v) w

  join_one : (bs : List ℕ) (k : Option Tok) (xs ys : List Lexeme) (ts us : List Token)
      → ((vs : List Token) → Written bytes xs vs → Written bytes (xs ++ ys) (vs ++ us))
      → written_one bytes bs k (Written bytes xs) ts → written_one bytes bs k (Written bytes (xs ++ ys)) (ts ++ us)
  join_one bs None xs ys ts us more w = more ts w
  join_one bs (Some k) xs ys ts us more w = (w.0, w.1 ++ us, ap (λ (vs : List Token). vs ++ us) w.2, w.3, w.4, more w.1 w.5)

  pub joined : (xs ys : List Lexeme) (ts us : List Token) → Written bytes xs ts → Written bytes ys us → Written bytes (xs ++ ys) (ts ++ us)
  joined [] ys ts us w v = subst (λ (vs : List Token). Written bytes ys (vs ++ us)) (sym w) v
  joined (x ∷ xs) ys ts us w v = join_one x.bytes x.tok xs ys ts us (λ vs q. joined xs ys vs us q v) w

  pub regrouped : (xs ys zs : List Lexeme) (ts : List Token) → Written bytes ((xs ++ ys) ++ zs) ts → Written bytes (xs ++ (ys ++ zs)) ts
  regrouped xs ys zs ts w = subst (λ (ls : List Lexeme). Written bytes ls ts) (append_assoc xs ys zs) w

  pub grouped : (xs ys zs : List Lexeme) (ts : List Token) → Written bytes (xs ++ (ys ++ zs)) ts → Written bytes ((xs ++ ys) ++ zs) ts
  grouped xs ys zs ts w = subst (λ (ls : List Lexeme). Written bytes ls ts) (sym (append_assoc xs ys zs)) w

  -- a body before a list, and what stands behind both
  pub regrouped_twice : (xs ys zs more : List Lexeme) (ts : List Token) → Written bytes ((xs ++ (ys ++ zs)) ++ more) ts
      → Written bytes (xs ++ (ys ++ (zs ++ more))) ts
  regrouped_twice xs ys zs more ts w = subst (λ (ls : List Lexeme). Written bytes (xs ++ ls) ts) (append_assoc ys zs more) (regrouped xs (ys ++ zs) more ts w)

  pub nothing_behind : (xs : List Lexeme) (ts : List Token) → Written bytes (xs ++ []) ts → Written bytes xs ts
  nothing_behind xs ts w = subst (λ (ls : List Lexeme). Written bytes ls ts) (append-nil xs) w

  -- ---- gaps spell nothing

  gap_behind : (xs ys : List Lexeme) (ts : List Token) → Written bytes ((xs ++ lexeme.line_end ∷ []) ++ ys) ts → Written bytes (xs ++ ys) ts
  gap_behind xs ys ts w =
      let r = cut xs (lexeme.line_end ∷ ys) ts (regrouped xs (lexeme.line_end ∷ []) ys ts w) in
      subst (λ (us : List Token). Written bytes (xs ++ ys) us) (sym r.parts) (joined xs ys r.front r.back r.front_is r.back_is)

  -- a line, and what stands behind it
  pub line_before : (n : ℕ) (xs ys : List Lexeme) (ts : List Token) → Written bytes (lexeme.line n xs ++ ys) ts → Written bytes (xs ++ ys) ts
  line_before zero xs ys ts w = gap_behind xs ys ts w
  line_before (suc n) xs ys ts w = line_before n xs ys ts w

  pub line_alone : (n : ℕ) (xs : List Lexeme) (ts : List Token) → Written bytes (lexeme.line n xs) ts → Written bytes xs ts
  line_alone n xs ts w =
      nothing_behind xs ts (line_before n xs [] ts (subst (λ (ls : List Lexeme). Written bytes ls ts) (sym (append-nil (lexeme.line n xs))) w))

  pub space_behind : (xs : List Lexeme) (ts : List Token) → Written bytes (xs ++ lexeme.blank ∷ []) ts → Written bytes xs ts
  space_behind xs ts w =
      let r = cut xs (lexeme.blank ∷ []) ts w in
      subst (λ (us : List Token). Written bytes xs us) (sym (r.parts ∙ ap (λ (us : List Token). r.front ++ us) r.back_is ∙ append-nil r.front)) r.front_is

-- ---- a literal

-- one token, which is the literal
pub record Literal (v : Value) (ts : List Token) : Type 0 where
  pub token : Token
  pub parts : ts ≡ token ∷ []
  pub is : literal_of token.tok ≡ Some v

module _ (bytes : Token → List ℕ) where
  literal_by : (k : Tok) (bs : List ℕ) (v : Value) (ts : List Token) → literal_of k ≡ Some v → Written bytes (record { bytes = bs; tok = Some k } ∷ []) ts
      → Literal v ts
  literal_by k bs v ts e w =
      record { token = w.0; parts = w.2 ∙ ap (λ (us : List Token). w.0 ∷ us) w.5; is = ap literal_of w.3 ∙ e }

  is-number : (n m : ℕ) → (n == m) ≡ true → (k : Tok) → literal_of k ≡ Some (record { ty = Some ty.Bool; value = pos m })
      → literal_of k ≡ Some (record { ty = Some ty.Bool; value = pos n })
  is-number n m e k h = h ∙ ap (λ (x : ℕ). Some (record { ty = Some ty.Bool; value = pos x })) (sym (eqb-true n m e))

  truth_by : (n : ℕ) (zeroth first : Bool) → (n == 0) ≡ zeroth → (n == 1) ≡ first → (ts : List Token)
      → Written bytes (cond zeroth (lexeme.word key.False) (cond first (lexeme.word key.True) (lexeme.number (Some ty.Bool) (pos n))) ∷ []) ts
      → Literal (record { ty = Some ty.Bool; value = pos n }) ts
  truth_by n true first e f ts w = literal_by (tok.Key key.False) _ _ ts (is-number n 0 e (tok.Key key.False) refl) w
  truth_by n false true e f ts w = literal_by (tok.Key key.True) _ _ ts (is-number n 1 f (tok.Key key.True) refl) w
  truth_by n false false e f ts w = literal_by (tok.Number (Some ty.Bool) (pos n)) _ _ ts refl w

  literal_by_type : (t : Option Ty) (v : ℤ) (ts : List Token) → Written bytes (lexeme.literal t v ∷ []) ts → Literal (record { ty = t; value = v }) ts
  literal_by_type None v ts w = literal_by (tok.Number None v) _ _ ts refl w
  literal_by_type (Some ty.Bool) (pos n) ts w = truth_by n (n == 0) (n == 1) refl refl ts w
  literal_by_type (Some ty.Bool) (negsuc n) ts w = literal_by (tok.Number (Some ty.Bool) (negsuc n)) _ _ ts refl w
  literal_by_type (Some ty.Int) v ts w = literal_by (tok.Number (Some ty.Int) v) _ _ ts refl w
  literal_by_type (Some ty.Dint) v ts w = literal_by (tok.Number (Some ty.Dint) v) _ _ ts refl w
  literal_by_type (Some ty.Lint) v ts w = literal_by (tok.Number (Some ty.Lint) v) _ _ ts refl w

  pub literal_again : (v : Value) (ts : List Token) → Written bytes (lexeme.literal v.ty v.value ∷ []) ts → Literal v ts
  literal_again v ts w = literal_by_type v.ty v.value ts w

-- ---- depths within the limit

pub within-split : (limit : ℕ) (ps qs : List Placed) → Within limit (ps ++ qs) → Within limit ps × Within limit qs
within-split limit [] qs w = (tt, w)
within-split limit (p ∷ ps) qs w = let r = within-split limit ps qs w.1 in ((w.0, r.0), r.1)

pub within-join : (limit : ℕ) (ps qs : List Placed) → Within limit ps → Within limit qs → Within limit (ps ++ qs)
within-join limit [] qs w v = v
within-join limit (p ∷ ps) qs w v = (w.0, within-join limit ps qs w.1 v)

pub tokens-join : (ps qs : List Placed) → tokens_of (ps ++ qs) ≡ tokens_of ps ++ tokens_of qs
tokens-join ps qs = map-append (λ (p : Placed). p.token) ps qs

-- the tokens, each with a depth within the limit
pub record Placing (limit : ℕ) (ts : List Token) : Type 0 where
  pub placed : List Placed
  pub tokens : tokens_of placed ≡ ts
  pub within : Within limit placed

module _ (limit : ℕ) where
  abbrev pub no_token : (ts : List Token) → ts ≡ [] → Placing limit ts
  no_token ts e = record { placed = []; tokens = sym e; within = tt }

  abbrev pub token_before : (d : ℕ) (t : Token) (us ts : List Token) → d ≤ limit → ts ≡ t ∷ us → Placing limit us → Placing limit ts
  token_before d t us ts le e p =
      record { placed = at d t ∷ p.placed; tokens = ap (λ (vs : List Token). t ∷ vs) p.tokens ∙ sym e; within = (le, p.within) }

  abbrev pub last_token : (d : ℕ) (t : Token) (us ts : List Token) → d ≤ limit → ts ≡ t ∷ us → us ≡ [] → Placing limit ts
  last_token d t us ts le e f = token_before d t us ts le e (no_token us f)

  abbrev pub both : (us vs ts : List Token) → ts ≡ us ++ vs → Placing limit us → Placing limit vs → Placing limit ts
  both us vs ts e p q =
      record {
        placed = p.placed ++ q.placed;
        tokens = tokens-join p.placed q.placed ∙ ap (λ (x : List Token). x ++ tokens_of q.placed) p.tokens ∙ ap (λ (x : List Token). us ++ x) q.tokens ∙ sym e;
        within = within-join limit p.placed q.placed p.within q.within;
      }

-- tokens that end in a semicolon; each but the semicolon has its depth
pub record Ended (limit : ℕ) (ts : List Token) : Type 0 where
  pub front : List Token
  pub semi : Token
  pub parts : ts ≡ front ++ semi ∷ []
  pub is : semi.tok ≡ tok.Sym symbol.Semi
  pub placing : Placing limit front

module _ (limit : ℕ) where
  abbrev pub ended : (us : List Token) (s : Token) (ts : List Token) → s.tok ≡ tok.Sym symbol.Semi → ts ≡ us ++ s ∷ [] → Placing limit us → Ended limit ts
  ended us s ts k e p = record { front = us; semi = s; parts = e; is = k; placing = p }

  abbrev pub ended_token : (d : ℕ) (t : Token) (us ts : List Token) → d ≤ limit → ts ≡ t ∷ us → Ended limit us → Ended limit ts
  ended_token d t us ts le e r =
      record {
        front = t ∷ r.front;
        semi = r.semi;
        parts = e ∙ ap (λ (x : List Token). t ∷ x) r.parts;
        is = r.is;
        placing = token_before limit d t r.front (t ∷ r.front) le refl r.placing;
      }

  abbrev pub ended_both : (us vs ts : List Token) → ts ≡ us ++ vs → Placing limit us → Ended limit vs → Ended limit ts
  ended_both us vs ts e p r =
      record {
        front = us ++ r.front;
        semi = r.semi;
        parts = e ∙ ap (λ (x : List Token). us ++ x) r.parts ∙ sym (append_assoc us r.front (r.semi ∷ []));
        is = r.is;
        placing = both limit us r.front (us ++ r.front) refl p r.placing;
      }
