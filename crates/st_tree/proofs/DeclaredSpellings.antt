-- The names that are declared where the tokens of a text spell a program: each is a word of the text.
use Rattle.std.proofs.Common.{◌≡◌, ℕ, zero, suc, ◌+◌, ◌-◌, ◌≤◌, Bool, true, false, cond, ◌&&◌, ◌||◌, List, [], ◌∷◌, ◌++◌, length, take, drop, flat_map, Option, Some}
use Rattle.std.proofs.Common.{None, sym, refl, ap, ◌∙◌, subst, arith, length-take, length-drop}
use Rattle.std.specs.Prelude.{slice_index}
use Rattle.std.specs.List.{list_all, prefix_len}
use Rattle.std.specs.Char.{is_ascii_digit}
use Rattle.std.proofs.lemmas.List.{take-append-le, drop-append-le}
use Rattle.std.proofs.lemmas.List.Elements.{All-nil, All-cons, All-append}
use Rattle.vcp_base.specs.Limits.{most_source_bytes}
use Rattle.vcp_base.specs.Names.{is_letter, is_letter_or_digit, is_name}
use Rattle.st_lexer.specs.declared.token.Key.{Key}
use Rattle.st_lexer.specs.declared.token.Key.TheVariants as key
use Rattle.st_lexer.specs.declared.token.Tok.{Tok}
use Rattle.st_lexer.specs.declared.token.Tok.TheVariants as tok
use Rattle.st_lexer.specs.declared.token.Token.{Token}
use Rattle.st_lexer.specs.declared.piece.Opening.{Opening}
use Rattle.st_lexer.specs.declared.piece.Opening.TheVariants as opens
use Rattle.st_lexer.specs.Reading.{Begins, Stands, StandsAt, Piece, Cover, token_of, tokens_of as tokens_of_pieces, Reads}
use Rattle.st_tree.specs.Declarable.{IsDeclarable, AreDeclarable, HasNames}
use Rattle.st_tree.specs.ProgramTree.{DeclaredTree, DeclTree, BlockTree, ProgramTree}
use Rattle.st_tree.specs.Placed.{Placed, tokens_of}
use Rattle.st_tree.specs.Programs.{SpellsNames, SpellsDecl, SpellsDecls, SpellsBlocks, SpellsProgram, spells_last_name, spells_next_name, spells_decl}
use Rattle.st_tree.specs.Programs.{spells_end_var, spells_next_decl, spells_no_block, spells_block, spells_program}
use Rattle.st_tree.specs.Spelling.{Spells, bytes_in}

-- bytes that are read as a name are those of one
abbrev Says : List ℕ → Tok → Type 0
Says w tok.Name = is_name w ≡ true
Says w (tok.Number t v) = Unit {0}
Says w (tok.Key k) = Unit {0}
Says w (tok.Sym y) = Unit {0}

-- ---- words

one-more : (m b : ℕ) (s : List ℕ) → take (1 + m) (b ∷ s) ≡ b ∷ take m s
one-more m b s = ap (λ k. take k (b ∷ s)) (let more : 1 + m ≡ suc m = omega arith in more)

both-hold : (t u : Bool) → t ≡ true → u ≡ true → (t && u) ≡ true
both-hold t u e f = rw (e, f) refl

word-byte : (t u : Bool) → t ≡ true → (t || u) ≡ true
word-byte true u e = refl
word-byte false u e = absurd cc

all-with : (b : ℕ) (s : List ℕ) (t : Bool) → is_letter_or_digit b ≡ t → list_all is_letter_or_digit (take (prefix_len is_letter_or_digit s) s) ≡ true
    → list_all is_letter_or_digit (take (cond t (1 + prefix_len is_letter_or_digit s) 0) (b ∷ s)) ≡ true
all-with b s true e h = ap (list_all is_letter_or_digit) (one-more (prefix_len is_letter_or_digit s) b s) ∙ both-hold (is_letter_or_digit b) _ e h
all-with b s false e h = refl

-- the bytes of a run are letters, digits and `_`
run : (s : List ℕ) → list_all is_letter_or_digit (take (prefix_len is_letter_or_digit s) s) ≡ true
run [] = refl
run (b ∷ s) = all-with b s (is_letter_or_digit b) refl (run s)

-- a run that begins with a letter is a name
run-is-name : (s : List ℕ) → is_letter (slice_index s 0) ≡ true → is_name (take (prefix_len is_letter_or_digit s) s) ≡ true
run-is-name [] e = absurd (let none : is_letter (slice_index [] 0) ≡ false = refl in cc)
run-is-name (b ∷ s) e =
    let long : prefix_len is_letter_or_digit (b ∷ s) ≡ 1 + prefix_len is_letter_or_digit s = rw (word-byte (is_letter b) (is_ascii_digit b) e) refl in
    ap is_name (ap (λ k. take k (b ∷ s)) long ∙ one-more (prefix_len is_letter_or_digit s) b s) ∙ both-hold (is_letter b) _ e (run s)

-- ---- tokens

same-tok : (w : List ℕ) (t u : Tok) → Some t ≡ Some u → Says w u → Says w t
same-tok w t u e h = let same : u ≡ t = cc in subst (Says w) same h

says-name : (w : List ℕ) (t : Tok) → is_name w ≡ true → Says w t
says-name w tok.Name h = h
says-name w (tok.Number t v) h = tt
says-name w (tok.Key k) h = tt
says-name w (tok.Sym y) h = tt

by-opening : (o : Opening) (p : ℕ) (s : List ℕ) (n : ℕ) (t : Tok) → Begins p s o → Stands o s n (Some t) → Says (take n s) t
by-opening opens.Blank p s n t b st = absurd (let e = st.1 in cc)
by-opening opens.OrderMark p s n t b st = absurd (let e = st.1 in cc)
by-opening (opens.Comment last) p s n t b st = absurd (let e = st.1 in cc)
by-opening opens.LineComment p s n t b st = absurd (let e = st.1 in cc)
by-opening opens.Word p s n t b st = says-name (take n s) t (ap (λ k. is_name (take k s)) st.0 ∙ run-is-name s b.0)
by-opening (opens.Literal ty) p s n t b st = same-tok (take n s) t (tok.Number ty st.0.value) st.3 tt
by-opening opens.Ampersand p s n t b st = same-tok (take n s) t (tok.Key key.And) st.1 tt
by-opening (opens.Symbol y) p s n t b st = same-tok (take n s) t (tok.Sym y) st.1 tt
by-opening opens.Nothing p s n t b st = absurd st

-- each token is what its bytes are read as
abbrev EachSays : List ℕ → List Token → Type 0
EachSays text [] = Unit {0}
EachSays text (t ∷ ts) = Says (bytes_in text t) t.tok × EachSays text ts

says-one : (text : List ℕ) (p : Piece) (n : ℕ) (o : Option Tok) (ts : List Token) → p.to ≡ p.from + n
    → StandsAt p.from (drop p.from text) n o → EachSays text ts → EachSays text (token_of text p o ++ ts)
says-one text p n None ts e st h = h
says-one text p n (Some t) ts e st h =
    let s = drop p.from text in
    let len : n ≡ p.to - p.from = omega (arith, e) in
    (subst (λ k. Says (take k s) t) len (by-opening st.0 p.from s n t st.1 st.2), h)

says-each : (text : List ℕ) (ps : List Piece) (a b : ℕ) → Cover text ps a b → EachSays text (tokens_of_pieces text ps)
says-each text [] a b c = tt
says-each text (p ∷ ps) a b c = says-one text p c.1.0 p.is (tokens_of_pieces text ps) c.1.2 c.1.4 (says-each text ps p.to b c.2)

reading-says : (text : List ℕ) (ts : List Token) → Reads text ts → EachSays text ts
reading-says text ts r = subst (EachSays text) (sym r.2) (says-each text r.0 0 (length text) r.1)

-- ---- declarations

-- the same of tokens with their depths
abbrev Each : (Token → List ℕ) → List Placed → Type 0
Each bytes [] = Unit {0}
Each bytes (p ∷ ps) = Says (bytes p.token) p.token.tok × Each bytes ps

each-of : (text : List ℕ) (ps : List Placed) → EachSays text (tokens_of ps) → Each (bytes_in text) ps
each-of text [] h = tt
each-of text (p ∷ ps) h = (h.0, each-of text ps h.1)

parted : (bytes : Token → List ℕ) (ts us : List Placed) → Each bytes (ts ++ us) → Each bytes ts × Each bytes us
parted bytes [] us h = (tt, h)
parted bytes (t ∷ ts) us h = let c = parted bytes ts us h.1 in ((h.0, c.0), c.1)

-- the bytes of a token are no more than those of the text
short-in : (text : List ℕ) (t : Token) → length text ≤ most_source_bytes → length (bytes_in text t) ≤ most_source_bytes
short-in text t short = omega (arith, short, length-take (t.to - t.from) (drop t.from text), length-drop t.from text)

module _ (bytes : Token → List ℕ) (short : (t : Token) → length (bytes t) ≤ most_source_bytes) where
  name-of : (n : Token) → n.tok ≡ tok.Name → Says (bytes n) n.tok → IsDeclarable (bytes n)
  name-of n e h = (short n, subst (Says (bytes n)) e h)

  of-names : {ds : List DeclaredTree} {ts : List Placed} → SpellsNames bytes ds ts → Each bytes ts → AreDeclarable ds
  of-names (spells_last_name n c kn kc) h =
      All-cons (λ (d : DeclaredTree). IsDeclarable d.name) _ [] (name-of n kn h.0) (All-nil (λ (d : DeclaredTree). IsDeclarable d.name))
  of-names (spells_next_name ds n c ts kn kc sa) h = All-cons (λ (d : DeclaredTree). IsDeclarable d.name) _ ds (name-of n kn h.0) (of-names sa h.1.1)

  of-decl : {d : DeclTree} {ts : List Placed} → SpellsDecl bytes d ts → Each bytes ts → AreDeclarable d.names
  of-decl (spells_decl ds ty init t ts us sa k sb) h = of-names sa (parted bytes ts _ h).0

  of-decls : {ds : List DeclTree} {ts : List Placed} → SpellsDecls bytes ds ts → Each bytes ts → AreDeclarable (flat_map (λ d. d.names) ds)
  of-decls (spells_end_var e k) h = All-nil (λ (d : DeclaredTree). IsDeclarable d.name)
  of-decls (spells_next_decl d ds ts us sa sb) h =
      let p = parted bytes ts us h in All-append (λ (d : DeclaredTree). IsDeclarable d.name) d.names _ (of-decl sa p.0) (of-decls sb p.1)

  of-blocks : {bs : List BlockTree} {ts : List Placed} → SpellsBlocks bytes bs ts → Each bytes ts
      → AreDeclarable (flat_map (λ b. flat_map (λ d. d.names) b.decls) bs)
  of-blocks spells_no_block h = All-nil (λ (d : DeclaredTree). IsDeclarable d.name)
  of-blocks (spells_block section ds bs ts us vs sh sa sb) h =
      let p = parted bytes ts (us ++ vs) h in
      let q = parted bytes us vs p.1 in
      All-append (λ (d : DeclaredTree). IsDeclarable d.name) (flat_map (λ d. d.names) ds) _ (of-decls sa q.0) (of-blocks sb q.1)

  of-program : {p : ProgramTree} {ts : List Placed} → SpellsProgram bytes p ts → Each bytes ts → HasNames p
  of-program (spells_program bs body p n e ts us kp kn sa sb ke) h = of-blocks sa (parted bytes ts _ h.1.1).0

-- the names that a program declares which the tokens of a reading spell may be declared
pub has_names : (p : ProgramTree) (text : List ℕ) (ts : List Token) → Reads text ts → length text ≤ most_source_bytes → Spells p text ts → HasNames p
has_names p text ts reads short (ps, spells, is) =
    of-program (bytes_in text) (λ t. short-in text t short) spells (each-of text ps (reading-says text (tokens_of ps) (rw is reads)))

-- ---- a reading's front, with a reserved word behind it

-- each token stands in the text
abbrev EachIn : List ℕ → List Token → Type 0
EachIn text [] = Unit {0}
EachIn text (t ∷ ts) = (t.from ≤ length text) × (t.to ≤ length text) × EachIn text ts

in-one : (text : List ℕ) (p : Piece) (o : Option Tok) (ts : List Token) → p.from ≤ length text → p.to ≤ length text → EachIn text ts
    → EachIn text (token_of text p o ++ ts)
in-one text p None ts f e h = h
in-one text p (Some t) ts f e h = (f, e, h)

in-each : (text : List ℕ) (ps : List Piece) (a b : ℕ) → Cover text ps a b → EachIn text (tokens_of_pieces text ps)
in-each text [] a b c = tt
in-each text (p ∷ ps) a b c =
    let to : p.to ≡ p.from + c.1.0 = c.1.2 in
    let inside : p.to ≤ length text = c.1.3 in
    in-one text p p.is (tokens_of_pieces text ps) (omega (arith, to, inside)) inside (in-each text ps p.to b c.2)

reading-in : (text : List ℕ) (ts : List Token) → Reads text ts → EachIn text ts
reading-in text ts r = subst (EachIn text) (sym r.2) (in-each text r.0 0 (length text) r.1)

-- a token has the same bytes where more stand behind the text
bytes-before : (text more : List ℕ) (t : Token) → t.from ≤ length text → t.to ≤ length text → bytes_in (text ++ more) t ≡ bytes_in text t
bytes-before text more t f e =
    ap (λ (s : List ℕ). take (t.to - t.from) s) (drop-append-le t.from text more f)
    ∙ take-append-le (t.to - t.from) (drop t.from text) more (omega (arith, f, e, length-drop t.from text))

longer-says : (text more : List ℕ) (ts : List Token) → EachSays text ts → EachIn text ts → EachSays (text ++ more) ts
longer-says text more [] h k = tt
longer-says text more (t ∷ ts) h k =
    (subst (λ (w : List ℕ). Says w t.tok) (sym (bytes-before text more t k.0 k.1)) h.0, longer-says text more ts h.1 k.2)

taken-says : (text : List ℕ) (k : ℕ) (ts : List Token) → EachSays text ts → EachSays text (take k ts)
taken-says text zero [] h = tt
taken-says text zero (t ∷ ts) h = tt
taken-says text (suc k) [] h = tt
taken-says text (suc k) (t ∷ ts) h = (h.0, taken-says text k ts h.1)

ended-says : (text : List ℕ) (ts : List Token) (e : Token) (w : Key) → e.tok ≡ tok.Key w → EachSays text ts → EachSays text (ts ++ e ∷ [])
ended-says text [] e w is h = (subst (Says (bytes_in text e)) (sym is) tt, tt)
ended-says text (t ∷ ts) e w is h = (h.0, ended-says text ts e w is h.1)

-- so may those that the first tokens of a reading and a reserved word spell, with more bytes behind the text
pub begun_names : (p : ProgramTree) (text more : List ℕ) (k : ℕ) (ts : List Token) (e : Token) (w : Key) → Reads text ts
    → length (text ++ more) ≤ most_source_bytes → e.tok ≡ tok.Key w → Spells p (text ++ more) (take k ts ++ e ∷ []) → HasNames p
begun_names p text more k ts e w reads short key (ps, spells, is) =
    of-program (bytes_in (text ++ more)) (λ t. short-in (text ++ more) t short) spells
    (each-of (text ++ more) ps
    (subst (EachSays (text ++ more)) (sym is)
    (ended-says (text ++ more) (take k ts) e w key
    (taken-says (text ++ more) k ts (longer-says text more ts (reading-says text ts reads) (reading-in text ts reads))))))
