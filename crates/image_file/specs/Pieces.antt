-- Pieces of a format: what may be there, how it is spelled, and which fault bytes have that begin with no such piece.
-- A piece of the format is defined once with four sides: which values may be there, how each is spelled,
-- which fault bytes have that begin with no such piece, and what is read at the front of bytes. Fields,
-- names, inputs, outputs, cells and turn nodes are such pieces, each given those before it.
use Rattle.std.specs.Prelude.{◌≡◌, ℕ, zero, suc, ◌*◌, ◌^◌, ◌<◌, ◌==◌, ◌≢◌, nat_lt, Bool, true, false, cond, List, [], ◌∷◌, ◌++◌, length, take, drop, Option, Some, None, Result, Ok, Err, ◌⊎◌}
use Rattle.std.specs.Int.{Width, byte_len, from_be_bytes, to_be_bytes}
use Rattle.op_graph.specs.Rules.{Each}
use Rattle.image_file.specs.declared.fields.fault.FieldFault.{FieldFault}
use Rattle.image_file.specs.declared.fields.fault.FieldFault.TheVariants.{Short, Rest}
use Rattle.image_file.specs.declared.fields.fault.ReadError.{ReadError}
use Rattle.image_file.specs.declared.fields.fault.ReadError.TheVariants as errors

infixl 10 ◌>>=◌
abbrev pub ◌>>=◌ : {A B : Type 0} → Result A FieldFault → (A → Result B FieldFault) → Result B FieldFault
(Ok x) >>= f = f x
(Err e) >>= f = Err e

-- One piece of a format. A fault counts the bytes from its place to the end.
pub record FormatPiece (Y : Type 0) : Type 1 where
  -- the value is allowed here
  pub fits : Y → Type 0
  -- the one spelling of a value
  pub spell : Y → List ℕ
  -- the bytes begin with no piece of this kind, and this is the fault of it
  pub faulty : List ℕ → FieldFault → Type 0
  -- the piece at the front, and the bytes after it
  pub read : List ℕ → Result (Y × List ℕ) FieldFault

-- ---- one field

-- A field of so many bytes. Its number stands for a value by `of`, and `code` is the number of a value.
-- It may hold the values that pass `ok`; another number, when it is whole, has the fault `bad`.
abbrev pub passes : {A : Type 0} → (A → Bool) → Option A → Bool
passes ok None = false
passes ok (Some a) = ok a

abbrev pub checked : {A : Type 0} → Option A → (A → Bool) → FieldFault → List ℕ → Result (A × List ℕ) FieldFault
checked None ok bad rest = Err bad
checked (Some a) ok bad rest = cond (ok a) (Ok (a, rest)) (Err bad)

abbrev pub number_at : Width → List ℕ → Result (ℕ × List ℕ) FieldFault
number_at w bytes = cond (nat_lt (length bytes) (byte_len w)) (Err Short) (Ok (from_be_bytes w (take (byte_len w) bytes), drop (byte_len w) bytes))

-- the field is whole, and its number breaks the rule
abbrev pub Breaks : {A : Type 0} → Width → (ℕ → Option A) → (A → Bool) → (ℕ → ℕ → FieldFault) → List ℕ → FieldFault → Type 0
Breaks w of ok bad bytes f =
    (n : ℕ) × (rest : List ℕ) × (bytes ≡ to_be_bytes w n ++ rest) × (n < 2 ^ (8 * byte_len w)) × (passes ok (of n) ≡ false)
    × (f ≡ bad (length bytes) n)

-- the bytes end within the field
abbrev pub Ends : ℕ → List ℕ → FieldFault → Type 0
Ends n bytes f = (length bytes < n) × (f ≡ Short)

abbrev pub field : {A : Type 0} → Width → (ℕ → Option A) → (A → ℕ) → (A → Type 0) → (A → Bool) → (ℕ → ℕ → FieldFault) → FormatPiece A
field w of code In ok bad = record {
  fits = λ a. In a × (ok a ≡ true);
  spell = λ a. to_be_bytes w (code a);
  faulty = λ bytes f. Ends (byte_len w) bytes f ⊎ Breaks w of ok bad bytes f;
  read = λ bytes. number_at w bytes >>= λ n. checked (of n.0) ok (bad (length bytes) n.0) n.1;
}

-- a field of one byte
abbrev pub byte_at : List ℕ → Result (ℕ × List ℕ) FieldFault
byte_at [] = Err Short
byte_at (b ∷ rest) = Ok (b, rest)

abbrev pub byte_field : {A : Type 0} → (ℕ → Option A) → (A → ℕ) → (A → Type 0) → (A → Bool) → (ℕ → FieldFault) → FormatPiece A
byte_field of code In ok bad = record {
  fits = λ a. In a × (ok a ≡ true);
  spell = λ a. code a ∷ [];
  faulty = λ bytes f.
      Ends 1 bytes f
      ⊎ ((n : ℕ) × (rest : List ℕ) × (bytes ≡ n ∷ rest) × (passes ok (of n) ≡ false) × (f ≡ bad (length bytes)));
  read = λ bytes. byte_at bytes >>= λ n. checked (of n.0) ok (bad (length bytes)) n.1;
}

-- so many bytes, which pass
abbrev pub text_field : ℕ → (List ℕ → Bool) → (ℕ → FieldFault) → FormatPiece (List ℕ)
text_field n ok bad = record {
  fits = λ t. (length t ≡ n) × (ok t ≡ true);
  spell = λ t. t;
  faulty = λ bytes f.
      Ends n bytes f
      ⊎ ((t : List ℕ) × (rest : List ℕ) × (bytes ≡ t ++ rest) × (length t ≡ n) × (ok t ≡ false) × (f ≡ bad (length bytes)));
  read = λ bytes. cond (nat_lt (length bytes) n) (Err Short) (checked (Some (take n bytes)) ok (bad (length bytes)) (drop n bytes));
}

-- ---- pieces after one another

-- A piece, and then others, which may depend on it. `p` is what the whole says of the first.
-- The first has the fault; or the bytes begin with the first, and the others have it.
abbrev pub before : {A Y : Type 0} → FormatPiece A → (Y → A) → (A → FormatPiece Y) → FormatPiece Y
before first p others = record {
  fits = λ y. first.fits (p y) × (others (p y)).fits y;
  spell = λ y. first.spell (p y) ++ (others (p y)).spell y;
  faulty = λ bytes f. first.faulty bytes f ⊎ ((a : _) × (rest : List ℕ) × first.fits a × (bytes ≡ first.spell a ++ rest) × (others a).faulty rest f);
  read = λ bytes. first.read bytes >>= λ x. (others x.0).read x.1;
}

-- No more fields: the value is whole. It fits whatever it is, so a field that is left out in a definition passes here without a word; what is read shows
-- it, since a value is built there from its fields.
abbrev pub whole : {Y : Type 0} → Y → FormatPiece Y
whole y = record {
  fits = λ z. Unit {0};
  spell = λ z. [];
  faulty = λ bytes f. ⊥;
  read = λ bytes. Ok (y, bytes);
}

-- ---- entries, each of which may depend on those before it

abbrev pub entries : {X : Type 0} → (List X → X → List ℕ) → List X → List X → List ℕ
entries spell earlier [] = []
entries spell earlier (x ∷ xs) = spell earlier x ++ entries spell (earlier ++ x ∷ []) xs

-- fewer than n entries stand there, and the next one has the fault
abbrev pub entry_faulty : {X : Type 0} → ℕ → (List X → FormatPiece X) → List X → List ℕ → FieldFault → Type 0
entry_faulty zero piece earlier bytes f = ⊥
entry_faulty (suc n) piece earlier bytes f =
    (piece earlier).faulty bytes f
    ⊎ ((x : _) × (rest : List ℕ) × (piece earlier).fits x × (bytes ≡ (piece earlier).spell x ++ rest)
    × entry_faulty n piece (earlier ++ x ∷ []) rest f)

abbrev pub many : {X : Type 0} → ℕ → (List X → List ℕ → Result (X × List ℕ) FieldFault) → List X → List ℕ → Result (List X × List ℕ) FieldFault
many zero read earlier bytes = Ok ([], bytes)
many (suc n) read earlier bytes = do
  first ← read earlier bytes
  others ← many n read (earlier ++ first.0 ∷ []) first.1
  Ok (first.0 ∷ others.0, others.1)

abbrev pub listed : {X : Type 0} → ℕ → (List X → FormatPiece X) → FormatPiece (List X)
listed n piece = record {
  fits = λ xs. (length xs ≡ n) × Each (λ b. (piece b).fits) [] xs;
  spell = λ xs. entries (λ b. (piece b).spell) [] xs;
  faulty = λ bytes f. entry_faulty n piece [] bytes f;
  read = λ bytes. many n (λ b. (piece b).read) [] bytes;
}

-- ---- all of the bytes

-- a piece and nothing after it: bytes that are left have the fault Rest
abbrev pub FaultOf : {Y : Type 0} → FormatPiece Y → List ℕ → FieldFault → Type 0
FaultOf piece bytes f =
    piece.faulty bytes f
    ⊎ ((y : _) × (rest : List ℕ) × piece.fits y × (bytes ≡ piece.spell y ++ rest) × (rest ≢ []) × (f ≡ Rest (length rest)))

abbrev pub read_all : {Y : Type 0} → FormatPiece Y → List ℕ → Result Y FieldFault
read_all piece bytes = do
  y ← piece.read bytes
  cond (length y.1 == 0) (Ok y.0) (Err (Rest (length y.1)))

-- ---- what code returned

-- the reading has the fault, unless memory ran out
abbrev pub Fails : {Y : Type 0} → ReadError → Result Y FieldFault → Type 0
Fails errors.Memory read = Unit {0}
Fails (errors.FieldFault f) read = read ≡ Err f

-- what a function returned, seen by view, is what reading gives, or the fault, unless memory ran out
abbrev pub Gives : {X Y : Type 0} → (X → Y) → Result X ReadError → Result Y FieldFault → Type 0
Gives view (Ok x) read = read ≡ Ok (view x)
Gives view (Err e) read = Fails e read
