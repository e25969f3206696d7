-- Texts that are programs, and refusals of others.
use Rattle.std.proofs.Common.{ℕ, ◌+◌, ◌≤◌, ◌≡◌, ◌≢◌, inl, inr, refl, sym, ap, ◌∙◌, Bool, true, cond, nat_lt, List, [], ◌∷◌, ◌++◌, length, length-append, drop, Option, Some, None, Result, Ok, Err, arith}
use Rattle.std.proofs.lemmas.Bool.Decides.{nat_tests}
use Rattle.std.proofs.Math.Seq.{drop-append_seam}
use Rattle.std.specs.Prelude.{IfSome, IfOk, IfErr}
use Rattle.vcp_outside.specs.ReadAll.{ReadsAll, Takes}
use Rattle.vcp_outside.specs.declared.reading.ReadAll.{ReadAll}
use Rattle.vcp_outside.specs.declared.reading.ReadAll.TheVariants as reading
use Rattle.vcp_outside.specs.Held.{Held}
use Rattle.vcp_base.specs.Limits.{most_depth, most_rows_bytes, most_source_bytes}
use Rattle.vcp_base.specs.declared.columns.Column.{Column}
use Rattle.input_rows.specs.RowsOf.{rows_of}
use Rattle.vcp_inputs.specs.Forms.{file}
use Rattle.st_lexer.specs.declared.token.Token.{Token}
use Rattle.st_lexer.specs.Reading.{Reads}
use Rattle.st_tree.specs.Spelling.{Spells, SpellsWithin}
use Rattle.st_tree.specs.Declarable.{HasNames}
use Rattle.st_tree.specs.ProgramTree.{ProgramTree}
use Rattle.vcp_inputs.specs.declared.refusal.Refusal.{Refusal}
use Rattle.vcp_inputs.specs.declared.refusal.Refusal.TheVariants as refusal
use Rattle.vcp_inputs.specs.declared.refusal.NoInput.{NoInput}
use Rattle.vcp_inputs.specs.declared.refusal.NoInput.TheVariants as input
use Rattle.vcp_inputs.specs.Files.{Untaken, long, short, LeavesLong, NotLoaded, Loads, FileRead}
use Rattle.vcp_inputs.specs.Programs.{IsProgram, NoProgram, NotTyped, no_program}
use Rattle.vcp_inputs.specs.Refusals as none
use Rattle.vcp_inputs.specs.RowsOutcome.{Opens, file_outcome, rows_or_refusal, rows_outcome}
use Rattle.vcp_inputs.specs.RowsOutcome as outcome

-- the parser's program is the text's
pub is_program : (text : List ℕ) (ts : List Token) (p : ProgramTree) → Reads text ts → SpellsWithin most_depth p text ts
    → ((q : ProgramTree) → Spells q text ts → p ≡ q) → IsProgram text p
is_program text ts p reads spells only = record { tokens = ts; reads = reads; spells = spells; only = λ q s. sym (only q s) }

-- each name that the text's program declares may be declared
pub has_names : (text : List ℕ) (p : ProgramTree)
    → ((q : ProgramTree) (t : List ℕ) (ts : List Token) → Reads t ts → length t ≤ most_source_bytes → Spells q t ts → HasNames q)
    → length text ≤ most_source_bytes → IsProgram text p → HasNames p
has_names text p law few is = law p text is.tokens is.reads few (is.spells.0, is.spells.1, is.spells.2)

-- a text without a program has no typed one
pub without_tree : (text : List ℕ) (e : NoInput) → Untaken (NoProgram text) e → Untaken (NotTyped text) e
without_tree text input.Unread h = h
without_tree text (input.Refused r) h = no_program r h
without_tree text input.Memory h = tt

-- ---- files

pub if_some_weaker : {X : Type 0} (o : Option X) (P Q : X → Type 0) → ((x : X) → P x → Q x) → IfSome o P → IfSome o Q
if_some_weaker None P Q f h = tt
if_some_weaker (Some x) P Q f h = f x h

-- reading a whole file, and its refusals
pub file_unread : (held : Held) (name : List ℕ) (limit b n : ℕ) (r : ReadAll) → ReadsAll held name limit b n (Err r)
    → FileRead held name limit b n (Err (none.unread r))
file_unread held name limit b n reading.Failed h = h
file_unread held name limit b n reading.TooLong (bytes, is, l) = (bytes, is, long l)
file_unread held name limit b n reading.Memory h = tt

-- one that is too long is left behind one byte more than the limit
pub file_left : (held : Held) (name : List ℕ) (limit : ℕ) (rest : Option (List ℕ)) (r : ReadAll) → none.unread r ≡ input.Refused refusal.Bytes
    → Takes held name limit rest (Err r) → LeavesLong name limit rest held
file_left held name limit rest reading.Failed is h = absurd cc
file_left held name limit rest reading.TooLong is (front, left, found, left_is, least, most) =
    let taken : length front ≡ limit + 1 = omega (arith, least, most) in (
      front ++ left,
      found,
      simp length-append (omega (arith, least)),
      left_is ∙ ap Some (sym (ap (λ n. drop n (front ++ left)) (sym taken) ∙ drop-append_seam front left)),
    )
file_left held name limit rest reading.Memory is h = absurd cc

-- where the files didn't fail, their count is what it was
pub file_stays : {V W : Type 0} (b n : ℕ) (r : ReadAll) (x : Result V ReadAll) (y : Result W NoInput) → x ≡ Err r → y ≡ Err (none.unread r)
    → (x ≢ Err reading.Failed → n ≡ b) → y ≢ Err input.Unread → n ≡ b
file_stays b n reading.Failed x y is so h other = absurd (other so)
file_stays b n reading.TooLong x y is so h other = h (λ e. cc)
file_stays b n reading.Memory x y is so h other = h (λ e. cc)

-- the same refusal of another value
pub same_error : {V W : Type 0} (i j : NoInput) (x : Result V NoInput) (y : Result W NoInput) → x ≡ Err i → y ≡ Err i → y ≡ Err j → x ≡ Err j
same_error i j x y is so e = let same : i ≡ j = cc in is ∙ ap Err same

pub same_stays : {V W : Type 0} (b n : ℕ) (i : NoInput) (x : Result V NoInput) (y : Result W NoInput) → x ≡ Err i → y ≡ Err i
    → (x ≢ Err input.Unread → n ≡ b) → y ≢ Err input.Unread → n ≡ b
same_stays b n i x y is so h other = h (λ e. other (same_error i input.Unread y x so is e))

-- a file that isn't read isn't loaded
pub not_read : (Why : List ℕ → Refusal → Type 0) (held : Held) (name : List ℕ) (limit b n : ℕ) (i : NoInput) → FileRead held name limit b n (Err i)
    → NotLoaded Why held name limit b n i
not_read Why held name limit b n input.Unread h = h
not_read Why held name limit b n (input.Refused r) (text, is, long l) = (text, is, long l)
not_read Why held name limit b n (input.Refused r) (text, is, short _ l never) = absurd never
not_read Why held name limit b n input.Memory h = tt

-- a file that is read and taken
module _ {V : Type 0} (Is : List ℕ → V → Type 0) (Why : List ℕ → Refusal → Type 0) (held : Held) (name : List ℕ) (limit b n : ℕ) (bytes : List ℕ) where
  pub taken : (v : V) → FileRead held name limit b n (Ok bytes) → Is bytes v → Loads Is Why held name limit b n (Ok v)
  taken v (text, found, l, same) is = (bytes, rw same found, rw same l, is)

  pub not_taken : (i : NoInput) → FileRead held name limit b n (Ok bytes) → Untaken (Why bytes) i → NotLoaded Why held name limit b n i
  not_taken input.Unread read h = absurd h
  not_taken (input.Refused r) (text, found, l, same) why = (bytes, rw same found, short r (rw same l) why)
  not_taken input.Memory read h = tt

  pub by_result : (r : Result V NoInput) → FileRead held name limit b n (Ok bytes) → IfOk r (Is bytes) → IfErr r (Untaken (Why bytes))
      → Loads Is Why held name limit b n r
  by_result (Ok v) read is none = taken v read is
  by_result (Err i) read is none = not_taken i read none

-- rows whose file isn't read, for some columns
pub rows_unread : (held : Held) (name : List ℕ) (columns : List Column) (b n : ℕ) (i : NoInput) → length columns ≢ 0
    → FileRead held name most_rows_bytes b n (Err i) → Opens (rows_outcome (file name) held columns) b n (Err i)
rows_unread held name [] b n i some h = absurd (some refl)
rows_unread held name (c ∷ columns) b n input.Unread some (inl none) = inl (ap (file_outcome (c ∷ columns)) none)
rows_unread held name (c ∷ columns) b n input.Unread some (inr rose) = inr rose
rows_unread held name (c ∷ columns) b n (input.Refused r) some (text, found, long l) =
    let over : nat_lt most_rows_bytes (length text) ≡ true = grind (arith, nat_tests) in
    ap (file_outcome (c ∷ columns)) found ∙ ap (λ (x : Bool). cond x (outcome.refused refusal.Bytes) (rows_or_refusal (rows_of text (c ∷ columns)))) over
rows_unread held name (c ∷ columns) b n (input.Refused r) some (text, found, short _ l never) = absurd never
rows_unread held name (c ∷ columns) b n input.Memory some h = tt
