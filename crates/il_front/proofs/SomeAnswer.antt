-- SomeAnswer: a text is an instruction list or is refused, and never for want of memory alone.
use Rattle.std.proofs.Common.{◌≡◌, ◌≢◌, ℕ, ◌<◌, ◌≤◌, Bool, true, false, cond, List, [], ◌∷◌, length, Option, Some, None, Result, Ok, Err, refl, arith, ◌⊎◌, inl, inr}
use Rattle.std.proofs.lemmas.Bool.{cases_order}
use Rattle.vcp_base.specs.Limits.{most_depth, most_names, most_size}
use Rattle.vcp_base.specs.declared.spot.Spot.{Spot}
use Rattle.vcp_base.specs.declared.ty.Ty.{Ty}
use Rattle.vcp_base.specs.declared.ty.Ty.TheVariants as ty
use Rattle.st_lexer.specs.declared.fault.LexFault.TheVariants as lexer
use Rattle.st_lexer.specs.declared.fault.Reason.{Reason}
use Rattle.st_lexer.specs.declared.fault.Reason.TheVariants as reason
use Rattle.st_lexer.specs.declared.token.Token.{Token}
use Rattle.st_lexer.specs.Reading.{Reads, LexAt}
use Rattle.st_lexer.specs.Spots.{spot_at}
use Rattle.st_parser.specs.declared.fault.SyntaxFault.{SyntaxFault}
use Rattle.st_parser.specs.declared.fault.SyntaxFault.TheVariants as syntax
use Rattle.st_parser.specs.Answers.{Refuses}
use Rattle.st_tree.specs.Spelling.{SpellsWithin}
use Rattle.st_tree.specs.ProgramTree.{ProgramTree}
use Rattle.st_tree.specs.Declarable.{names_of}
use Rattle.st_types.specs.declared.fault.TypeFault.{TypeFault}
use Rattle.st_types.specs.declared.fault.TypeFault.TheVariants as typing
use Rattle.st_types.specs.Typing.{IsTyped, Refuses as RefusesTree}
use Rattle.vcp_typed.specs.declared.slot.Slot.{Slot}
use Rattle.vcp_typed.specs.SourceRun.{Program}
use Rattle.vcp_typed.specs.Size.{size}
use Rattle.il_front.specs.declared.fault.IlFault.{IlFault}
use Rattle.il_front.specs.declared.fault.IlFault.TheVariants as fault
use Rattle.il_front.specs.Accumulator.{Instruction, Il}
use Rattle.il_front.specs.Judging.{Judged, taken, faulted, Line, Meant, loads, type_behind, typed_line, placed_line, instruction_of, meant, meant_line, sets}
use Rattle.il_front.specs.Judging.{formed_line, line_of, judged, is_last_word, alone, and_more, onto, first_spot, listed}
use Rattle.il_front.specs.Lines.{ended, head_tokens, head_end, behind_head, lines_of}
use Rattle.il_front.specs.TypedForm.{first_reserved, typed_il}
use Rattle.il_front.specs.Answers.{IsHead, IsBegun, listed_in, IsFew, IsIl, NotIl, unlexed, unparsed, mistyped, reserved, misread, crowded, too_large}

-- ---- no line's fault is want of memory

abbrev KnownLine : Judged → Type 0
KnownLine (taken i t) = Unit {0}
KnownLine (faulted f) = f ≢ fault.Memory

abbrev KnownLines : Result (List Instruction) IlFault → Type 0
KnownLines (Ok code) = Unit {0}
KnownLines (Err f) = f ≢ fault.Memory

either_line : (b : Bool) (x y : Judged) → KnownLine x → KnownLine y → KnownLine (cond b x y)
either_line true x y h k = h
either_line false x y h k = k

either_lines : (b : Bool) (x y : Result (List Instruction) IlFault) → KnownLines x → KnownLines y → KnownLines (cond b x y)
either_lines true x y h k = h
either_lines false x y h k = k

typed_known : (i : Instruction) (t : Option Ty) → KnownLine (typed_line i t)
typed_known i None = λ e. absurd cc
typed_known i (Some t) = tt

placed_known : (before : Option Ty) (i : Instruction) → KnownLine (placed_line before i)
placed_known None i =
    either_line (loads i.action) (typed_line i (type_behind ty.Bool i.action)) (faulted (fault.Empty i.spot)) (typed_known i (type_behind ty.Bool i.action))
    (λ e. absurd cc)
placed_known (Some t) i = typed_known i (type_behind t i.action)

meant_known : (before : Option Ty) (l : Line) (m : Option Meant) → KnownLine (meant_line before l m)
meant_known before l None = λ e. absurd cc
meant_known before l (Some m) =
    either_line (cond (sets l.operator) m.set true) (placed_line before (instruction_of l m.operand)) (faulted (fault.Target l.at))
    (placed_known before (instruction_of l m.operand)) (λ e. absurd cc)

formed_known : (slots : List Slot) (before : Option Ty) (spot : Spot) (l : Option Line) → KnownLine (formed_line slots before spot l)
formed_known slots before spot None = λ e. absurd cc
formed_known slots before spot (Some l) = meant_known before l (meant slots l.operand)

alone_known : (spot : Spot) (ls : List (List Token)) → KnownLines (alone spot ls)
alone_known spot [] = tt
alone_known spot (l ∷ ls) = λ e. absurd cc

more_known : (i : Instruction) (r : Result (List Instruction) IlFault) → KnownLines r → KnownLines (and_more i r)
more_known i (Ok code) h = tt
more_known i (Err f) h = h

onto_known : (x : Judged) (next : Ty → Result (List Instruction) IlFault) → KnownLine x → ((t : Ty) → KnownLines (next t)) → KnownLines (onto x next)
onto_known (taken i t) next h k = more_known i (next t) (k t)
onto_known (faulted f) next h k = h

listed_known : (text : List ℕ) (slots : List Slot) (end : Spot) (before : Option Ty) (ls : List (List Token)) → KnownLines (listed text slots end before ls)
listed_known text slots end before [] = λ e. absurd cc
listed_known text slots end before (l ∷ ls) =
    let spot = first_spot end l in
    let next : Ty → Result (List Instruction) IlFault = λ t. listed text slots end (Some t) ls in
    either_lines (is_last_word l) (alone spot ls) (onto (judged text slots before spot l) next) (alone_known spot ls)
    (onto_known (judged text slots before spot l) next (formed_known slots before spot (line_of text l)) (λ t. listed_known text slots end (Some t) ls))

-- ---- every text has an answer

-- it is a list, or is refused for a reason that is known
abbrev pub Answered : List ℕ → Type 0
Answered text = ((i : Il) × IsIl text i) ⊎ ((f : IlFault) × (f ≢ fault.Memory) × NotIl text f)

-- each text has tokens or none, each list of tokens a program or none, each program types or none
pub record Totals : Type 0 where
  pub lexed : (text : List ℕ) → ((ts : List Token) × Reads text ts) ⊎ ((p : ℕ) × (r : Reason) × LexAt text p r)
  pub parsed : (text : List ℕ) (ts : List Token) (end : Spot) → ((p : ProgramTree) × SpellsWithin most_depth p text ts)
      ⊎ ((f : SyntaxFault) × (f ≢ syntax.Memory) × Refuses text ts end f)
  pub typed : (p : ProgramTree) → ((t : Program) × IsTyped p t) ⊎ ((e : TypeFault) × (e ≡ typing.Memory → ⊥) × RefusesTree p e)

few_or_many : (a b : ℕ) → (a ≤ b) ⊎ (b < a)
few_or_many a b = ordered (cases_order a b) where
  ordered : (a ≡ b) ⊎ ((a < b) ⊎ (b < a)) → (a ≤ b) ⊎ (b < a)
  ordered (inl same) = inl (omega (arith, same))
  ordered (inr (inl below)) = inl (omega (arith, below))
  ordered (inr (inr above)) = inr above

module _ (text : List ℕ) (ts : List Token) (tree : ProgramTree) (head : Program) (begun : IsBegun text ts tree head)
    (free : first_reserved (names_of tree) ≡ None) where
  module _ (i : Il) (slots : i.slots ≡ head.slots) (code : listed_in text ts i.slots ≡ Ok i.code) where
    in_size : IsFew i → (size (typed_il i) ≤ most_size) ⊎ (most_size < size (typed_il i)) → Answered text
    in_size few (inl room) = inl (
      i,
      record { tokens = ts; tree = tree; head = head; begun = begun; free = free; slots = slots; code = code; few = few; room = room },
    )
    in_size few (inr large) = inr (fault.Types typing.Size, λ e. absurd cc, too_large ts tree head i begun free slots code few large)

    in_limits : (IsFew i) ⊎ (most_names < length (typed_il i).slots) → Answered text
    in_limits (inl few) = in_size few (few_or_many (size (typed_il i)) most_size)
    in_limits (inr many) = inr (_, λ e. absurd cc, crowded ts tree head i begun free slots code many)

  in_lines : (r : Result (List Instruction) IlFault) → listed_in text ts head.slots ≡ r → KnownLines r → Answered text
  in_lines (Ok code) is known =
      let i : Il = record { slots = head.slots; code = code } in in_limits i refl is (few_or_many (length (typed_il i).slots) most_names)
  in_lines (Err f) is known = inr (f, known, misread ts tree head f begun free is)

module _ (text : List ℕ) (ts : List Token) (tree : ProgramTree) (head : Program) (begun : IsBegun text ts tree head) where
  in_names : (o : Option Spot) → first_reserved (names_of tree) ≡ o → Answered text
  in_names None free =
      in_lines text ts tree head begun free (listed_in text ts head.slots) refl
      (listed_known text head.slots (spot_at text (length text)) None (lines_of (behind_head ts)))
  in_names (Some spot) is = inr (fault.Reserved spot, λ e. absurd cc, reserved ts tree head spot begun is)

stopped : (text : List ℕ) (p : ℕ) (r : Reason) → LexAt text p r → Answered text
stopped text p reason.Byte at = let f = lexer.Byte (spot_at text p) in inr (fault.Lex f, λ e. absurd cc, unlexed f (λ e. absurd cc) (p, at, refl))
stopped text p reason.Comment at = let f = lexer.Comment (spot_at text p) in inr (fault.Lex f, λ e. absurd cc, unlexed f (λ e. absurd cc) (p, at, refl))
stopped text p reason.Number at = let f = lexer.Number (spot_at text p) in inr (fault.Lex f, λ e. absurd cc, unlexed f (λ e. absurd cc) (p, at, refl))

module _ (totals : Totals) (text : List ℕ) where
  in_types : (ts : List Token) → Reads text ts → (tree : ProgramTree) → IsHead text ts tree
      → ((t : Program) × IsTyped tree t) ⊎ ((e : TypeFault) × (e ≡ typing.Memory → ⊥) × RefusesTree tree e) → Answered text
  in_types ts reads tree spelled (inl (head, typed)) =
      in_names text ts tree head (record { reads = reads; spelled = spelled; typed = typed }) (first_reserved (names_of tree)) refl
  in_types ts reads tree spelled (inr (f, known, wrong)) = inr (fault.Types f, λ e. absurd cc, mistyped ts tree f known reads spelled wrong)

  in_head : (ts : List Token) → Reads text ts → ((p : ProgramTree) × SpellsWithin most_depth p (ended text) (head_tokens text ts))
      ⊎ ((f : SyntaxFault) × (f ≢ syntax.Memory) × Refuses (ended text) (head_tokens text ts) (head_end text ts) f) → Answered text
  in_head ts reads (inl (tree, spelled)) = in_types ts reads tree spelled (totals.typed tree)
  in_head ts reads (inr (f, known, wrong)) = inr (fault.Syntax f, λ e. absurd cc, unparsed ts f known reads wrong)

  in_tokens : ((ts : List Token) × Reads text ts) ⊎ ((p : ℕ) × (r : Reason) × LexAt text p r) → Answered text
  in_tokens (inl (ts, reads)) = in_head ts reads (totals.parsed (ended text) (head_tokens text ts) (head_end text ts))
  in_tokens (inr (p, r, at)) = stopped text p r at

  pub answered : Answered text
  answered = in_tokens (totals.lexed text)
