-- Causes: no refusal is want of memory.
use Rattle.std.proofs.Common.{ℕ, ◌≡◌, ◌≢◌, IsSome, refl, sym, subst, Bool, true, false, cond, List, [], ◌∷◌, length, Option, Some, None, Result, Ok, Err}
use Rattle.vcp_base.specs.declared.spot.Spot.{Spot}
use Rattle.vcp_base.specs.declared.ty.Ty.{Ty}
use Rattle.vcp_base.specs.declared.ty.Ty.TheVariants as ty
use Rattle.vcp_typed.specs.declared.slot.Slot.{Slot}
use Rattle.st_lexer.specs.declared.token.Token.{Token}
use Rattle.st_lexer.specs.Spots.{spot_at}
use Rattle.st_lexer.specs.declared.fault.LexFault.{LexFault}
use Rattle.st_lexer.specs.declared.fault.LexFault.TheVariants as lexer
use Rattle.st_parser.specs.declared.fault.SyntaxFault.{SyntaxFault}
use Rattle.st_parser.specs.declared.fault.SyntaxFault.TheVariants as syntax
use Rattle.st_types.specs.declared.fault.TypeFault.{TypeFault}
use Rattle.st_types.specs.declared.fault.TypeFault.TheVariants as typing
use Rattle.il_front.specs.declared.fault.IlFault.{IlFault}
use Rattle.il_front.specs.declared.fault.IlFault.TheVariants as il
use Rattle.il_front.specs.declared.instruction.Instruction.{Instruction}
use Rattle.il_front.specs.Answers.{NotIl, crowded, misread, mistyped, no_memory, reserved, too_large, unlexed, unparsed}
use Rattle.il_front.specs.Judging.{Judged, Line, alone, and_more, faulted, first_spot, formed_line, instruction_of, is_last_word, judged, line_of, listed, loads, meant, meant_line, onto, placed_line, sets, taken, type_behind, typed_line}
use Rattle.il_front.specs.Lines.{behind_head, lines_of}
use Rattle.input_rows.specs.declared.fault.RowFault.{RowFault}
use Rattle.input_rows.specs.declared.fault.RowFault.TheVariants as rows
use Rattle.image_file.specs.declared.fault.ImageFault.{ImageFault}
use Rattle.image_file.specs.declared.fault.ImageFault.TheVariants as image
use Rattle.fault_script.specs.declared.script_fault.ScriptFault.{ScriptFault}
use Rattle.fault_script.specs.declared.script_fault.ScriptFault.TheVariants as script
use Rattle.telegram.specs.declared.script.wire_fault.WireFault.{WireFault}
use Rattle.telegram.specs.declared.script.wire_fault.WireFault.TheVariants as wire
use Rattle.vcp_inputs.specs.declared.refusal.Refusal.{Refusal}
use Rattle.vcp_inputs.specs.declared.refusal.Refusal.TheVariants as refusal
use Rattle.vcp_inputs.specs.declared.refusal.NoInput.{NoInput}
use Rattle.vcp_inputs.specs.declared.refusal.NoInput.TheVariants as input
use Rattle.vcp_inputs.specs.Lines.{diagnostic_of, of_lexing, of_parsing, of_typing}
use Rattle.vcp_inputs.specs.Refusals.{IsCaused}
use Rattle.vcp_inputs.specs.Refusals as none

-- ---- of each layer

pub row_caused : (f : RowFault) → IsCaused (none.no_rows f)
row_caused rows.Header = refl
row_caused (rows.Width row) = refl
row_caused (rows.Cell row column) = refl
row_caused rows.Form = refl
row_caused rows.Cycles = refl
row_caused rows.Cycle = refl
row_caused rows.Memory = tt

pub image_caused : (f : ImageFault) → IsCaused (none.unimaged f)
image_caused (image.Magic at) = refl
image_caused (image.Version at) = refl
image_caused (image.Short at) = refl
image_caused (image.Field at) = refl
image_caused (image.Operand at) = refl
image_caused (image.Table at stored expected) = refl
image_caused (image.Rest at) = refl
image_caused image.Memory = tt

pub script_caused : (f : ScriptFault) → IsCaused (none.unscripted f)
script_caused (script.Form line) = refl
script_caused (script.Site line) = refl
script_caused (script.Early line) = refl
script_caused (script.Kind line) = refl
script_caused (script.Group line) = refl
script_caused (script.Twice line) = refl
script_caused (script.Faults line) = refl
script_caused script.Memory = tt

pub wire_caused : (f : WireFault) → IsCaused (none.unwired f)
wire_caused (wire.Form line) = refl
wire_caused (wire.Range line) = refl
wire_caused (wire.Unsent line) = refl
wire_caused wire.Memory = tt

-- ---- of each layer, where it isn't want of memory

pub lexing_placed : (f : LexFault) → f ≢ lexer.Memory → IsSome (of_lexing f)
lexing_placed (lexer.Byte spot) other = refl
lexing_placed (lexer.Comment spot) other = refl
lexing_placed (lexer.Number spot) other = refl
lexing_placed lexer.Memory other = absurd (other refl)

pub parsing_placed : (f : SyntaxFault) → f ≢ syntax.Memory → IsSome (of_parsing f)
parsing_placed (syntax.Syntax spot) other = refl
parsing_placed (syntax.Depth spot) other = refl
parsing_placed syntax.Memory other = absurd (other refl)

pub typing_placed : (f : TypeFault) → f ≢ typing.Memory → IsSome (of_typing f)
typing_placed (typing.Duplicate spot) other = refl
typing_placed (typing.Unknown spot) other = refl
typing_placed (typing.Mismatch spot) other = refl
typing_placed (typing.Assign spot) other = refl
typing_placed (typing.Bound spot) other = refl
typing_placed (typing.Label spot) other = refl
typing_placed (typing.Call spot) other = refl
typing_placed (typing.Literal spot) other = refl
typing_placed (typing.Names spot) other = refl
typing_placed typing.Size other = refl
typing_placed typing.Memory other = absurd (other refl)

-- ---- of instruction lists: the fault of a line has a place

-- a fault of a reader of instructions that has a place and a code
abbrev IsPlaced : IlFault → Type 0
IsPlaced f = IsSome (diagnostic_of (refusal.Listing f))

abbrev JudgedFine : Judged → Type 0
JudgedFine (taken i t) = Unit {0}
JudgedFine (faulted f) = IsPlaced f

abbrev ListedFine : Result (List Instruction) IlFault → Type 0
ListedFine (Ok is) = Unit {0}
ListedFine (Err f) = IsPlaced f

either : {X : Type 0} (P : X → Type 0) (b : Bool) (x y : X) → P x → P y → P (cond b x y)
either P true x y one other = one
either P false x y one other = other

typed_fine : (i : Instruction) (t : Option Ty) → JudgedFine (typed_line i t)
typed_fine i None = refl
typed_fine i (Some t) = tt

placed_fine : (before : Option Ty) (i : Instruction) → JudgedFine (placed_line before i)
placed_fine None i =
    either JudgedFine (loads i.action) (typed_line i (type_behind ty.Bool i.action)) (faulted (il.Empty i.spot))
    (typed_fine i (type_behind ty.Bool i.action)) refl
placed_fine (Some t) i = typed_fine i (type_behind t i.action)

meant_fine : (before : Option Ty) (l : Line) (m : Option _) → JudgedFine (meant_line before l m)
meant_fine before l None = refl
meant_fine before l (Some m) =
    either JudgedFine (cond (sets l.operator) m.set true) (placed_line before (instruction_of l m.operand)) (faulted (il.Target l.at))
    (placed_fine before (instruction_of l m.operand)) refl

formed_fine : (slots : List Slot) (before : Option Ty) (spot : Spot) (l : Option Line) → JudgedFine (formed_line slots before spot l)
formed_fine slots before spot None = refl
formed_fine slots before spot (Some l) = meant_fine before l (meant slots l.operand)

more_fine : (i : Instruction) (r : Result (List Instruction) IlFault) → ListedFine r → ListedFine (and_more i r)
more_fine i (Ok is) fine = tt
more_fine i (Err f) fine = fine

alone_fine : (spot : Spot) (ls : List (List Token)) → ListedFine (alone spot ls)
alone_fine spot [] = tt
alone_fine spot (l ∷ ls) = refl

onto_fine : (j : Judged) (next : Ty → Result (List Instruction) IlFault) → JudgedFine j → ((t : Ty) → ListedFine (next t)) → ListedFine (onto j next)
onto_fine (taken i t) next fine later = more_fine i (next t) (later t)
onto_fine (faulted f) next fine later = fine

listed_fine : (text : List ℕ) (slots : List Slot) (end : Spot) (before : Option Ty) (ls : List (List Token)) → ListedFine (listed text slots end before ls)
listed_fine text slots end before [] = refl
listed_fine text slots end before (l ∷ ls) =
    either ListedFine (is_last_word l) (alone (first_spot end l) ls)
    (onto (judged text slots before (first_spot end l) l) (λ t. listed text slots end (Some t) ls)) (alone_fine (first_spot end l) ls)
    (onto_fine (judged text slots before (first_spot end l) l) (λ t. listed text slots end (Some t) ls)
    (formed_fine slots before (first_spot end l) (line_of text l)) (λ t. listed_fine text slots end (Some t) ls))

pub listing_placed : (text : List ℕ) (f : IlFault) → NotIl text f → f ≢ il.Memory → IsPlaced f
listing_placed text _ (unlexed f known stops) other = lexing_placed f known
listing_placed text _ (unparsed ts f known reads refused) other = parsing_placed f known
listing_placed text _ (mistyped ts tree f known reads head refused) other = typing_placed f known
listing_placed text _ (reserved ts tree head spot begun is) other = refl
listing_placed text _ (misread ts tree head f begun free is) other =
    subst ListedFine is (listed_fine text head.slots (spot_at text (length text)) None (lines_of (behind_head ts)))
listing_placed text _ (crowded ts tree head i begun free slots code many) other = refl
listing_placed text _ (too_large ts tree head i begun free slots code few large) other = refl
listing_placed text _ no_memory other = absurd (other refl)

-- ---- of files

-- one that isn't read is refused for its bytes alone
pub read_caused : (i : NoInput) → ((r : Refusal) → i ≡ input.Refused r → r ≡ refusal.Bytes) → IsCaused i
read_caused input.Unread long = tt
read_caused (input.Refused r) long = subst (λ (x : Refusal). IsSome (diagnostic_of x)) (sym (long r refl)) refl
read_caused input.Memory long = tt
