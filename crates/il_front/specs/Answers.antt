-- Answers: which texts are instruction lists, and why a text is none.
use Rattle.std.specs.Prelude.{◌≡◌, ◌≢◌, ℕ, ◌<◌, ◌≤◌, List, length, Some, None, Result, Ok, Err}
use Rattle.vcp_base.specs.Limits.{most_depth, most_names, most_size}
use Rattle.vcp_base.specs.declared.spot.Spot.{Spot}
use Rattle.st_lexer.specs.declared.fault.LexFault.{LexFault}
use Rattle.st_lexer.specs.declared.fault.LexFault.TheVariants as lexer
use Rattle.st_lexer.specs.declared.token.Token.{Token}
use Rattle.st_lexer.specs.Reading.{Reads, Faults}
use Rattle.st_lexer.specs.Spots.{spot_at}
use Rattle.st_parser.specs.declared.fault.SyntaxFault.{SyntaxFault}
use Rattle.st_parser.specs.declared.fault.SyntaxFault.TheVariants as syntax
use Rattle.st_parser.specs.Answers.{Refuses as RefusesTokens}
use Rattle.st_tree.specs.Spelling.{SpellsWithin}
use Rattle.st_tree.specs.ProgramTree.{ProgramTree}
use Rattle.st_tree.specs.Declarable.{names_of}
use Rattle.st_types.specs.declared.fault.TypeFault.{TypeFault}
use Rattle.st_types.specs.declared.fault.TypeFault.TheVariants as typing
use Rattle.st_types.specs.Typing.{IsTyped, Refuses as RefusesTree}
use Rattle.vcp_typed.specs.declared.slot.Slot.{Slot}
use Rattle.vcp_typed.specs.SourceRun.{Program}
use Rattle.vcp_typed.specs.Size.{size}
use Rattle.il_front.specs.declared.fault.IlFault.{IlFault}
use Rattle.il_front.specs.declared.fault.IlFault.TheVariants as fault
use Rattle.il_front.specs.Accumulator.{Instruction, Il}
use Rattle.il_front.specs.Lines.{ended, head_tokens, head_end, behind_head, lines_of}
use Rattle.il_front.specs.Judging.{listed}
use Rattle.il_front.specs.TypedForm.{first_reserved, typed_il}

-- the most bytes of a text of instructions: those of a source without the twelve that are added behind it
abbrev pub most_il_bytes : ℕ
most_il_bytes = 1048564

-- the head of the text, which has these tokens, spells this program of Structured Text, no token deeper than the limit
abbrev pub IsHead : List ℕ → List Token → ProgramTree → Type 0
IsHead text tokens tree = SpellsWithin most_depth tree (ended text) (head_tokens text tokens)

-- the text has these tokens, and its head this typed program
pub record IsBegun (text : List ℕ) (tokens : List Token) (tree : ProgramTree) (head : Program) : Type 0 where
  pub reads : Reads text tokens
  pub spelled : IsHead text tokens tree
  pub typed : IsTyped tree head

-- the instructions of the lines behind the head, over its variables, or the fault of the first line that has one
abbrev pub listed_in : List ℕ → List Token → List Slot → Result (List Instruction) IlFault
listed_in text tokens slots = listed text slots (spot_at text (length text)) None (lines_of (behind_head tokens))

-- the instruction list has no more variables than a program may have names, those of the accumulator among them
abbrev pub IsFew : Il → Type 0
IsFew i = length (typed_il i).slots ≤ most_names

-- The text is this instruction list: it has neither a fault nor more variables nor a greater Size than a program may have.
pub record IsIl (text : List ℕ) (i : Il) : Type 0 where
  pub tokens : List Token
  pub tree : ProgramTree
  pub head : Program
  pub begun : IsBegun text tokens tree head
  pub free : first_reserved (names_of tree) ≡ None
  pub slots : i.slots ≡ head.slots
  pub code : listed_in text tokens i.slots ≡ Ok i.code
  pub few : IsFew i
  pub room : size (typed_il i) ≤ most_size

-- the place that is reported where the variables of the accumulator are too many
abbrev pub first_place : Spot
first_place = record { line = 1; col = 1 }

-- Why a text is no instruction list. A later cause is reported only where no earlier one is: the text's tokens, its head,
-- its names, its lines, its limits. Of want of memory nothing is said.
pub data NotIl (text : List ℕ) : IlFault → Type 0 where
  unlexed : (f : LexFault) → f ≢ lexer.Memory → Faults text f → NotIl text (fault.Lex f)
  unparsed : (ts : List Token) (f : SyntaxFault) → f ≢ syntax.Memory → Reads text ts
      → RefusesTokens (ended text) (head_tokens text ts) (head_end text ts) f → NotIl text (fault.Syntax f)
  mistyped : (ts : List Token) (tree : ProgramTree) (f : TypeFault) → f ≢ typing.Memory → Reads text ts → IsHead text ts tree
      → RefusesTree tree f → NotIl text (fault.Types f)
  reserved : (ts : List Token) (tree : ProgramTree) (head : Program) (spot : Spot) → IsBegun text ts tree head
      → first_reserved (names_of tree) ≡ Some spot → NotIl text (fault.Reserved spot)
  misread : (ts : List Token) (tree : ProgramTree) (head : Program) (f : IlFault) → IsBegun text ts tree head
      → first_reserved (names_of tree) ≡ None → listed_in text ts head.slots ≡ Err f → NotIl text f
  crowded : (ts : List Token) (tree : ProgramTree) (head : Program) (i : Il) → IsBegun text ts tree head
      → first_reserved (names_of tree) ≡ None → i.slots ≡ head.slots → listed_in text ts i.slots ≡ Ok i.code
      → most_names < length (typed_il i).slots → NotIl text (fault.Types (typing.Names first_place))
  too_large : (ts : List Token) (tree : ProgramTree) (head : Program) (i : Il) → IsBegun text ts tree head
      → first_reserved (names_of tree) ≡ None → i.slots ≡ head.slots → listed_in text ts i.slots ≡ Ok i.code
      → IsFew i → most_size < size (typed_il i) → NotIl text (fault.Types typing.Size)
  no_memory : NotIl text fault.Memory
