-- Programs: what makes a text a program, and why a text is none.
use Rattle.std.specs.Prelude.{ℕ, ◌≡◌, ◌≢◌, List, length}
use Rattle.vcp_base.specs.Limits.{most_depth}
use Rattle.st_lexer.specs.declared.fault.LexFault.{LexFault}
use Rattle.st_lexer.specs.declared.fault.LexFault.TheVariants as lexer
use Rattle.st_lexer.specs.declared.token.Token.{Token}
use Rattle.st_lexer.specs.Reading.{Reads, Faults}
use Rattle.st_lexer.specs.Spots.{spot_at}
use Rattle.st_parser.specs.declared.fault.SyntaxFault.{SyntaxFault}
use Rattle.st_parser.specs.declared.fault.SyntaxFault.TheVariants as syntax
use Rattle.st_parser.specs.Answers.{Refuses as RefusesTokens}
use Rattle.st_tree.specs.Spelling.{Spells, SpellsWithin}
use Rattle.st_tree.specs.declared.program.Program.{Program as TreeOf}
use Rattle.st_tree.specs.ProgramTree.{ProgramTree}
use Rattle.st_tree.specs.ProgramViews.{program_tree}
use Rattle.st_types.specs.declared.fault.TypeFault.{TypeFault}
use Rattle.st_types.specs.declared.fault.TypeFault.TheVariants as typing
use Rattle.st_types.specs.Typing.{IsTyped, Refuses as RefusesTree}
use Rattle.vcp_typed.specs.SourceRun.{Program}
use Rattle.vcp_inputs.specs.declared.refusal.Refusal.{Refusal}
use Rattle.vcp_inputs.specs.declared.refusal.Refusal.TheVariants as refusal

-- the text is this program: its tokens spell it, no token deeper than the limit, and they spell no other
pub record IsProgram (text : List ℕ) (p : ProgramTree) : Type 0 where
  pub tokens : List Token
  pub reads : Reads text tokens
  pub spells : SpellsWithin most_depth p text tokens
  pub only : (q : ProgramTree) → Spells q text tokens → q ≡ p

-- the text is the program whose tree this is
abbrev pub IsTreeOf : List ℕ → TreeOf → Type 0
IsTreeOf text p = IsProgram text (program_tree p)

-- The text is no program: it can't be read on as tokens; or its tokens begin no program, or spell none, or go deeper than
-- the limit.
pub data NoProgram (text : List ℕ) : Refusal → Type 0 where
  unlexed : (f : LexFault) → f ≢ lexer.Memory → Faults text f → NoProgram text (refusal.Lexing f)
  unparsed : (ts : List Token) (f : SyntaxFault) → f ≢ syntax.Memory → Reads text ts → RefusesTokens text ts (spot_at text (length text)) f
      → NoProgram text (refusal.Parsing f)

-- the text is a program, and this is its typed one
pub record TypedOf (text : List ℕ) (t : Program) : Type 0 where
  pub tree : ProgramTree
  pub program : IsProgram text tree
  pub typed : IsTyped tree t

-- the text has no typed program: it is no program, or typing refuses the one that it is
pub data NotTyped (text : List ℕ) : Refusal → Type 0 where
  no_program : (r : Refusal) → NoProgram text r → NotTyped text r
  mistyped : (p : ProgramTree) (f : TypeFault) → IsProgram text p → f ≢ typing.Memory → RefusesTree p f → NotTyped text (refusal.Typing f)
