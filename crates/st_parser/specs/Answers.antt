-- Answers: what is promised of the parser's answers.
-- A token is too deep behind those before it where some program's spelling begins with them and it, and gives
-- it a depth above 64.
use Rattle.std.specs.Prelude.{◌≡◌, ◌⊎◌, ℕ, List, [], ◌∷◌, ◌++◌, ◌<◌, Result, Ok, Err}
use Rattle.vcp_base.specs.Limits.{most_depth}
use Rattle.vcp_base.specs.declared.spot.Spot.{Spot}
use Rattle.st_lexer.specs.declared.token.Token.{Token}
use Rattle.st_tree.specs.declared.program.Program.{Program}
use Rattle.st_tree.specs.ProgramTree.{ProgramTree}
use Rattle.st_tree.specs.ProgramViews.{program_tree}
use Rattle.st_tree.specs.Spelling.{Spells, Begins, Depth}
use Rattle.st_parser.specs.declared.fault.SyntaxFault.{SyntaxFault}
use Rattle.st_parser.specs.declared.fault.SyntaxFault.TheVariants as fault

-- Behind the tokens before it, t is too deep: some program's spelling begins with those tokens and t, and gives t a depth
-- above the limit. The bytes of names are left aside.
abbrev pub IsTooDeep : List Token → Token → Type 0
IsTooDeep before t = (d : ℕ) × Depth before t d × (most_depth < d)

-- none of the tokens is too deep, behind those before it
abbrev pub NoneTooDeep : List Token → Type 0
NoneTooDeep ts = (before behind : List Token) (t : Token) → ts ≡ before ++ t ∷ behind → IsTooDeep before t → ⊥

-- The token at the spot is the first such that the tokens through it begin no program: those before it begin one, and with
-- it they begin none. None before it is too deep.
abbrev pub FirstWrong : List Token → Spot → Type 0
FirstWrong ts spot =
    (before : List Token) × (t : Token) × (behind : List Token)
    × (ts ≡ before ++ t ∷ behind) × (spot ≡ t.spot) × Begins before × (Begins (before ++ t ∷ []) → ⊥) × NoneTooDeep before

-- the spot is the end's; the tokens begin a program, and spell none; none of them is too deep
abbrev pub EndsEarly : List ℕ → List Token → Spot → Spot → Type 0
EndsEarly text ts end spot = (spot ≡ end) × Begins ts × ((p : ProgramTree) → Spells p text ts → ⊥) × NoneTooDeep ts

-- the token at the spot is the first that is too deep
abbrev pub FirstTooDeep : List Token → Spot → Type 0
FirstTooDeep ts spot =
    (before : List Token) × (t : Token) × (behind : List Token)
    × (ts ≡ before ++ t ∷ behind) × (spot ≡ t.spot) × IsTooDeep before t × NoneTooDeep before

-- why the tokens are refused; of want of memory nothing is said
abbrev pub Refuses : List ℕ → List Token → Spot → SyntaxFault → Type 0
Refuses text ts end (fault.Syntax spot) = FirstWrong ts spot ⊎ EndsEarly text ts end spot
Refuses text ts end (fault.Depth spot) = FirstTooDeep ts spot
Refuses text ts end fault.Memory = Unit {0}

-- the answer is this program, or want of memory
abbrev pub IsAnswered : Result Program SyntaxFault → ProgramTree → Type 0
IsAnswered (Ok q) p = program_tree q ≡ p
IsAnswered (Err fault.Memory) p = Unit {0}
IsAnswered (Err (fault.Syntax spot)) p = ⊥
IsAnswered (Err (fault.Depth spot)) p = ⊥
