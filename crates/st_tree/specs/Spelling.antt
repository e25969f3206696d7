-- Spelling: which programs the tokens of a text spell, which tokens begin a program, and the depth of a token.
use Rattle.std.specs.Prelude.{◌≡◌, ℕ, ◌-◌, List, [], ◌∷◌, ◌++◌, take, drop}
use Rattle.st_lexer.specs.declared.token.Token.{Token}
use Rattle.st_tree.specs.ProgramTree.{ProgramTree}
use Rattle.st_tree.specs.Placed.{Placed, at, tokens_of, Within}
use Rattle.st_tree.specs.Programs.{SpellsProgram}

-- the bytes of a token in its text
abbrev pub bytes_in : List ℕ → Token → List ℕ
bytes_in text t = take (t.to - t.from) (drop t.from text)

-- the bytes of names left aside: each is taken as empty
abbrev pub left_aside : Token → List ℕ
left_aside t = []

-- the tokens of the text spell the program
abbrev pub Spells : ProgramTree → List ℕ → List Token → Type 0
Spells program text ts = (ps : List Placed) × SpellsProgram (bytes_in text) program ps × (tokens_of ps ≡ ts)

-- they spell it, and none is deeper than the limit
abbrev pub SpellsWithin : ℕ → ProgramTree → List ℕ → List Token → Type 0
SpellsWithin limit program text ts =
    (ps : List Placed) × SpellsProgram (bytes_in text) program ps × (tokens_of ps ≡ ts) × Within limit ps

-- The tokens begin a program: with some further tokens they spell one, the bytes of names left aside.
abbrev pub Begins : List Token → Type 0
Begins ts =
    (more : List Token) × (program : ProgramTree) × (ps : List Placed)
    × SpellsProgram left_aside program ps × (tokens_of ps ≡ ts ++ more)

-- With further tokens, those before t and then t at the depth d spell a program, the bytes of names left aside.
abbrev pub Depth : List Token → Token → ℕ → Type 0
Depth before t d =
    (program : ProgramTree) × (front more : List Placed)
    × SpellsProgram left_aside program (front ++ at d t ∷ more) × (tokens_of front ≡ before)
