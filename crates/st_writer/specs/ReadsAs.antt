-- ReadsAs: what the reading of a text says of a program.
use Rattle.std.specs.Prelude.{◌≡◌, ℕ, List}
use Rattle.st_lexer.specs.Reading.{Reads}
use Rattle.st_lexer.specs.declared.token.Token.{Token}
use Rattle.st_tree.specs.Bare.{bare}
use Rattle.st_tree.specs.ProgramTree.{ProgramTree}
use Rattle.st_tree.specs.Spelling.{SpellsWithin}

-- the tokens of the text spell the program, spots aside, none deeper than the limit
abbrev pub ReadsAs : ℕ → ProgramTree → List ℕ → Type 0
ReadsAs limit p text = (ts : List Token) × (q : ProgramTree) × Reads text ts × SpellsWithin limit q text ts × (bare q ≡ bare p)
