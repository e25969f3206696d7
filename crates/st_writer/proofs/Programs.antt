-- Lists of declarations.
use Rattle.std.proofs.Common.{◌≡◌, ℕ, suc, List, [], ◌∷◌, ◌++◌, refl, ap}
use Rattle.std.specs.Prelude.{flat_map, map}
use Rattle.st_lexer.specs.declared.token.Sym.TheVariants as symbols
use Rattle.st_tree.specs.declared.program.Declared.{Declared}
use Rattle.st_tree.specs.ProgramViews.{declared_tree}
use Rattle.st_writer.specs.Lexemes as lexeme
use Rattle.st_writer.specs.Lexemes.{Lexeme}
use Rattle.st_writer.specs.CanonicalProgram.{names, more_names}
use Rattle.st_writer.specs.Adds.{separator}
use Rattle.st_writer.proofs.Lists.{all}

-- a name, behind what separates it from the one before
abbrev pub name_at : ℕ → Declared → List Lexeme
name_at i d = separator i ++ lexeme.name d.name ∷ []

more-names-are : (ds : List Declared) → all (λ i. name_at (suc i)) ds ≡ more_names (map declared_tree ds)
more-names-are [] = refl
more-names-are (d ∷ ds) =
    ap (λ (t : List Lexeme). lexeme.symbol symbols.Comma ∷ lexeme.blank ∷ lexeme.name d.name ∷ t) (more-names-are ds)

pub names-are : (ds : List Declared) → all name_at ds ≡ names (map declared_tree ds)
names-are [] = refl
names-are (d ∷ ds) = ap (λ (t : List Lexeme). lexeme.name d.name ∷ t) (more-names-are ds)

-- an item of a list whose tree is written by f
abbrev pub item : {X Y : Type 0} → (Y → List Lexeme) → (X → Y) → ℕ → X → List Lexeme
item f tree i x = f (tree x)

pub items-are : {X Y : Type 0} (f : Y → List Lexeme) (tree : X → Y) (xs : List X) → all (item f tree) xs ≡ flat_map f (map tree xs)
items-are f tree [] = refl
items-are f tree (x ∷ xs) = ap (λ (t : List Lexeme). f (tree x) ++ t) (items-are f tree xs)
