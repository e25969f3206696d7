-- Scope: the names that are declared.
use Rattle.std.specs.Prelude.{ℕ, cond, List, [], ◌∷◌, Option, Some, None}
use Rattle.vcp_base.specs.Names.{is_same_name}
pub use Rattle.st_types.specs.declared.names.Entry.{Entry}

-- what a name means, where these are declared, in order of declaration: the first declaration of a name counts
abbrev pub find : List Entry → List ℕ → Option Entry
find [] n = None
find (e ∷ es) n = cond (is_same_name e.name n) (Some e) (find es n)
