-- Declarable: the names that programs may declare.
use Rattle.std.specs.Prelude.{◌≡◌, ℕ, ◌≤◌, true, List, flat_map, length, All}
use Rattle.vcp_base.specs.Names.{is_name}
use Rattle.vcp_base.specs.Limits.{most_name_bytes}
use Rattle.st_tree.specs.ProgramTree.{DeclaredTree, ProgramTree}

-- all declared names, in order
abbrev pub names_of : ProgramTree → List DeclaredTree
names_of p = flat_map (λ b. flat_map (λ d. d.names) b.decls) p.blocks

-- a letter or `_`, and then letters, digits and `_`; no longer than a source may be
abbrev pub IsDeclarable : List ℕ → Type 0
IsDeclarable n = (length n ≤ most_name_bytes) × (is_name n ≡ true)

abbrev pub AreDeclarable : List DeclaredTree → Type 0
AreDeclarable ds = All (λ d. IsDeclarable d.name) ds

-- each name that the program declares is one
abbrev pub HasNames : ProgramTree → Type 0
HasNames p = AreDeclarable (names_of p)
