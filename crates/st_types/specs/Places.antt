-- Places: the place of a name among others.
use Rattle.std.specs.Prelude.{◌≡◌, ℕ, ◌++◌, List, flat_map, slice_get, Some}
use Rattle.vcp_base.specs.declared.spot.Spot.{Spot}
use Rattle.st_tree.specs.ProgramTree.{DeclaredTree, DeclTree, BlockTree}

-- the names that declarations declare, in order
abbrev pub decl_names : List DeclTree → List DeclaredTree
decl_names ds = flat_map (λ d. d.names) ds

-- the names that blocks declare, in order
abbrev pub block_names : List BlockTree → List DeclaredTree
block_names bs = flat_map (λ b. flat_map (λ d. d.names) b.decls) bs

-- the name at place n, counted from 0, has this spot
abbrev pub IsAt : List DeclaredTree → ℕ → Spot → Type 0
IsAt ds n spot = (d : DeclaredTree) × (slice_get ds n ≡ Some d) × (spot ≡ d.spot)

-- it is one of the names ds, whatever comes after them
abbrev pub IsAmong : List DeclaredTree → ℕ → Spot → Type 0
IsAmong ds n spot = (rest : List DeclaredTree) → IsAt (ds ++ rest) n spot

-- place n is the place `left` of what comes after the names ds
abbrev pub IsAfter : List DeclaredTree → ℕ → ℕ → Type 0
IsAfter ds n left = (rest : List DeclaredTree) → slice_get (ds ++ rest) n ≡ slice_get rest left
