-- Walk: the entry of each operation by one walk over a list of entries whose operations rise.
-- Who reads the operations in their order may find entries so: what the walk finds is `place_of` in Rules, as the law of walks says.
use Rattle.std.specs.Prelude.{ℕ, ◌+◌, ◌==◌, Bool, false, cond, nat_lt, List, [], ◌∷◌, slice_get, Option, Some, None}
use Rattle.vcp_base.specs.declared.ty.Ty.{Ty}
use Rattle.op_graph.specs.declared.op.Loaded.{Loaded}
use Rattle.op_graph.specs.Rules.{entry, cell_entry}
use Rattle.op_graph.specs.declared.rules.Entry.{Entry}

-- where the walk stands when it comes to operation i: how many entries, from the front, are of operations before i
abbrev pub passed : {X : Type 0} → (X → ℕ) → ℕ → List X → ℕ
passed f i [] = 0
passed f i (x ∷ xs) = cond (nat_lt (f x) i) (passed f i xs + 1) 0

-- the entry where the walk stands, if any, is of operation i
abbrev pub is_of : {X : Type 0} → (X → ℕ) → ℕ → Option X → Bool
is_of f i None = false
is_of f i (Some x) = f x == i

-- entry k, where it is of operation i
abbrev pub entry_at : {X : Type 0} → (X → ℕ) → (X → Ty) → ℕ → ℕ → Option X → Option Entry
entry_at f t i k None = None
entry_at f t i k (Some x) = cond (f x == i) (Some (entry k (t x))) None

-- what a walk finds for operation i
abbrev pub walked_to : {X : Type 0} → (X → ℕ) → (X → Ty) → ℕ → List X → Option Entry
walked_to f t i xs = entry_at f t i (passed f i xs) (slice_get xs (passed f i xs))

-- cell k, where it is stored by operation i
abbrev pub store_at : List Loaded → ℕ → ℕ → Option ℕ → Option Entry
store_at loads i k None = None
store_at loads i k (Some n) = cond (n == i) (cell_entry k (slice_get loads k)) None

-- what a walk over the STOREs finds for operation i
abbrev pub stored_to : List Loaded → ℕ → List ℕ → Option Entry
stored_to loads i ns = store_at loads i (passed (λ n. n) i ns) (slice_get ns (passed (λ n. n) i ns))

-- where the walk stands after operation i: one entry further, where it has found one
abbrev pub next_passed : {X : Type 0} → (X → ℕ) → ℕ → List X → ℕ
next_passed f i xs = cond (is_of f i (slice_get xs (passed f i xs))) (passed f i xs + 1) (passed f i xs)
