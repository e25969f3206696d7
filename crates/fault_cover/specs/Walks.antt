-- Walks: what is reached from each operation across the fewest cycle borders.
use Rattle.std.specs.Prelude.{◌≡◌, ◌⊎◌, ℕ, ◌+◌, ◌<◌, ◌≤◌, ◌==◌, ◌&&◌, ◌||◌, nat_le, nat_lt, cond, Bool, true, false, List, length, slice_index_or, Option}
use Rattle.std.specs.Prelude.{Some, None, count_by}
use Rattle.std.specs.Option.{is_none}
use Rattle.op_graph.specs.declared.op.Op.{Op}
use Rattle.op_graph.specs.Lists.{Lists, cells}
use Rattle.op_graph.specs.Reads.{Reads}
use Rattle.weight_audit.specs.Paths.{Crosses, Reached}
use Rattle.weight_audit.specs.Sweeping.{Takes}
use Rattle.fault_cover.specs.declared.nearest.Nearest.{Nearest}

-- ---- which of two is nearer

abbrev pub is_nearer : Nearest → Nearest → Bool
is_nearer new old = nat_lt new.borders old.borders || new.borders == old.borders && nat_lt new.op old.op

-- the nearer of two, the first where they are alike
abbrev pub nearer : Option Nearest → Option Nearest → Option Nearest
nearer None other = other
nearer (Some old) None = Some old
nearer (Some old) (Some new) = cond (is_nearer new old) (Some new) (Some old)

-- m is at least as near as what is reached across so many borders, of this number
abbrev pub AsNear : Nearest → ℕ → ℕ → Type 0
AsNear m borders op = (m.borders < borders) ⊎ ((m.borders ≡ borders) × (m.op ≤ op))

-- the first is there and as near as the second, where that is there
abbrev pub NotFurther : Option Nearest → Option Nearest → Type 0
NotFurther one None = Unit {0}
NotFurther None (Some n) = ⊥
NotFurther (Some m) (Some n) = AsNear m n.borders n.op

-- the same across a border more
abbrev pub further : Option Nearest → ℕ → Option Nearest
further None borders = None
further (Some n) borders = Some (record { borders = n.borders + borders; op = n.op })

-- where it is across no more borders than these
abbrev pub up_to : ℕ → Option Nearest → Option Nearest
up_to borders None = None
up_to borders (Some n) = cond (nat_le n.borders borders) (Some n) None

-- ---- what is found

-- operation q is looked for
abbrev pub is_wanted : List Bool → ℕ → Bool
is_wanted wanted q = slice_index_or wanted q false

-- what is kept for operation k
abbrev pub kept : List (Option Nearest) → ℕ → Option Nearest
kept found k = slice_index_or found k None

-- n is looked for and reached from operation k, and nothing else that is looked for is nearer
pub record IsFirst (g : Lists) (wanted : List Bool) (k : ℕ) (n : Nearest) : Type 0 where
  pub looked_for : is_wanted wanted n.op ≡ true
  pub path : Reached g n.op n.borders k
  pub least : (borders q : ℕ) → is_wanted wanted q ≡ true → Reached g q borders k → AsNear n borders q

-- what is found for operation k: the first, or that nothing is reached across any number of borders
abbrev pub IsNearest : Lists → List Bool → ℕ → Option Nearest → Type 0
IsNearest g wanted k None = (borders q : ℕ) → is_wanted wanted q ≡ true → Reached g q borders k → ⊥
IsNearest g wanted k (Some n) = IsFirst g wanted k n

-- nothing is found across more borders than these
abbrev pub AreWithin : ℕ → List (Option Nearest) → Type 0
AreWithin borders found = (k : ℕ) (n : Nearest) → kept found k ≡ Some n → n.borders ≤ borders

-- what is found for each operation, and across no more borders than there are cells
pub record AreNearest (g : Lists) (wanted : List Bool) (found : List (Option Nearest)) : Type 0 where
  pub many : length found ≡ length g.operations
  pub each : (k : ℕ) → IsNearest g wanted k (kept found k)
  pub within : AreWithin (length (cells g)) found

-- ---- on the way

-- an operation is reached from itself across no border
abbrev pub itself : Bool → ℕ → Option Nearest
itself wanted k = cond wanted (Some (record { borders = 0; op = k })) None

-- this is found for each operation that is looked for, and nothing for the others
pub record IsBegun (wanted : List Bool) (found : List (Option Nearest)) : Type 0 where
  pub many : length found ≡ length wanted
  pub each : (k : ℕ) → kept found k ≡ itself (is_wanted wanted k) k

-- operation k, which the operation reads, has got what is reached from it
pub record Got (op : Op) (near : Option Nearest) (found : List (Option Nearest)) (k : ℕ) : Type 0 where
  pub takes : Takes op k
  pub is : kept found k ≡ near

-- what is reached from an operation is handed on to some of those that it reads, and to no others
pub record HandsOn (op : Op) (near : Option Nearest) (old new : List (Option Nearest)) : Type 0 where
  pub many : length new ≡ length old
  pub each : (k : ℕ) → (kept new k ≡ kept old k) ⊎ Got op near new k
  pub no_further : (k : ℕ) → NotFurther (kept new k) (kept old k)

-- what is found is reached, and looked for
abbrev pub AreFound : Lists → List Bool → List (Option Nearest) → Type 0
AreFound g wanted found = (k : ℕ) (n : Nearest) → kept found k ≡ Some n → (is_wanted wanted n.op ≡ true) × Reached g n.op n.borders k

-- what an operation reads is as near as the operation, where what is reached from that is across fewer borders than this number
abbrev pub ReadsBelow : Lists → ℕ → List (Option Nearest) → Type 0
ReadsBelow g borders found = (q k j : ℕ) (n : Nearest) → Reads g.operations q k j → kept found q ≡ Some n → n.borders < borders → NotFurther (kept found k)
    (Some n)

-- the STORE of a cell is as near as its LOAD across one border more, where that is no more borders than this number
abbrev pub CrossesBelow : Lists → ℕ → List (Option Nearest) → Type 0
CrossesBelow g borders found = (k l : ℕ) (n : Nearest) → Crosses (cells g) k l → kept found l ≡ Some n → n.borders < borders
    → NotFurther (kept found k) (further (Some n) 1)

-- what is looked for is found
abbrev pub AreBegun : List Bool → List (Option Nearest) → Type 0
AreBegun wanted found = (q : ℕ) → is_wanted wanted q ≡ true → NotFurther (kept found q) (Some (record { borders = 0; op = q }))

-- No entry is of one that was found across fewer borders; all that is new is as near as it was.
pub record Swept (borders : ℕ) (old new : List (Option Nearest)) : Type 0 where
  pub stays : (k : ℕ) (n : Nearest) → kept new k ≡ Some n → n.borders < borders → kept old k ≡ Some n
  pub no_further : (k : ℕ) → NotFurther (kept new k) (kept old k)

-- how many STOREs nothing is found for
abbrev pub missing : Lists → List (Option Nearest) → ℕ
missing g found = count_by (λ c. is_none (kept found c.store)) (cells g)
