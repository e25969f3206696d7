-- Moves: what the operations of statements do to the values of the slots, and to the path condition.
-- What a statement adds is after what is there: operations after the operations, cells after the cells,
-- turn nodes after the turn nodes; nothing before them changes, and no input, output or STORE is added.
use Rattle.std.specs.Prelude.{◌≡◌, ℕ, ◌+◌, ◌≤◌, ℤ, Bool, cond, List, length, slice_set, Result, Ok, Err}
use Rattle.vcp_base.specs.declared.ty.Ty.TheVariants as ty
use Rattle.vcp_typed.specs.Meaning.{Stop, and_then, value}
use Rattle.vcp_typed.specs.TExprTree.{TExprTree}
use Rattle.vcp_base.specs.declared.turns.Turn.{Turn}
use Rattle.flat_expr.specs.State.{State, IsPlace, active, Knows, AreLoaded, Kept, Continues, reserved, run}

-- where a cycle is between two statements: whether the place is reached, and the values of the slots
pub record Here : Type 0 where
  pub reached : Bool
  pub slots : List ℤ

abbrev pub here : Bool → List ℤ → Here
here b m = record { reached = b; slots = m }

-- what is done, from where a cycle is
abbrev pub Doing : Type 0
Doing = Bool → List ℤ → Result Here Stop

-- a result against what the operations give
abbrev pub EndsIn : {A : Type 0} → (A → List ℤ → Type 0) → Result A Stop → Result (List ℤ) Stop → Type 0
EndsIn P (Ok a) r = (ws : List ℤ) × (r ≡ Ok ws) × P a ws
EndsIn P (Err s) r = r ≡ Err s

-- the operations' values ws tell where the cycle is, and the earlier values vs are among them
pub record Tells (s : State) (start vs : List ℤ) (h : Here) (ws : List ℤ) : Type 0 where
  pub kept : Kept vs ws
  pub knows : Knows s start h.slots ws
  pub reached : active s.path ws ≡ h.reached

-- The operations that were added do this, in every cycle in which the earlier operations' values are such. They are at most so many,
-- beside the LOADs and the constants that were reserved; so many turn nodes at most were added. The path condition tells after them
-- whether the place is reached.
pub record Moves (old new : State) (Such : List ℤ → Type 0) (most : ℕ) (doing : Doing) : Type 0 where
  pub continues : Continues old (record new { path = old.path })
  pub path : IsPlace ty.Bool new.graph.operations new.path
  pub count : reserved new ≤ reserved old + most
  pub few : length new.graph.turn_nodes ≤ length old.graph.turn_nodes + most
  pub gives : (cells row start now vs : List ℤ) → run old.graph cells row ≡ Ok vs → AreLoaded new.graph.loads cells start → Knows old start now vs → Such vs →
      EndsIn (Tells new start vs) (doing (active old.path vs) now) (run new.graph cells row)

-- whatever the values are
abbrev pub Any : List ℤ → Type 0
Any vs = Unit {0}

-- statements change the slots where the place is reached, and nothing else
abbrev pub where_reached : (List ℤ → Result (List ℤ) Stop) → Doing
where_reached f b m = cond b (and_then (f m) (λ n. Ok (here b n))) (Ok (here b m))

-- what statements do: the path condition stays
pub record Does (old new : State) (most : ℕ) (meaning : List ℤ → Result (List ℤ) Stop) : Type 0 where
  pub path : new.path ≡ old.path
  pub moves : Moves old new Any most (where_reached meaning)

-- the slot gets a value
abbrev pub setting : ℕ → ℤ → List ℤ → Result (List ℤ) Stop
setting slot v m = Ok (slice_set m slot v)

-- the slot gets the expression's value
abbrev pub assigning : List Turn → ℕ → TExprTree → List ℤ → Result (List ℤ) Stop
assigning turns slot e m = and_then (value turns e m) (λ v. Ok (slice_set m slot v))
