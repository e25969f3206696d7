-- Closing: the OUTs and the STOREs at the end of a cycle.
use Rattle.std.specs.Prelude.{◌≡◌, ℕ, ◌<◌, ◌≤◌, ◌+◌, true, ℤ, List, ◌++◌, length, get_or, map, slice_get, take, All, Option, Some, None, Result, Ok, Err}
use Rattle.vcp_base.specs.Values.{at}
use Rattle.op_graph.specs.declared.op.Loaded.{Loaded}
use Rattle.op_graph.specs.declared.op.Outlet.{Outlet}
use Rattle.op_graph.specs.Lists.{Lists, output_column}
use Rattle.op_graph.specs.Rules.{IsPart}
use Rattle.op_graph.specs.GraphRun.{stored, outputs as graph_outputs}
use Rattle.vcp_base.specs.Limits.{most_operations}
use Rattle.op_graph.specs.declared.build.Build.{Build}
use Rattle.op_graph.specs.declared.build.Build.TheVariants as build
use Rattle.vcp_typed.specs.declared.slot.Slot.{Slot}
use Rattle.st_tree.specs.declared.nodes.Nodes.{Nodes}
use Rattle.vcp_typed.specs.Fitting.{output_columns}
use Rattle.vcp_typed.specs.Meaning.{Stop}
use Rattle.vcp_typed.specs.SourceRun.{is_input, outputs}
use Rattle.flat_expr.specs.State.{State, IsState, IsPlace, IsHeld, IsCell, KnowsOne, Knows, AreLoaded, Extends, IsNeeded, unknown, others, outs_from}
use Rattle.flat_expr.specs.State.{whole_size, run}

-- the flattening is of these slots
abbrev pub IsOver : State → Nodes Slot → Type 0
IsOver s slots = s.slots ≡ slots.items.items

-- the slot of the number
abbrev pub IsSlot : State → ℕ → Slot → Type 0
IsSlot s n slot = slice_get s.slots n ≡ Some slot

-- there is no room only where the whole graph has more operations than a graph may have
abbrev pub NoRoom : State → Build → Type 0
NoRoom s why = why ≡ build.Full → most_operations < whole_size s

-- what comes of a call at the end of a cycle, where the flattening ended in the state: P of what it gives, or there is no room
abbrev pub Ends : {A : Type 0} → State → (A → Type 0) → Result A Build → Type 0
Ends s P (Ok a) = P a
Ends s P (Err why) = NoRoom s why

-- the operations' values tell the slots' values now, where the slots are held by these operations
abbrev pub Tell : List Slot → List (Option ℕ) → List ℤ → List ℤ → List ℤ → Type 0
Tell slots known start now vs = (slot : ℕ) → slot < length slots → KnowsOne (get_or known slot None) vs (at now slot) (at start slot)

-- The lists with the OUTs of the first n slots and the STOREs of the first m cells, and the operations that hold the slots, where
-- a flattening ended in the state.
pub record Closes (s : State) (n m : ℕ) (g : Lists) (known : List (Option ℕ)) : Type 0 where
  pub from : IsState s
  pub part : IsPart g
  pub profile : g.profile ≡ s.graph.profile
  pub names : g.names ≡ s.graph.names
  pub inputs : g.inputs ≡ s.graph.inputs
  pub turn_nodes : g.turn_nodes ≡ s.graph.turn_nodes
  pub operations : Extends s.graph.operations g.operations
  pub needed : (more : List Loaded) × (g.loads ≡ s.graph.loads ++ more) × All (IsNeeded s) more
  pub kept : (slot k : ℕ) → get_or s.known slot None ≡ Some k → get_or known slot None ≡ Some k
  pub long : length known ≡ length s.slots
  pub places : (slot : ℕ) (x : Slot) → slice_get s.slots slot ≡ Some x → IsPlace x.ty g.operations (get_or known slot None)
  pub ins : (slot : ℕ) (x : Slot) → slice_get s.slots slot ≡ Some x → IsHeld (is_input x.section) (get_or known slot None)
  pub cells : (j : ℕ) (l : Loaded) → slice_get g.loads j ≡ Some l → IsCell s.slots l
  pub held : (j : ℕ) (l : Loaded) → slice_get g.loads j ≡ Some l → IsHeld true (get_or known l.name None)
  pub room : length g.loads + unknown known ≤ others s.slots
  pub columns : map (output_column g.names) g.outputs ≡ output_columns (take n s.slots)
  pub below : All (λ (o : Outlet). o.name < n) g.outputs
  pub so_far : length g.stores ≡ m
  pub size : length g.operations + outs_from s.slots known n + length g.loads ≡ whole_size s + length g.stores
  pub loads : (cells start : List ℤ) → AreLoaded g.loads cells start → AreLoaded s.graph.loads cells start
  pub stops : (cells row : List ℤ) (e : Stop) → run s.graph cells row ≡ Err e → run g cells row ≡ Err e
  pub gives : (cells row start now vs : List ℤ) → run s.graph cells row ≡ Ok vs → AreLoaded g.loads cells start → Knows s start now vs →
      (ws : List ℤ) × (run g cells row ≡ Ok ws) × Tell s.slots known start now ws × (graph_outputs g ws ≡ outputs (take n s.slots) now)
      × (stored g ws ≡ map (λ l. at now l.name) (take (length g.stores) g.loads))

-- as far as the OUTs of the slots below this one, which operation k holds
abbrev pub Holds : State → Lists → List (Option ℕ) → ℕ → ℕ → Type 0
Holds s g known slot k = Closes s slot 0 g known × (get_or known slot None ≡ Some k)
