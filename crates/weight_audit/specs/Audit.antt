-- Audit: what is kept of the weights of a graph, for all its outputs up to a number of cycle borders.
use Rattle.std.specs.Prelude.{◌≡◌, ℕ, ◌+◌, ◌*◌, ◌<◌, ◌≤◌, Bool, true, false, List, [], length, slice_get, slice_index_or, Some}
use Rattle.op_graph.specs.declared.op.Outlet.{Outlet}
use Rattle.op_graph.specs.Lists.{Lists}
use Rattle.weight_audit.specs.Weights.{weight}
use Rattle.weight_audit.specs.Paths.{Reached}

-- how many weights may be kept
abbrev pub most_weights : ℕ
most_weights = 16777216

-- how many weights a graph has up to a number of cycle borders: one for each operation, each output and each number of borders
abbrev pub weights_up_to : Lists → ℕ → ℕ
weights_up_to g horizon = length g.operations * length g.outputs * (horizon + 1)

-- for one output and one number of cycle borders: the weight of each operation, and whether a path leads from it
pub record Distance : Type 0 where
  pub weights : List ℕ
  pub reached : List Bool

abbrev pub nothing : Distance
nothing = record { weights = []; reached = [] }

-- how many operations there are, up to how many borders, and the distances of each output
pub record Audit : Type 0 where
  pub operations : ℕ
  pub horizon : ℕ
  pub outputs : List (List Distance)

-- what is kept for an output after so many borders
abbrev pub distance : Audit → ℕ → ℕ → Distance
distance a output after = slice_index_or (slice_index_or a.outputs output []) after nothing

-- what is kept for an operation
abbrev pub weight_kept : Audit → ℕ → ℕ → ℕ → ℕ
weight_kept a op output after = slice_index_or (distance a output after).weights op 0

abbrev pub reached_kept : Audit → ℕ → ℕ → ℕ → Bool
reached_kept a op output after = slice_index_or (distance a output after).reached op false

-- what is kept is that of the graph, up to the horizon
pub record IsAudit (g : Lists) (horizon : ℕ) (a : Audit) : Type 0 where
  pub operations : a.operations ≡ length g.operations
  pub outputs : length a.outputs ≡ length g.outputs
  pub horizon_is : a.horizon ≡ horizon
  pub weight : (op output after : ℕ) (o : Outlet) → op < length g.operations → slice_get g.outputs output ≡ Some o → after ≤ horizon
      → weight_kept a op output after ≡ weight g o.op after op
  pub sound : (op output after : ℕ) (o : Outlet) → slice_get g.outputs output ≡ Some o → after ≤ horizon → reached_kept a op output after ≡ true
      → Reached g o.op after op
  pub complete : (op output after : ℕ) (o : Outlet) → slice_get g.outputs output ≡ Some o → after ≤ horizon → Reached g o.op after op
      → reached_kept a op output after ≡ true

-- each output has a distance for each number of borders up to the horizon, with a weight and a mark for each operation
pub record IsWhole (a : Audit) : Type 0 where
  pub borders : (output : ℕ) (ds : List Distance) → slice_get a.outputs output ≡ Some ds → length ds ≡ a.horizon + 1
  pub weights : (output after : ℕ) (ds : List Distance) (d : Distance) → slice_get a.outputs output ≡ Some ds → slice_get ds after ≡ Some d
      → length d.weights ≡ a.operations
  pub reached : (output after : ℕ) (ds : List Distance) (d : Distance) → slice_get a.outputs output ≡ Some ds → slice_get ds after ≡ Some d
      → length d.reached ≡ a.operations
