-- Tables: a numbering that is kept in tables.
-- How the code keeps a numbering, and no promise: what is promised is in Part, Pruning and Sharing.
use Rattle.std.specs.Prelude.{◌≡◌, ◌<◌, ℕ, Bool, true, false, List, [], length, map, slice_index_or}
use Rattle.op_graph.specs.Lists.{Lists}
use Rattle.graph_passes.specs.declared.part.KeptLists.{KeptLists}
use Rattle.graph_passes.specs.declared.part.Places.{Places}
use Rattle.graph_passes.specs.Part.{Numbering, below, chosen, moved, moved_load, moved_output}

-- the mark at place i; none where there is no such place
abbrev pub marked : List Bool → ℕ → Bool
marked marks i = slice_index_or marks i false

-- the number at place i; 0 where there is none
abbrev pub number_at : List ℕ → ℕ → ℕ
number_at numbers i = slice_index_or numbers i 0

-- the numbering by four tables: which operations are kept, the new number of each, and the same of cells
abbrev pub by_tables : List Bool → List ℕ → List Bool → List ℕ → Numbering
by_tables kept numbers cells cell_numbers = record {
  kept = marked kept;
  stands = λ i. true;
  number = number_at numbers;
  kept_cell = marked cells;
  cell_number = number_at cell_numbers;
}

-- the numbering of operations and cells by these places
abbrev pub by_places : Places → Places → Numbering
by_places operations cells = by_tables operations.kept.items operations.numbers.items cells.kept.items cells.numbers.items

-- the places that these marks keep, each of them with the number of those before it
pub record IsNumbered (marks : List Bool) (places : Places) : Type 0 where
  pub kept : places.kept.items ≡ marks
  pub numbers : (i : ℕ) → i < length marks → number_at places.numbers.items i ≡ below (marked marks) i

-- what these places keep of a graph's outputs, cells and operations, numbered anew
pub record AreKept (g : Lists) (kept kept_cells : Places) (left : KeptLists) : Type 0 where
  pub outputs : left.outputs.items ≡ map (moved_output (by_tables [] kept.numbers.items [] [])) g.outputs
  pub loads : left.loads.items ≡ chosen (marked kept_cells.kept.items) (moved_load (by_tables [] kept.numbers.items [] [])) 0 g.loads
  pub stores : left.stores.items ≡ chosen (marked kept_cells.kept.items) (number_at kept.numbers.items) 0 g.stores
  pub operations : left.operations.items
      ≡ chosen (marked kept.kept.items) (moved (by_tables [] kept.numbers.items [] kept_cells.numbers.items)) 0 g.operations
