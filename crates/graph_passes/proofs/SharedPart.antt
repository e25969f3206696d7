-- SharedPart: the part by the tables of what is joined is the graph shared.
use Rattle.std.proofs.Common.{◌≡◌, ℕ, zero, suc, ◌<◌, Bool, true, List, length, replicate, refl, ap, ◌∙◌, arith}
use Rattle.std.proofs.lemmas.List.{length-replicate}
use Rattle.std.proofs.lemmas.Option.{slice_get_within}
use Rattle.op_graph.specs.Lists.{Lists}
use Rattle.op_graph.specs.Rules.{IsGraph}
use Rattle.op_graph.specs.Laws.{EntryLaws, WalkLaws}
use Rattle.graph_passes.specs.Part.{below, part_of}
use Rattle.graph_passes.specs.Sharing.{IsShared}
use Rattle.graph_passes.specs.Tables.{IsNumbered, marked, number_at, by_tables, by_places}
use Rattle.graph_passes.specs.declared.part.Places.{Places}
use Rattle.graph_passes.specs.Joining.{sharing, AreJoined}
use Rattle.graph_passes.proofs.ByTables.{part_same, below_same}

all_marked : (n k : ℕ) → k < n → marked (replicate n true) k ≡ true
all_marked zero k lt = absurd (omega (arith, lt))
all_marked (suc n) zero lt = refl
all_marked (suc n) (suc k) lt = all_marked n k (omega (arith, lt))

pub shared_part : (entries : EntryLaws) (walks : WalkLaws) (g : Lists) → IsGraph g
    → (kept : List Bool) (numbers : List ℕ) (cells : List Bool) (cell_numbers : List ℕ) →
    AreJoined g (length g.operations) kept numbers → cells ≡ replicate (length g.loads) true →
    ((k : ℕ) → k < length cells → number_at cell_numbers k ≡ below (marked cells) k) → IsShared g (part_of (by_tables kept numbers cells cell_numbers) g)
shared_part entries walks g graph kept numbers cells cell_numbers are all cell_numbers_are =
    let many : length cells ≡ length g.loads = ap length all ∙ length-replicate (length g.loads) true in
    let cell_kept : (k : ℕ) → k < length g.loads → marked cells k ≡ true = λ k lt. ap (λ c. marked c k) all ∙ all_marked (length g.loads) k lt in
    record {
      numbers = sharing kept numbers;
      all_stand = λ i. refl;
      kept_number = are.kept_number;
      all_cells = λ k. refl;
      cell_number = λ k. refl;
      first_number = are.first_number;
      entries = λ i op there no. are.entries i op (slice_get_within g.operations i op there) there no;
      joined = λ i op there out. are.joined i op (slice_get_within g.operations i op there) there out;
      differ = λ i j p q less first second kept_i kept_j join same. are.differ i j p q less
          (slice_get_within g.operations j q second) first second kept_i kept_j join same;
      part = part_same entries walks g graph (by_tables kept numbers cells cell_numbers) (sharing kept numbers) (record {
        kept = λ i lt. refl;
        number = λ i lt. refl;
        kept_cell = cell_kept;
        cell_number = λ k lt. cell_numbers_are k (omega (arith, lt, many))
            ∙ below_same (marked cells) (λ n. true) k (λ i less. cell_kept i (omega (arith, less, lt)));
      });
    }

-- the same by places: of the cells all are kept
pub shared_by_places : (entries : EntryLaws) (walks : WalkLaws) (g : Lists) → IsGraph g → (operations cells : Places) (count : ℕ)
    → AreJoined g (length g.operations) operations.kept.items operations.numbers.items → count ≡ length g.loads → IsNumbered (replicate count true) cells
    → IsShared g (part_of (by_places operations cells) g)
shared_by_places entries walks g graph operations cells count are is all =
    shared_part entries walks g graph operations.kept.items operations.numbers.items cells.kept.items cells.numbers.items are
    (all.kept ∙ ap (λ n. replicate n true) is) (rw all.kept all.numbers)
