-- Needing: what is marked is needed, and may be kept without the others.
use Rattle.std.proofs.Common.{◌≡◌, ⊎_elim, inl, inr, ℕ, ◌+◌, ◌<◌, ◌≤◌, Bool, true, false, List, length, map, slice_get, Some, refl, sym, ap, subst, ◌∙◌, arith}
use Rattle.std.proofs.lemmas.List.{length-map}
use Rattle.std.proofs.lemmas.Option.{slice_get_within}
use Rattle.op_graph.specs.declared.op.Op.{Op}
use Rattle.op_graph.specs.declared.op.Loaded.{Loaded}
use Rattle.op_graph.specs.Lists.{Lists}
use Rattle.op_graph.specs.Reads.{Reads}
use Rattle.op_graph.specs.Rules.{IsGraph}
use Rattle.op_graph.specs.Laws.{EntryLaws, WalkLaws}
use Rattle.graph_passes.specs.Marking.{Takes, OfOneCell, Follows, Queues, Grows, AreNeeded}
use Rattle.graph_passes.specs.Part.{below, part_of}
use Rattle.graph_passes.specs.Pruning.{must_stay, MayBeKept, Needed, load_kept, numbering, IsPruned}
use Rattle.graph_passes.specs.Tables.{IsNumbered, marked, number_at, by_tables}
use Rattle.graph_passes.specs.declared.part.Places.{Places}
use Rattle.graph_passes.proofs.ByTables.{part_same, map_index, below_same, place_by}
use Rattle.graph_passes.proofs.Chosen.{get_there}
use Rattle.graph_passes.proofs.Queueing.{marks_few}

-- ---- what follows

by_cell : (g : Lists) (q k : ℕ) (kept : ℕ → Bool) → MayBeKept g kept → OfOneCell g q k → kept q ≡ true → kept k ≡ true
by_cell g q k kept may c here =
    let both = may.cells c.cell c.store c.load c.load_there c.store_there in
    elim c.are [
      | inl are ↦ ap kept are.1 ∙ sym both ∙ ap kept (sym are.0) ∙ here
      | inr are ↦ ap kept are.1 ∙ both ∙ ap kept (sym are.0) ∙ here
    ]

pub follows_needed : (g : Lists) (q k : ℕ) → Follows g q k → Needed g q → Needed g k
follows_needed g q k f needed = λ kept may. elim f.why [
  | inl reads ↦ may.reads q k reads.0 reads.1 (needed kept may)
  | inr cell ↦ by_cell g q k kept may cell (needed kept may)
]

pub stays_needed : (g : Lists) (i : ℕ) (op : Op) → slice_get g.operations i ≡ Some op → must_stay op ≡ true → Needed g i
stays_needed g i op there must = λ kept may. may.stays i op there must

same_truth : (a b : Bool) → (a ≡ true → b ≡ true) → (b ≡ true → a ≡ true) → a ≡ b
same_truth true b f h = sym (f refl)
same_truth false true f h = h refl
same_truth false false f h = refl

pub may_be_kept : (g : Lists) (marks : List Bool) →
    ((i : ℕ) (op : Op) → slice_get g.operations i ≡ Some op → must_stay op ≡ true → marked marks i ≡ true) →
    ((q k : ℕ) → Follows g q k → marked marks q ≡ true → marked marks k ≡ true) → MayBeKept g (marked marks)
may_be_kept g marks stays closed = record {
  stays = stays;
  reads = λ q k j reads here. closed q k (record { why = inl (j, reads) }) here;
  cells = λ k n l load store. same_truth (marked marks l.load) (marked marks n)
      (λ here. closed l.load n
      (record { why = inr (record { cell = k; load = l; store = n; load_there = load; store_there = store; are = inl (refl, refl) }) }) here)
      (λ here. closed n l.load
      (record { why = inr (record { cell = k; load = l; store = n; load_there = load; store_there = store; are = inr (refl, refl) }) }) here);
}

-- ---- what an operation takes

pub takes_reads : (g : Lists) (q : ℕ) (op : Op) (k : ℕ) → slice_get g.operations q ≡ Some op → Takes op k → (j : ℕ) × Reads g.operations q k j
takes_reads g q op k there t = (t.place, record { op = op; there = there; operand = t.operand; names = t.names })

some_is : {X : Type 0} {a b : X} → Some a ≡ Some b → a ≡ b
some_is e = cc

pub reads_takes : (g : Lists) (q : ℕ) (op : Op) (k j : ℕ) → slice_get g.operations q ≡ Some op → Reads g.operations q k j → Takes op k
reads_takes g q op k j there r =
    let same : r.op ≡ op = some_is (sym r.there ∙ there) in
    subst (λ o. Takes o k) same (record { place = j; operand = r.operand; names = r.names })

pub takes_inside : (g : Lists) (q : ℕ) (op : Op) (k : ℕ) → ((q k j : ℕ) → Reads g.operations q k j → k < q) → slice_get g.operations q ≡ Some op →
    Takes op k → k < length g.operations
takes_inside g q op k earlier there t =
    let r = takes_reads g q op k there t in
    let before = earlier q k r.0 r.1 in
    let inside = slice_get_within g.operations q op there in
    omega (arith, before, inside)

-- ---- the queue is told from its front

-- what follows from the operations before place n of the queue is marked
abbrev pub Done : Lists → List Bool → List ℕ → ℕ → Type 0
Done g marks queue n = (p q k : ℕ) → p < n → slice_get queue p ≡ Some q → Follows g q k → marked marks k ≡ true

pub done_more : (g : Lists) (marks : List Bool) (queue : List ℕ) (after : List Bool) (longer : List ℕ) (n q : ℕ) → slice_get queue n ≡ Some q →
    Grows (Follows g q) marks queue after longer → ((k : ℕ) → Follows g q k → marked after k ≡ true) → Done g marks queue n → Done g after longer (n + 1)
done_more g marks queue after longer n q there grows marks_all done p r k lt at follows = ⊎_elim
    (λ (before : p < n).
    let inside = slice_get_within queue n q there in
    let old = get_there queue p (omega (arith, before, inside)) in
    let same : old.0 ≡ r = some_is (sym (grows.order p old.0 old.1) ∙ at) in
    grows.kept k (done p old.0 k before old.1 (subst (λ x. Follows g x k) (sym same) follows)))
    (λ (here : p ≡ n).
    let same : q ≡ r = some_is (sym (grows.order n q there) ∙ sym (ap (slice_get longer) here) ∙ at) in
    marks_all k (subst (λ x. Follows g x k) (sym same) follows))
    (place_by p n lt)

pub all_done : (g : Lists) (marks : List Bool) (queue : List ℕ) (n : ℕ) → Queues marks queue → Done g marks queue n → length queue ≤ n → (q k : ℕ) →
    Follows g q k → marked marks q ≡ true → marked marks k ≡ true
all_done g marks queue n queues done all q k follows here =
    let at = queues.at q here in
    let inside = slice_get_within queue at.0 q at.1 in
    done at.0 q k (omega (arith, inside, all)) at.1 follows

pub queue_short : (marks : List Bool) (queue : List ℕ) → Queues marks queue → length queue ≤ length marks
queue_short marks queue queues = let count = queues.count in let few = marks_few marks in omega (arith, count, few)

-- ---- the part that is needed

-- the tables by which what is needed is kept
pub record NeededTables (g : Lists) (kept : List Bool) (numbers : List ℕ) (cells : List Bool) (cell_numbers : List ℕ) : Type 0 where
  pub are : AreNeeded g kept
  pub numbers_are : (i : ℕ) → i < length kept → number_at numbers i ≡ below (marked kept) i
  pub cells_are : cells ≡ map (λ (l : Loaded). marked kept l.load) g.loads
  pub cell_numbers_are : (k : ℕ) → k < length cells → number_at cell_numbers k ≡ below (marked cells) k

pub needed_part : (entries : EntryLaws) (walks : WalkLaws) (g : Lists) → IsGraph g
    → (kept : List Bool) (numbers : List ℕ) (cells : List Bool) (cell_numbers : List ℕ) →
    NeededTables g kept numbers cells cell_numbers → IsPruned g (part_of (by_tables kept numbers cells cell_numbers) g)
needed_part entries walks g graph kept numbers cells cell_numbers t =
    let many = t.are.many in
    let cell_kept : (k : ℕ) → k < length g.loads → marked cells k ≡ load_kept (marked kept) (slice_get g.loads k) = λ k lt.
    let l = get_there g.loads k lt in
    ap (λ c. marked c k) t.cells_are ∙ map_index (λ (l : Loaded). marked kept l.load) g.loads k l.0 false l.1 ∙ sym (ap (load_kept (marked kept)) l.1) in
    let count : length cells ≡ length g.loads = ap length t.cells_are ∙ length-map g.loads (λ (l : Loaded). marked kept l.load) in
    record {
      kept = marked kept;
      may = t.are.may;
      needed = t.are.needed;
      part = part_same entries walks g graph (by_tables kept numbers cells cell_numbers) (numbering g (marked kept)) (record {
        kept = λ i lt. refl;
        number = λ i lt. t.numbers_are i (omega (arith, lt, many));
        kept_cell = cell_kept;
        cell_number = λ k lt. t.cell_numbers_are k (omega (arith, lt, count))
            ∙ below_same (marked cells) (λ n. load_kept (marked kept) (slice_get g.loads n)) k (λ i less. cell_kept i (omega (arith, less, lt)));
      });
    }

-- the same, by places
pub tables_needed : (g : Lists) (operations cells : Places) (marks kept : List Bool) → AreNeeded g marks → IsNumbered marks operations → kept ≡ operations.kept.items
    → IsNumbered (map (λ (l : Loaded). marked kept l.load) g.loads) cells
    → NeededTables g operations.kept.items operations.numbers.items cells.kept.items cells.numbers.items
tables_needed g operations cells marks kept are by_marks is_kept of_cells =
    let same : map (λ (l : Loaded). marked kept l.load) g.loads ≡ map (λ (l : Loaded). marked operations.kept.items l.load) g.loads =
    ap (λ m. map (λ (l : Loaded). marked m l.load) g.loads) is_kept in
    record {
      are = rw by_marks.kept are;
      numbers_are = rw by_marks.kept by_marks.numbers;
      cells_are = of_cells.kept ∙ same;
      cell_numbers_are = rw of_cells.kept of_cells.numbers;
    }
