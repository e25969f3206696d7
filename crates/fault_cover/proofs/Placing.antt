-- Placing: readings and other starts are at operations, and their amounts are residues.
use Rattle.std.proofs.Common.{◌≡◌, ℕ, zero, suc, ◌+◌, ◌*◌, ◌^◌, ◌<◌, ◌≤◌, ◌==◌, ◌&&◌, cond, Bool, true, false, List, [], ◌∷◌, ◌++◌, length, map, drop}
use Rattle.std.proofs.Common.{slice_get, Some, pos, ap, sym, subst, ◌∙◌, refl, arith}
use Rattle.std.specs.Option.{is_some}
use Rattle.std.proofs.lemmas.List.{drop-map, length-append}
use Rattle.vcp_base.specs.declared.code.Profile.{Profile}
use Rattle.vcp_base.specs.Kinds.{multiplier}
use Rattle.coded_unit.specs.WordLaws.{WordLaws}
use Rattle.op_graph.specs.declared.op.Cell.{Cell}
use Rattle.op_graph.specs.declared.op.Op.{Op}
use Rattle.op_graph.specs.Laws.{EntryLaws}
use Rattle.op_graph.specs.Lists.{Lists, cells}
use Rattle.op_graph.specs.Reads.{named}
use Rattle.op_graph.specs.Rules.{IsPart, reads_as}
use Rattle.fault_cover.specs.declared.starts.Start.{Start}
use Rattle.fault_cover.specs.Beginnings.{ArePlaced, AreReadings, IsPlaced, start_at, starts_of}
use Rattle.fault_cover.specs.Sources.{Reading, as_source, reading_as, readings, readings_by, readings_from, reading_across, readings_across}
use Rattle.fault_cover.proofs.Cells.{few_cells, load_inside}

-- each reading is by an operation of so many, at most one border later
abbrev pub AreInside : ℕ → List Reading → Type 0
AreInside n [] = Unit {0}
AreInside n (r ∷ rs) = ((r.op < n) × (r.borders ≤ 1)) × AreInside n rs

inside_append : (n : ℕ) (xs ys : List Reading) → AreInside n xs → AreInside n ys → AreInside n (xs ++ ys)
inside_append n [] ys first second = second
inside_append n (x ∷ xs) ys first second = (first.0, inside_append n xs ys first.1 second)

inside_one : (n : ℕ) (b : Bool) (r : Reading) → (r.op < n) × (r.borders ≤ 1) → AreInside n (cond b (r ∷ []) [])
inside_one n true r is = (is, tt)
inside_one n false r is = tt

inside_as : (n k q : ℕ) (op : Op) (j : ℕ) → q < n → AreInside n (reading_as k q op j)
inside_as n k q op j lt =
    inside_one n (is_some (reads_as op.kind op.from j) && (k == named op j)) (record { op = q; operand = j; borders = 0; multiplier = multiplier op.kind j })
    (lt, let low : 0 ≤ 1 = omega arith in low)

inside_by : (n k q : ℕ) (op : Op) → q < n → AreInside n (readings_by k q op)
inside_by n k q op lt =
    inside_append n (reading_as k q op 0) (reading_as k q op 1 ++ reading_as k q op 2) (inside_as n k q op 0 lt)
    (inside_append n (reading_as k q op 1) (reading_as k q op 2) (inside_as n k q op 1 lt) (inside_as n k q op 2 lt))

inside_from : (n k q : ℕ) (ops : List Op) → q + length ops ≤ n → AreInside n (readings_from k q ops)
inside_from n k q [] le = tt
inside_from n k q (op ∷ ops) le =
    inside_append n (readings_by k q op) (readings_from k (suc q) ops) (inside_by n k q op (omega (arith, le)))
    (inside_from n k (suc q) ops (omega (arith, le)))

inside_across : (n k : ℕ) (held : List Cell) → ((i : ℕ) (c : Cell) → slice_get held i ≡ Some c → c.load < n) → AreInside n (readings_across k held)
inside_across n k [] loads = tt
inside_across n k (c ∷ held) loads =
    inside_append n (reading_across k c) (readings_across k held)
    (inside_one n (k == c.store) (record { op = c.load; operand = 0; borders = 1; multiplier = pos 1 }) (loads 0 c refl, let one : 1 ≤ 1 = omega arith in one))
    (inside_across n k held (λ i d there. loads (suc i) d there))

are_inside : (g : Lists) (k : ℕ) → EntryLaws → IsPart g → AreInside (length g.operations) (readings g k)
are_inside g k laws part =
    inside_append (length g.operations) (readings_from k 0 g.operations) (readings_across k (cells g))
    (inside_from (length g.operations) k 0 g.operations (let all : 0 + length g.operations ≤ length g.operations = omega arith in all))
    (inside_across (length g.operations) k (cells g) (λ i c there. load_inside g i c laws part there))

inside_left : (n right : ℕ) (rs : List Reading) → AreInside n rs → AreInside n (drop right rs)
inside_left n zero rs are = are
inside_left n (suc right) [] are = tt
inside_left n (suc right) (r ∷ rs) are = inside_left n right rs are.1

placed_by : (p : Profile) → WordLaws p → (n : ℕ) (rs : List Reading) → AreInside n rs → ArePlaced p n (starts_of p rs)
placed_by p laws n [] are i s there = absurd cc
placed_by p laws n (r ∷ rs) are zero s there =
    let first : Start = start_at p (as_source r) in
    let same : first ≡ s = cc in
    subst (IsPlaced p n) same (record { op = are.0.0; borders = are.0.1; amount = laws.below r.multiplier })
placed_by p laws n (r ∷ rs) are (suc i) s there = placed_by p laws n rs are.1 i s there

-- the readings of a word, but for the first ones, as the code has them
pub left_of : (p : Profile) (right : ℕ) (rs : List Reading) → drop right (starts_of p rs) ≡ starts_of p (drop right rs)
left_of p right rs = drop-map (start_at p) right (map as_source rs) ∙ ap (map (start_at p)) (drop-map as_source right rs)

pub placed_left : (p : Profile) (g : Lists) (k right : ℕ) → WordLaws p → EntryLaws → IsPart g → ArePlaced p (length g.operations)
    (starts_of p (drop right (readings g k)))
placed_left p g k right laws entries part =
    placed_by p laws (length g.operations) (drop right (readings g k)) (inside_left (length g.operations) right (readings g k) (are_inside g k entries part))

-- the readings of a word, as they are kept
pub placed_word : (g : Lists) (by_word : List (List Start)) (k : ℕ) (starts : List Start) → AreReadings g by_word → slice_get by_word k ≡ Some starts
    → WordLaws g.profile → EntryLaws → IsPart g → ArePlaced g.profile (length g.operations) starts
placed_word g by_word k starts are there laws entries part =
    subst (ArePlaced g.profile (length g.operations)) (sym (are.each k starts there)) (placed_left g.profile g k 0 laws entries part)

pub placed_one : (p : Profile) (n : ℕ) (start : Start) → IsPlaced p n start → ArePlaced p n (start ∷ [])
placed_one p n start is zero s there =
    let same : start ≡ s = cc in
    subst (IsPlaced p n) same is
placed_one p n start is (suc i) s there = absurd cc

-- ---- how many readings there are

one_most : (b : Bool) (r : Reading) → length (cond b (r ∷ []) []) ≤ 1
one_most true r = let le : 1 ≤ 1 = omega arith in le
one_most false r = let le : 0 ≤ 1 = omega arith in le

as_most : (k q : ℕ) (op : Op) (j : ℕ) → length (reading_as k q op j) ≤ 1
as_most k q op j =
    one_most (is_some (reads_as op.kind op.from j) && (k == named op j)) (record { op = q; operand = j; borders = 0; multiplier = multiplier op.kind j })

by_most : (k q : ℕ) (op : Op) → length (readings_by k q op) ≤ 3
by_most k q op =
    let first = as_most k q op 0 in
    let second = as_most k q op 1 in
    let third = as_most k q op 2 in
    let outer = length-append (reading_as k q op 0) (reading_as k q op 1 ++ reading_as k q op 2) in
    let inner = length-append (reading_as k q op 1) (reading_as k q op 2) in
    omega (arith, first, second, third, outer, inner)

from_most : (k q : ℕ) (ops : List Op) → length (readings_from k q ops) ≤ 3 * length ops
from_most k q [] = let le : 0 ≤ 3 * 0 = omega arith in le
from_most k q (op ∷ ops) =
    let first = by_most k q op in
    let more = from_most k (suc q) ops in
    let sum = length-append (readings_by k q op) (readings_from k (suc q) ops) in
    omega (arith, first, more, sum)

across_most : (k : ℕ) (held : List Cell) → length (readings_across k held) ≤ length held
across_most k [] = let le : 0 ≤ 0 = omega arith in le
across_most k (c ∷ held) =
    let first = one_most (k == c.store) (record { op = c.load; operand = 0; borders = 1; multiplier = pos 1 }) in
    let more = across_most k held in
    let sum = length-append (reading_across k c) (readings_across k held) in
    omega (arith, first, more, sum)

pub readings_most : (g : Lists) (k : ℕ) → IsPart g → length (readings g k) < 2 ^ 32
readings_most g k part =
    let first = from_most k 0 g.operations in
    let second = across_most k (cells g) in
    let sum = length-append (readings_from k 0 g.operations) (readings_across k (cells g)) in
    let cells_few = few_cells g part in
    let few = part.few_operations in
    omega (arith, first, second, sum, cells_few, few)
