-- Cells: the LOAD and the STORE of a cell are operations.
use Rattle.std.proofs.Common.{◌≡◌, ℕ, zero, suc, ◌<◌, ◌≤◌, List, [], ◌∷◌, length, slice_get, Some, ap, subst, refl, arith}
use Rattle.op_graph.specs.declared.op.Cell.{Cell}
use Rattle.op_graph.specs.declared.op.Loaded.{Loaded}
use Rattle.op_graph.specs.Lists.{Lists, joined, cells}
use Rattle.op_graph.specs.Laws.{EntryLaws}
use Rattle.op_graph.specs.Rules.{IsPart}

pub load_at : (loads : List Loaded) (stores : List ℕ) (i : ℕ) (c : Cell) → slice_get (joined loads stores) i ≡ Some c
    → (l : Loaded) × (slice_get loads i ≡ Some l) × (l.load ≡ c.load)
load_at [] stores i c e = absurd cc
load_at (l ∷ loads) [] i c e = absurd cc
load_at (l ∷ loads) (n ∷ stores) zero c e =
    let first : Cell = record { name = l.name; ty = l.ty; init = l.init; load = l.load; store = n } in
    let same : first ≡ c = cc in
    (l, refl, ap (λ (d : Cell). d.load) same)
load_at (l ∷ loads) (n ∷ stores) (suc i) c e = load_at loads stores i c e

pub store_at : (loads : List Loaded) (stores : List ℕ) (i : ℕ) (c : Cell) → slice_get (joined loads stores) i ≡ Some c → slice_get stores i ≡ Some c.store
store_at [] stores i c e = absurd cc
store_at (l ∷ loads) [] i c e = absurd cc
store_at (l ∷ loads) (n ∷ stores) zero c e =
    let first : Cell = record { name = l.name; ty = l.ty; init = l.init; load = l.load; store = n } in
    let same : first ≡ c = cc in
    ap (λ (d : Cell). Some d.store) same
store_at (l ∷ loads) (n ∷ stores) (suc i) c e = store_at loads stores i c e

pub load_inside : (g : Lists) (i : ℕ) (c : Cell) → EntryLaws → IsPart g → slice_get (cells g) i ≡ Some c → c.load < length g.operations
load_inside g i c laws part e =
    let l = load_at g.loads g.stores i c e in
    subst (λ n. n < length g.operations) l.2 (laws.load g i l.0 part l.1).load

pub store_inside : (g : Lists) (i : ℕ) (c : Cell) → EntryLaws → IsPart g → slice_get (cells g) i ≡ Some c → c.store < length g.operations
store_inside g i c laws part e = (laws.store g i c.store part (store_at g.loads g.stores i c e)).store

pub joined_most : (loads : List Loaded) (stores : List ℕ) → length (joined loads stores) ≤ length loads
joined_most [] stores = let le : 0 ≤ 0 = omega arith in le
joined_most (l ∷ loads) [] = let le : 0 ≤ suc (length loads) = omega arith in le
joined_most (l ∷ loads) (n ∷ stores) = let le = joined_most loads stores in omega (arith, le)

pub few_cells : (g : Lists) → IsPart g → length (cells g) ≤ 1024
few_cells g part = let le = joined_most g.loads g.stores in let few = part.few_cells in omega (arith, le, few)
