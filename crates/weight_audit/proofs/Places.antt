-- Places: the LOAD and the STORE of a cell are operations, and what operations read comes before them.
use Rattle.std.proofs.Common.{◌≡◌, ℕ, zero, suc, ◌<◌, true, List, [], ◌∷◌, length, drop, take, slice_get, Some, ap, ◌∙◌, subst, arith, refl}
use Rattle.std.proofs.lemmas.Option.{get_or_from_slice_get, slice_get_within}
use Rattle.std.proofs.Math.Seq.{drop-cons}
use Rattle.std.specs.Option.{is_some}
use Rattle.op_graph.specs.declared.op.Cell.{Cell}
use Rattle.op_graph.specs.declared.op.Loaded.{Loaded}
use Rattle.op_graph.specs.declared.op.Op.{Op}
use Rattle.op_graph.specs.Lists.{Lists, joined, cells}
use Rattle.op_graph.specs.Reads.{named, Reads}
use Rattle.op_graph.specs.Rules.{IsPart, LoadFits, StoreFits, reads_as}
use Rattle.weight_audit.proofs.FirstSteps.{ReadsBefore, factor-none}

-- the laws of graphs on which this rests, as they are called
abbrev pub Earlier : Lists → Type 0
Earlier g = (q k j : ℕ) → Reads g.operations q k j → k < q

pub front_of : {X : Type 0} (xs : List X) (i : ℕ) (x : X) → slice_get xs i ≡ Some x → drop i xs ≡ x ∷ drop (suc i) xs
front_of xs i x e = drop-cons xs i x (slice_get_within xs i x e) ∙ ap (λ y. y ∷ drop (suc i) xs) (get_or_from_slice_get xs i x x e)

pub load_at : (loads : List Loaded) (stores : List ℕ) (i : ℕ) (c : Cell) → slice_get (joined loads stores) i ≡ Some c
    → (l : Loaded) × (slice_get loads i ≡ Some l) × (l.load ≡ c.load)
load_at [] stores i c e = absurd cc
load_at (l ∷ loads) [] i c e = absurd cc
load_at (l ∷ loads) (n ∷ stores) zero c e =
    let first : Cell = record { name = l.name; ty = l.ty; init = l.init; load = l.load; store = n } in
    let same : first ≡ c = cc in
    (l, refl, ap (λ (d : Cell). d.load) same)
load_at (l ∷ loads) (n ∷ stores) (suc i) c e = load_at loads stores i c e

pub store_at : (loads : List Loaded) (stores : List ℕ) (i : ℕ) (c : Cell) → slice_get (joined loads stores) i ≡ Some c → slice_get stores i ≡ Some c.store
store_at [] stores i c e = absurd cc
store_at (l ∷ loads) [] i c e = absurd cc
store_at (l ∷ loads) (n ∷ stores) zero c e =
    let first : Cell = record { name = l.name; ty = l.ty; init = l.init; load = l.load; store = n } in
    let same : first ≡ c = cc in
    ap (λ (d : Cell). Some d.store) same
store_at (l ∷ loads) (n ∷ stores) (suc i) c e = store_at loads stores i c e

pub load_inside : (g : Lists) (i : ℕ) (c : Cell) → IsPart g
    → ((k : ℕ) (l : Loaded) → IsPart g → slice_get g.loads k ≡ Some l → LoadFits (length g.names) (length g.operations) (take k g.loads) l)
    → slice_get (cells g) i ≡ Some c → c.load < length g.operations
load_inside g i c part law e =
    let l = load_at g.loads g.stores i c e in
    subst (λ n. n < length g.operations) l.2 (law i l.0 part l.1).load

pub store_inside : (g : Lists) (i : ℕ) (c : Cell) → IsPart g
    → ((k n : ℕ) → IsPart g → slice_get g.stores k ≡ Some n → StoreFits g.loads (length g.operations) (take k g.stores) n) → slice_get (cells g) i ≡ Some c
    → c.store < length g.operations
store_inside g i c part law e = (law i c.store part (store_at g.loads g.stores i c e)).store

-- what operation q reads has a lower number, so it is an operation
pub operand_inside : (g : Lists) (q : ℕ) (op : Op) (j : ℕ) → Earlier g → slice_get g.operations q ≡ Some op → is_some (reads_as op.kind op.from j) ≡ true
    → named op j < length g.operations
operand_inside g q op j earlier there reads =
    let before : named op j < q = earlier q (named op j) j (record { op = op; there = there; operand = reads; names = refl }) in
    omega (arith, before, slice_get_within g.operations q op there)

pub reads_before : (g : Lists) → Earlier g → ReadsBefore 0 g.operations
reads_before g earlier q k op there le = factor-none op k (λ j reads names.
    let before : k < q = earlier q k j (record { op = op; there = there; operand = reads; names = names }) in
    omega (arith, before, le))
