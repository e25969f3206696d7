-- CellOperations: the LOAD and the STORE of a cell have its number.
use Rattle.std.proofs.Common.{◌≡◌, ◌⊎◌, inl, inr, ℕ, suc, ◌<◌, ◌==◌, ℤ, pos, Bool, true, false, cond, List, [], ◌∷◌, length, take, slice_get, Option, Some}
use Rattle.std.proofs.Common.{None, All, refl, sym, ap, subst, ◌∙◌, arith}
use Rattle.std.specs.Prelude.{unsigned_abs}
use Rattle.std.specs.Option.{is_some}
use Rattle.std.proofs.lemmas.Bool.{cases_lt}
use Rattle.std.proofs.lemmas.Bool.Decides.{nat_tests, Decides-int_eq}
use Rattle.std.proofs.lemmas.List.{length-take-le}
use Rattle.std.proofs.lemmas.Option.{get_or_from_slice_get, slice_get_within}
use Rattle.vcp_base.specs.declared.ty.Ty.{Ty}
use Rattle.vcp_base.specs.declared.kind.Kind.{Kind}
use Rattle.vcp_base.specs.declared.kind.Kind.TheVariants as kind
use Rattle.op_graph.specs.declared.op.Op.{Op}
use Rattle.op_graph.specs.declared.op.Loaded.{Loaded}
use Rattle.op_graph.specs.Lists.{Lists, joined}
use Rattle.op_graph.specs.Walk.{passed, store_at}
use Rattle.op_graph.specs.Rules.{IsGraph, scope, place_of, entry, cell_entry, entry_of, is_load, is_store, kind_fits, imm_fits, OpFits}
use Rattle.op_graph.specs.declared.rules.Entry.{Entry}
use Rattle.op_graph.specs.Laws.{EntryLaws, WalkLaws}
use Rattle.graph_passes.specs.Marking.{OfOneCell}
use Rattle.graph_passes.proofs.Entries.{tests, is_its_load, is_its_store}
use Rattle.graph_passes.proofs.Keeping.{agreed_back, has_cell}
use Rattle.graph_passes.proofs.PartGraph.{get_front}

-- ---- the cell of a STORE

stored_test : (i k n : ℕ) (l : Option Loaded) (e : Entry) (b : Bool) → (n == i) ≡ b → cond b (cell_entry k l) None ≡ Some e → (n ≡ i) × (e.number ≡ k)
stored_test i k n (Some l) e true is h =
    let same : entry k l.ty ≡ e = cc in
    let here : n ≡ i = grind (arith, nat_tests) in
    (here, ap (λ (x : Entry). x.number) (sym same))
stored_test i k n None e true is h = absurd cc
stored_test i k n l e false is h = absurd cc

stored_entry : (loads : List Loaded) (i k : ℕ) (o : Option ℕ) (e : Entry) → store_at loads i k o ≡ Some e → (o ≡ Some i) × (e.number ≡ k)
stored_entry loads i k None e h = absurd cc
stored_entry loads i k (Some n) e h =
    let found = stored_test i k n (slice_get loads k) e (n == i) refl h in
    (ap Some found.0, found.1)

stored_by_number : (stores : List ℕ) (i p : ℕ) (to : Ty) (imm : ℤ) (o : Option Entry)
    → ((e : Entry) → o ≡ Some e → (slice_get stores p ≡ Some i) × (e.number ≡ p)) →
    is_some o ≡ true → imm_fits o kind.Store to imm ≡ true → slice_get stores (unsigned_abs imm) ≡ Some i
stored_by_number stores i p to imm None f some number = absurd cc
stored_by_number stores i p to imm (Some e) f some number =
    let c = f e refl in
    let is : imm ≡ pos e.number = (Decides-int_eq imm (pos e.number)).0 number in
    let place : unsigned_abs imm ≡ p = ap unsigned_abs is ∙ c.1 in
    ap (slice_get stores) place ∙ c.0

-- a STORE has the number of the cell that it stores
pub has_store : (walks : WalkLaws) (g : Lists) → IsGraph g → (i : ℕ) (k : Kind) (to : Ty) (imm : ℤ) → k ≡ kind.Store →
    kind_fits (place_of (scope g) i) k ≡ true → imm_fits (entry_of (place_of (scope g) i) k) k to imm ≡ true → slice_get g.stores (unsigned_abs imm) ≡ Some i
has_store walks g graph i kind.Store to imm is fits number =
    let p = place_of (scope g) i in
    let at = passed (λ (n : ℕ). n) i g.stores in
    let walk = walks.store (scope g) (length g.operations) i graph.part.stores in
    stored_by_number g.stores i at to imm p.store (λ e some. stored_entry g.loads i at (slice_get g.stores at) e (sym walk ∙ some))
    (agreed_back (is_store kind.Store) (is_some p.store) (tests p kind.Store fits).store refl) number
has_store walks g graph i _ to imm is fits number = absurd cc

-- ---- one cell

before_last : {X : Type 0} (f : X → ℕ) (xs : List X) (i j : ℕ) (x y : X) → slice_get xs i ≡ Some x → slice_get xs j ≡ Some y → i < j →
    All (λ w. f w < f y) (take j xs) → f x < f y
before_last f xs i j x y first second lt all =
    let inside = slice_get_within xs j y second in
    let long = length-take-le j xs (omega (arith, inside)) in
    let there : slice_get (take j xs) i ≡ Some x = get_front xs j i lt ∙ first in
    subst (λ w. f w < f y) (get_or_from_slice_get (take j xs) i x x there) (all i x (omega (arith, lt, long)))

-- entries of one number are one, where the numbers rise
one_place : {X : Type 0} (f : X → ℕ) (xs : List X) → ((j : ℕ) (y : X) → slice_get xs j ≡ Some y → All (λ w. f w < f y) (take j xs)) →
    (i j : ℕ) (x y : X) → slice_get xs i ≡ Some x → slice_get xs j ≡ Some y → f x ≡ f y → i ≡ j
one_place f xs rise i j x y first second same = elim (cases_lt i j) [
  | inl less ↦ let lt = before_last f xs i j x y first second less (rise j y second) in absurd (omega (arith, lt, same))
  | inr past ↦ elim (cases_lt j i) [
    | inl less ↦ let lt = before_last f xs j i y x second first less (rise i x first) in absurd (omega (arith, lt, same))
    | inr back ↦ omega (arith, past, back)
  ]
]

-- what stands for the other operation of a cell
pub record IsOther (g : Lists) (q n : ℕ) : Type 0 where
  pub inside : n < length g.operations
  pub sound : (n ≡ q) ⊎ OfOneCell g q n
  pub complete : (k : ℕ) → OfOneCell g q k → k ≡ n

some_is : {X : Type 0} {a b : X} → Some a ≡ Some b → a ≡ b
some_is e = cc

kind_load : (k : Kind) → is_load k ≡ true → k ≡ kind.Load
kind_load kind.Load h = refl
kind_load _ h = absurd cc

kind_store : (k : Kind) → is_store k ≡ true → k ≡ kind.Store
kind_store kind.Store h = refl
kind_store _ h = absurd cc

-- another kind is neither
pub not_load : (k : Kind) → (k ≡ kind.Load → ⊥) → is_load k ≡ false
not_load kind.Load other = absurd (other refl)
not_load _ other = refl

pub not_store : (k : Kind) → (k ≡ kind.Store → ⊥) → is_store k ≡ false
not_store kind.Store other = absurd (other refl)
not_store _ other = refl

load_is : (entries : EntryLaws) (g : Lists) → IsGraph g → (q : ℕ) (op : Op) → slice_get g.operations q ≡ Some op → (k : ℕ) (l : Loaded) →
    slice_get g.loads k ≡ Some l → q ≡ l.load → op.kind ≡ kind.Load
load_is entries g graph q op there k l at is =
    let fit : OpFits (place_of (scope g) q) (length g.turn_nodes) (take q g.operations) op = entries.operation g q op graph.part there in
    kind_load op.kind (is_its_load g k l op.kind at (subst (λ n. kind_fits (place_of (scope g) n) op.kind ≡ true) is fit.kind))

store_is : (entries : EntryLaws) (g : Lists) → IsGraph g → (q : ℕ) (op : Op) → slice_get g.operations q ≡ Some op → (k n : ℕ) →
    slice_get g.stores k ≡ Some n → q ≡ n → op.kind ≡ kind.Store
store_is entries g graph q op there k n at is =
    let fit : OpFits (place_of (scope g) q) (length g.turn_nodes) (take q g.operations) op = entries.operation g q op graph.part there in
    kind_store op.kind (is_its_store g k n op.kind graph.part.stored at (subst (λ m. kind_fits (place_of (scope g) m) op.kind ≡ true) is fit.kind))

load_other : (entries : EntryLaws) (g : Lists) → IsGraph g → (q : ℕ) (op : Op) → slice_get g.operations q ≡ Some op → op.kind ≡ kind.Load →
    (cell : ℕ) (l : Loaded) (n : ℕ) → slice_get g.loads cell ≡ Some l → slice_get g.stores cell ≡ Some n → l.load ≡ q → IsOther g q n
load_other entries g graph q op there load cell l n at stored is = record {
  inside = (entries.store g cell n graph.part stored).store;
  sound = inr (record { cell = cell; load = l; store = n; load_there = at; store_there = stored; are = inl (sym is, refl) });
  complete = λ k c. elim c.are [
    | inl are ↦
        let same = one_place (λ (x : Loaded). x.load) g.loads (λ j y y_there. (entries.load g j y graph.part y_there).load_rises)
        c.cell cell c.load l c.load_there at (sym are.0 ∙ sym is) in
        are.1 ∙ some_is (sym c.store_there ∙ ap (slice_get g.stores) same ∙ stored)
    | inr are ↦ absurd (
        let store = store_is entries g graph q op there c.cell c.store c.store_there are.0 in
        let clash : is_store kind.Load ≡ true = ap is_store (sym load ∙ store) in cc)
  ];
}

store_other : (entries : EntryLaws) (g : Lists) → IsGraph g → (q : ℕ) (op : Op) → slice_get g.operations q ≡ Some op → op.kind ≡ kind.Store →
    (cell : ℕ) (l : Loaded) → slice_get g.loads cell ≡ Some l → slice_get g.stores cell ≡ Some q → IsOther g q l.load
store_other entries g graph q op there store cell l at stored = record {
  inside = (entries.load g cell l graph.part at).load;
  sound = inr (record { cell = cell; load = l; store = q; load_there = at; store_there = stored; are = inr (refl, refl) });
  complete = λ k c. elim c.are [
    | inl are ↦ absurd (
        let load = load_is entries g graph q op there c.cell c.load c.load_there are.0 in
        let clash : is_load kind.Store ≡ true = ap is_load (sym store ∙ load) in cc)
    | inr are ↦
        let same = one_place (λ (n : ℕ). n) g.stores (λ j y y_there. (entries.store g j y graph.part y_there).store_rises)
        c.cell cell c.store q c.store_there stored (sym are.0) in
        are.1 ∙ ap (λ (x : Loaded). x.load) (some_is (sym c.load_there ∙ ap (slice_get g.loads) same ∙ at))
  ];
}

-- the STORE of the cell of a LOAD
pub other_of_load : (entries : EntryLaws) (walks : WalkLaws) (g : Lists) → IsGraph g → (q : ℕ) (op : Op) → slice_get g.operations q ≡ Some op →
    op.kind ≡ kind.Load → (n : ℕ) → slice_get g.stores (unsigned_abs op.imm) ≡ Some n → IsOther g q n
other_of_load entries walks g graph q op there load n stored =
    let fit : OpFits (place_of (scope g) q) (length g.turn_nodes) (take q g.operations) op = entries.operation g q op graph.part there in
    let cell = has_cell walks g graph q 0 [] op.kind op.ty op.imm load fit.kind fit.imm in
    load_other entries g graph q op there load (unsigned_abs op.imm) cell.cell n cell.there stored cell.load

-- the LOAD of the cell of a STORE
pub other_of_store : (entries : EntryLaws) (walks : WalkLaws) (g : Lists) → IsGraph g → (q : ℕ) (op : Op) → slice_get g.operations q ≡ Some op →
    op.kind ≡ kind.Store → (l : Loaded) → slice_get g.loads (unsigned_abs op.imm) ≡ Some l → IsOther g q l.load
other_of_store entries walks g graph q op there store l at =
    let fit : OpFits (place_of (scope g) q) (length g.turn_nodes) (take q g.operations) op = entries.operation g q op graph.part there in
    store_other entries g graph q op there store (unsigned_abs op.imm) l at (has_store walks g graph q op.kind op.ty op.imm store fit.kind fit.imm)

-- an operation of another kind is of no cell
pub other_of_none : (entries : EntryLaws) (g : Lists) → IsGraph g → (q : ℕ) (op : Op) → slice_get g.operations q ≡ Some op →
    is_load op.kind ≡ false → is_store op.kind ≡ false → IsOther g q q
other_of_none entries g graph q op there no_load no_store = record {
  inside = slice_get_within g.operations q op there;
  sound = inl refl;
  complete = λ k c. elim c.are [
    | inl are ↦ absurd (
        let load = load_is entries g graph q op there c.cell c.load c.load_there are.0 in
        let clash : is_load kind.Load ≡ false = ap is_load (sym load) ∙ no_load in cc)
    | inr are ↦ absurd (
        let store = store_is entries g graph q op there c.cell c.store c.store_there are.0 in
        let clash : is_store kind.Store ≡ false = ap is_store (sym store) ∙ no_store in cc)
  ];
}

-- the number of a LOAD's or a STORE's cell is in bounds
pub load_inside : (entries : EntryLaws) (walks : WalkLaws) (g : Lists) → IsGraph g → (q : ℕ) (op : Op) → slice_get g.operations q ≡ Some op →
    op.kind ≡ kind.Load → unsigned_abs op.imm < length g.loads
load_inside entries walks g graph q op there load =
    let fit : OpFits (place_of (scope g) q) (length g.turn_nodes) (take q g.operations) op = entries.operation g q op graph.part there in
    let cell = has_cell walks g graph q 0 [] op.kind op.ty op.imm load fit.kind fit.imm in
    slice_get_within g.loads (unsigned_abs op.imm) cell.cell cell.there

pub store_inside : (entries : EntryLaws) (walks : WalkLaws) (g : Lists) → IsGraph g → (q : ℕ) (op : Op) → slice_get g.operations q ≡ Some op →
    op.kind ≡ kind.Store → unsigned_abs op.imm < length g.loads
store_inside entries walks g graph q op there store =
    let fit : OpFits (place_of (scope g) q) (length g.turn_nodes) (take q g.operations) op = entries.operation g q op graph.part there in
    let inside = slice_get_within g.stores (unsigned_abs op.imm) q (has_store walks g graph q op.kind op.ty op.imm store fit.kind fit.imm) in
    let all = graph.all_stored in
    omega (arith, inside, all)

pub joined_long : (loads : List Loaded) (stores : List ℕ) → length stores ≡ length loads → length (joined loads stores) ≡ length loads
joined_long [] stores same = refl
joined_long (l ∷ loads) [] same = absurd (omega (arith, same))
joined_long (l ∷ loads) (n ∷ stores) same = ap suc (joined_long loads stores (omega (arith, same)))
