-- Entries: the operation of an input, an output or a cell has the kind of its list.
use Rattle.std.proofs.Common.{◌≡◌, ℕ, zero, suc, ◌+◌, ◌<◌, ◌≤◌, ◌==◌, Bool, true, false, ◌&&◌, cond, List, [], ◌∷◌, length, slice_get, Option, Some, refl, ap}
use Rattle.std.proofs.Common.{subst, arith}
use Rattle.std.specs.Option.{is_some}
use Rattle.std.proofs.lemmas.Bool.Decides.{nat_tests}
use Rattle.vcp_base.specs.declared.ty.Ty.{Ty}
use Rattle.vcp_base.specs.declared.kind.Kind.{Kind}
use Rattle.op_graph.specs.declared.op.Outlet.{Outlet}
use Rattle.op_graph.specs.declared.op.Loaded.{Loaded}
use Rattle.op_graph.specs.Lists.{Lists}
use Rattle.op_graph.specs.Rules.{scope, place_of, entry, numbered, found, stored_by, cell_entry, agree, is_input, is_load, is_store, is_out}
use Rattle.op_graph.specs.declared.rules.Place.{Place}
use Rattle.op_graph.specs.declared.rules.Entry.{Entry}
use Rattle.op_graph.specs.Rules.{kind_fits}
use Rattle.graph_passes.proofs.Chosen.{get_there}

two : (a b : Bool) → (a && b) ≡ true → (a ≡ true) × (b ≡ true)
two true true h = (refl, refl)
two true false h = absurd cc
two false b h = absurd cc

agreed : (a b : Bool) → agree a b ≡ true → b ≡ true → a ≡ true
agreed true b h e = refl
agreed false true h e = absurd cc
agreed false false h e = absurd cc

-- the four tests of a kind
pub record Tests (p : Place) (k : Kind) : Type 0 where
  pub input : agree (is_input k) (is_some p.input) ≡ true
  pub load : agree (is_load k) (is_some p.load) ≡ true
  pub store : agree (is_store k) (is_some p.store) ≡ true
  pub out : agree (is_out k) (is_some p.out) ≡ true

pub tests : (p : Place) (k : Kind) → kind_fits p k ≡ true → Tests p k
tests p k fits =
    let third = two (agree (is_input k) (is_some p.input) && agree (is_load k) (is_some p.load) && agree (is_store k) (is_some p.store)) (agree (is_out k)
    (is_some p.out)) fits in
    let second = two (agree (is_input k) (is_some p.input) && agree (is_load k) (is_some p.load)) (agree (is_store k) (is_some p.store)) third.0 in
    let first = two (agree (is_input k) (is_some p.input)) (agree (is_load k) (is_some p.load)) second.0 in
    record { input = first.0; load = first.1; store = second.1; out = third.1 }

eqb_self : (n : ℕ) → (n == n) ≡ true
eqb_self n = grind (arith, nat_tests)

some_now : (o rest : Option Entry) (b : Bool) → b ≡ true → is_some o ≡ true → is_some (cond b o rest) ≡ true
some_now o rest true e h = h
some_now o rest false e h = absurd cc

some_later : (o rest : Option Entry) (b : Bool) → is_some o ≡ true → is_some rest ≡ true → is_some (cond b o rest) ≡ true
some_later o rest true h e = h
some_later o rest false h e = e

found_some : {X : Type 0} (p : X → Bool) (t : X → Ty) (n k : ℕ) (x : X) (xs : List X) → slice_get xs k ≡ Some x → p x ≡ true → is_some (found p t n xs) ≡ true
found_some p t n k x [] there e = absurd cc
found_some p t n zero x (y ∷ xs) there e = let same : x ≡ y = cc in
    some_now (Some (entry n (t y))) (found p t (n + 1) xs) (p y) (subst (λ z. p z ≡ true) same e) refl
found_some p t n (suc k) x (y ∷ xs) there e = some_later (Some (entry n (t y))) (found p t (n + 1) xs) (p y) refl (found_some p t (n + 1) k x xs there e)

cell_some : (loads : List Loaded) (k : ℕ) → k < length loads → is_some (cell_entry k (slice_get loads k)) ≡ true
cell_some loads k lt = let l = get_there loads k lt in ap (λ o. is_some (cell_entry k o)) l.1

stored_some : (loads : List Loaded) (s k n : ℕ) (ns : List ℕ) → s + length ns ≤ length loads → slice_get ns k ≡ Some n → is_some (stored_by loads n s ns) ≡ true
stored_some loads s k n [] le there = absurd cc
stored_some loads s zero n (x ∷ ns) le there = let same : n ≡ x = cc in
    some_now (cell_entry s (slice_get loads s)) (stored_by loads n (s + 1) ns) (x == n) (subst (λ z. (z == n) ≡ true) same (eqb_self n)) (cell_some loads s
    (omega (arith, le)))
stored_some loads s (suc k) n (x ∷ ns) le there = some_later (cell_entry s (slice_get loads s)) (stored_by loads n (s + 1) ns) (x == n) (cell_some loads s
    (omega (arith, le))) (stored_some loads (s + 1) k n ns (omega (arith, le)) there)

pub is_its_out : (g : Lists) (k : ℕ) (o : Outlet) (kind : Kind) → slice_get g.outputs k ≡ Some o → kind_fits (place_of (scope g) o.op) kind ≡ true →
    is_out kind ≡ true
is_its_out g k o kind there fits =
    let p = place_of (scope g) o.op in
    agreed (is_out kind) (is_some p.out) (tests p kind fits).out (found_some (λ (x : Outlet). x.op == o.op) (λ x. x.ty) 0 k o g.outputs there (eqb_self o.op))

pub is_its_load : (g : Lists) (k : ℕ) (l : Loaded) (kind : Kind) → slice_get g.loads k ≡ Some l → kind_fits (place_of (scope g) l.load) kind ≡ true →
    is_load kind ≡ true
is_its_load g k l kind there fits =
    let p = place_of (scope g) l.load in
    agreed (is_load kind) (is_some p.load) (tests p kind fits).load (found_some (λ (x : Loaded). x.load == l.load) (λ x. x.ty) 0 k l g.loads there
    (eqb_self l.load))

pub is_its_store : (g : Lists) (k n : ℕ) (kind : Kind) → length g.stores ≤ length g.loads → slice_get g.stores k ≡ Some n →
    kind_fits (place_of (scope g) n) kind ≡ true → is_store kind ≡ true
is_its_store g k n kind le there fits =
    let p = place_of (scope g) n in
    agreed (is_store kind) (is_some p.store) (tests p kind fits).store (stored_some g.loads 0 k n g.stores (omega (arith, le)) there)

pub is_its_input : (g : Lists) (i : ℕ) (kind : Kind) → i < length g.inputs → kind_fits (place_of (scope g) i) kind ≡ true → is_input kind ≡ true
is_its_input g i kind lt fits =
    let p = place_of (scope g) i in
    let v = get_there g.inputs i lt in
    agreed (is_input kind) (is_some p.input) (tests p kind fits).input (ap (λ o. is_some (numbered i o)) v.1)
