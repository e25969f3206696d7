-- Boxed: what holds at each cell, at first, where it is stored and in boxes.
use Rattle.std.proofs.Common.{◌≡◌, ℕ, ◌⊎◌, ℤ, ◌≤ℤ◌, ◌<ℤ◌, Bool, List, length, slice_get, Some, sym, subst, arith}
use Rattle.std.proofs.lemmas.Int.{ints}
use Rattle.std.proofs.lemmas.Option.{slice_get_within}
use Rattle.vcp_base.specs.Values.{at}
use Rattle.op_graph.specs.declared.op.Loaded.{Loaded}
use Rattle.op_graph.specs.Lists.{Lists}
use Rattle.op_graph.specs.Laws.{EntryLaws}
use Rattle.op_graph.specs.Rules.{IsGraph}
use Rattle.op_graph.specs.GraphRun.{initial, stored}
use Rattle.range_walk.specs.declared.range.Range.{Range}
use Rattle.range_walk.specs.Intervals.{IsIn, Fit, Hold}
use Rattle.range_audit.specs.Searching.{Loads}
use Rattle.range_audit.proofs.Steps.{get_there, map_at, AllAt}

abbrev pub InsideAt : List Range → List Range → ℕ → Type 0
InsideAt cells other k = (s r : Range) → slice_get cells k ≡ Some s → slice_get other k ≡ Some r → (v : ℤ) → IsIn s v → IsIn r v

pub inside_same : (s t r q : Range) → s ≡ t → r ≡ q → ((v : ℤ) → IsIn s v → IsIn r v) → (v : ℤ) → IsIn t v → IsIn q v
inside_same s t r q e f inside v i = subst (λ x. IsIn x v) f (inside v (subst (λ x. IsIn x v) (sym e) i))

abbrev pub LoadedAt : Bool → List Loaded → ℕ → Range → Type 0
LoadedAt typed loads k r = (m : Loaded) → slice_get loads k ≡ Some m → (v : ℤ) → Loads typed m v → IsIn r v

abbrev pub StoredAt : List ℕ → List Range → ℕ → Range → Type 0
StoredAt stores ranges k r = (n : ℕ) → slice_get stores k ≡ Some n → slice_get ranges n ≡ Some r

-- the initial values are those with which cells begin
pub initial_loaded : (g : Lists) (k : ℕ) (m : Loaded) → slice_get g.loads k ≡ Some m → at (initial g) k ≡ m.init
initial_loaded g k m there = map_at (λ l. l.init) g.loads k m there

pub stored_hold : (g : Lists) (cells ranges : List Range) → EntryLaws → IsGraph g → AllAt (StoredAt g.stores ranges) cells (length g.stores)
    → (vs : List ℤ) → length vs ≡ length g.operations → Fit ranges vs → Hold cells (stored g vs)
stored_hold g cells ranges entries graph all vs whole fit = λ k r there.
    let lt = slice_get_within cells k r there in
    let n = get_there g.stores k (omega (arith, lt, all.many)) in
    let inside = (entries.store g k n.0 graph.part n.1).store in
    subst (λ v. IsIn r v) (sym (map_at (λ n. at vs n) g.stores k n.0 n.1)) (fit n.0 r (omega (arith, inside, whole)) (all.each k r there n.0 n.1))

pub no_more_or_more : (v m : ℤ) → (v ≤ℤ m) ⊎ (m <ℤ v)
no_more_or_more v m = grind (arith, ints)
