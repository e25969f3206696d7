-- ReadOnce: each reading of a word stands once among its readings, and has the multiplier of the operand that reads.
use Rattle.std.proofs.Common.{◌≡◌, ◌≢◌, ⊎_elim, ℕ, zero, suc, ◌+◌, ◌*◌, ◌<◌, ◌≤◌, ◌==◌, ◌&&◌, cond, Bool, true, false, List, [], ◌∷◌, ◌++◌, length, drop}
use Rattle.std.proofs.Common.{take, slice_get}
use Rattle.std.proofs.Common.{pos, Some, ap, sym, subst, ◌∙◌, refl, arith}
use Rattle.std.specs.Option.{is_some}
use Rattle.std.proofs.Math.ListN.{get_or}
use Rattle.std.proofs.lemmas.Bool.Decides.{eqb_tells}
use Rattle.std.proofs.lemmas.List.{get_or-take, length-take-le}
use Rattle.std.proofs.lemmas.Option.{get_or_from_slice_get, slice_get_within}
use Rattle.vcp_base.specs.declared.kind.Kind.{Kind}
use Rattle.vcp_base.specs.declared.kind.Kind.TheVariants as kind
use Rattle.vcp_base.specs.Kinds.{multiplier}
use Rattle.op_graph.specs.declared.op.Cell.{Cell}
use Rattle.op_graph.specs.declared.op.Loaded.{Loaded}
use Rattle.op_graph.specs.declared.op.Op.{Op}
use Rattle.op_graph.specs.Laws.{EntryLaws}
use Rattle.op_graph.specs.Lists.{Lists, cells}
use Rattle.op_graph.specs.Reads.{named}
use Rattle.op_graph.specs.Rules.{IsPart, agree, entry, found, is_input, is_load, is_out, is_store, place_of, reads_as, scope}
use Rattle.fault_cover.specs.Sources.{Reading, reading_across, reading_as, readings, readings_across, readings_by, readings_from}
use Rattle.fault_cover.proofs.Adding.{there_is}
use Rattle.fault_cover.proofs.Cells.{load_at, load_inside}
use Rattle.fault_cover.proofs.Loads.{both_true}

-- ---- readings in order

-- readings are by these operations and operands, one after another, and those across a border come last
abbrev pub rank : ℕ → Reading → ℕ
rank n r = 3 * (r.borders * n + r.op) + r.operand

-- the ranks of these readings rise, from the first number on and up to the last
abbrev pub Rising : ℕ → ℕ → ℕ → List Reading → Type 0
Rising n low high [] = low ≤ high
Rising n low high (r ∷ rs) = (low ≤ rank n r) × Rising n (rank n r + 1) high rs

lower : (n low least high : ℕ) (rs : List Reading) → least ≤ low → Rising n low high rs → Rising n least high rs
lower n low least high [] le rising = omega (arith, le, rising)
lower n low least high (r ∷ rs) le rising = (let first = rising.0 in omega (arith, le, first), rising.1)

both_rise : (n low middle high : ℕ) (xs ys : List Reading) → Rising n low middle xs → Rising n middle high ys → Rising n low high (xs ++ ys)
both_rise n low middle high [] ys first second = lower n middle low high ys first second
both_rise n low middle high (r ∷ xs) ys first second = (first.0, both_rise n (rank n r + 1) middle high xs ys first.1 second)

one_rises : (n low high : ℕ) (b : Bool) (r : Reading) → low ≤ rank n r → rank n r + 1 ≤ high → Rising n low high (cond b (r ∷ []) [])
one_rises n low high true r le lt = (le, lt)
one_rises n low high false r le lt = omega (arith, le, lt)

as_rises : (n k q : ℕ) (op : Op) (j : ℕ) → Rising n (3 * q + j) (3 * q + (j + 1)) (reading_as k q op j)
as_rises n k q op j =
    one_rises n (3 * q + j) (3 * q + (j + 1)) (is_some (reads_as op.kind op.from j) && (k == named op j))
    (record { op = q; operand = j; borders = 0; multiplier = multiplier op.kind j }) (omega arith) (omega arith)

by_rises : (n k q : ℕ) (op : Op) → Rising n (3 * q + 0) (3 * q + (2 + 1)) (readings_by k q op)
by_rises n k q op =
    both_rise n (3 * q + 0) (3 * q + (0 + 1)) (3 * q + (2 + 1)) (reading_as k q op 0) (reading_as k q op 1 ++ reading_as k q op 2) (as_rises n k q op 0)
    (both_rise n (3 * q + 1) (3 * q + (1 + 1)) (3 * q + (2 + 1)) (reading_as k q op 1) (reading_as k q op 2) (as_rises n k q op 1) (as_rises n k q op 2))

from_rises : (n k q : ℕ) (ops : List Op) → Rising n (3 * q) (3 * (q + length ops)) (readings_from k q ops)
from_rises n k q [] = omega arith
from_rises n k q (op ∷ ops) =
    let first : Rising n (3 * q) (3 * suc q) (readings_by k q op) =
    subst (λ m. Rising n m (3 * suc q) (readings_by k q op)) (let none : 3 * q + 0 ≡ 3 * q = omega arith in none)
    (subst (λ m. Rising n (3 * q + 0) m (readings_by k q op)) (let next : 3 * q + (2 + 1) ≡ 3 * suc q = omega arith in next) (by_rises n k q op)) in
    let more : Rising n (3 * suc q) (3 * (q + suc (length ops))) (readings_from k (suc q) ops) =
    subst (λ m. Rising n (3 * suc q) m (readings_from k (suc q) ops))
    (let same : 3 * (suc q + length ops) ≡ 3 * (q + suc (length ops)) = omega arith in same) (from_rises n k (suc q) ops) in
    both_rise n (3 * q) (3 * suc q) (3 * (q + suc (length ops))) (readings_by k q op) (readings_from k (suc q) ops) first more

-- the LOADs of these cells rise, and are operations
pub record LoadsRise (n low : ℕ) (held : List Cell) : Type 0 where
  pub least : (i : ℕ) (c : Cell) → slice_get held i ≡ Some c → low ≤ c.load
  pub inside : (i : ℕ) (c : Cell) → slice_get held i ≡ Some c → c.load < n
  pub rise : (i j : ℕ) (c d : Cell) → i < j → slice_get held i ≡ Some c → slice_get held j ≡ Some d → c.load < d.load

across_rises : (n k low : ℕ) (held : List Cell) → low ≤ n → LoadsRise n low held → Rising n (3 * (n + low)) (3 * (n + n)) (readings_across k held)
across_rises n k low [] few rise = omega (arith, few)
across_rises n k low (c ∷ held) few rise =
    let least = rise.least 0 c refl in
    let inside = rise.inside 0 c refl in
    let one : Reading = record { op = c.load; operand = 0; borders = 1; multiplier = pos 1 } in
    both_rise n (3 * (n + low)) (3 * (n + suc c.load)) (3 * (n + n)) (reading_across k c) (readings_across k held)
    (one_rises n (3 * (n + low)) (3 * (n + suc c.load)) (k == c.store) one (omega (arith, least)) (omega (arith, least)))
    (across_rises n k (suc c.load) held (omega (arith, inside)) (record {
      least = λ i d there. let lt = rise.rise 0 (suc i) c d (omega arith) refl there in omega (arith, lt);
      inside = λ i d there. rise.inside (suc i) d there;
      rise = λ i j d e lt there that. rise.rise (suc i) (suc j) d e (omega (arith, lt)) there that;
    }))

loads_rise : (g : Lists) → EntryLaws → IsPart g → (i j : ℕ) (c d : Cell) → i < j → slice_get (cells g) i ≡ Some c → slice_get (cells g) j ≡ Some d
    → c.load < d.load
loads_rise g laws part i j c d lt there that =
    let one = load_at g.loads g.stores i c there in
    let other = load_at g.loads g.stores j d that in
    let inside = slice_get_within g.loads j other.0 other.1 in
    let many : length (take j g.loads) ≡ j = length-take-le j g.loads (omega (arith, inside)) in
    let here : get_or (take j g.loads) i one.0 ≡ one.0 = get_or-take j g.loads i one.0 lt ∙ get_or_from_slice_get g.loads i one.0 one.0 one.1 in
    let less = subst (λ (x : Loaded). x.load < other.0.load) here ((laws.load g j other.0 part other.1).load_rises i one.0 (omega (arith, many, lt))) in
    let first = one.2 in
    let second = other.2 in
    omega (arith, less, first, second)

pub readings_rise : (g : Lists) (k : ℕ) → EntryLaws → IsPart g
    → Rising (length g.operations) 0 (3 * (length g.operations + length g.operations)) (readings g k)
readings_rise g k laws part =
    let n = length g.operations in
    let first : Rising n 0 (3 * (n + 0)) (readings_from k 0 g.operations) =
    subst (λ m. Rising n 0 m (readings_from k 0 g.operations)) (let same : 3 * (0 + n) ≡ 3 * (n + 0) = omega arith in same) (from_rises n k 0 g.operations) in
    both_rise n 0 (3 * (n + 0)) (3 * (n + n)) (readings_from k 0 g.operations) (readings_across k (cells g)) first
    (across_rises n k 0 (cells g) (omega arith) (record {
      least = λ i c there. omega arith;
      inside = λ i c there. load_inside g i c laws part there;
      rise = λ i j c d lt there that. loads_rise g laws part i j c d lt there that;
    }))

pub left_rise : (n low high right : ℕ) (rs : List Reading) → Rising n low high rs → Rising n low high (drop right rs)
left_rise n low high zero rs rising = rising
left_rise n low high (suc right) [] rising = rising
left_rise n low high (suc right) (r ∷ rs) rising =
    let le = rising.0 in
    left_rise n low high right rs (lower n (rank n r + 1) low high rs (omega (arith, le)) rising.1)

-- those that come are no lower
pub no_lower : (n low high : ℕ) (rs : List Reading) (i : ℕ) (r : Reading) → Rising n low high rs → slice_get rs i ≡ Some r → low ≤ rank n r
no_lower n low high [] i r rising there = absurd cc
no_lower n low high (s ∷ rs) zero r rising there =
    let same : s ≡ r = cc in
    subst (λ x. low ≤ rank n x) same rising.0
no_lower n low high (s ∷ rs) (suc i) r rising there =
    let more = no_lower n (rank n s + 1) high rs i r rising.1 there in
    let first = rising.0 in
    omega (arith, more, first)

-- ---- what reads

-- a reading is by an operation that is there, and has the multiplier of its operand
pub record IsReadBy (g : Lists) (r : Reading) : Type 0 where
  pub op : Op
  pub there : slice_get g.operations r.op ≡ Some op
  pub multiplier_is : r.multiplier ≡ multiplier op.kind r.operand

abbrev pub AreReadBy : Lists → List Reading → Type 0
AreReadBy g [] = Unit {0}
AreReadBy g (r ∷ rs) = IsReadBy g r × AreReadBy g rs

both_read : (g : Lists) (xs ys : List Reading) → AreReadBy g xs → AreReadBy g ys → AreReadBy g (xs ++ ys)
both_read g [] ys first second = second
both_read g (x ∷ xs) ys first second = (first.0, both_read g xs ys first.1 second)

one_read : (g : Lists) (b : Bool) (r : Reading) → IsReadBy g r → AreReadBy g (cond b (r ∷ []) [])
one_read g true r is = (is, tt)
one_read g false r is = tt

as_read : (g : Lists) (k q : ℕ) (op : Op) (j : ℕ) → slice_get g.operations q ≡ Some op → AreReadBy g (reading_as k q op j)
as_read g k q op j there =
    one_read g (is_some (reads_as op.kind op.from j) && (k == named op j)) (record { op = q; operand = j; borders = 0; multiplier = multiplier op.kind j })
    (record { op = op; there = there; multiplier_is = refl })

by_read : (g : Lists) (k q : ℕ) (op : Op) → slice_get g.operations q ≡ Some op → AreReadBy g (readings_by k q op)
by_read g k q op there =
    both_read g (reading_as k q op 0) (reading_as k q op 1 ++ reading_as k q op 2) (as_read g k q op 0 there)
    (both_read g (reading_as k q op 1) (reading_as k q op 2) (as_read g k q op 1 there) (as_read g k q op 2 there))

from_read : (g : Lists) (k q : ℕ) (ops : List Op) → ((j : ℕ) (op : Op) → slice_get ops j ≡ Some op → slice_get g.operations (q + j) ≡ Some op)
    → AreReadBy g (readings_from k q ops)
from_read g k q [] there = tt
from_read g k q (op ∷ ops) there =
    both_read g (readings_by k q op) (readings_from k (suc q) ops)
    (by_read g k q op (subst (λ m. slice_get g.operations m ≡ Some op) (let none : q + 0 ≡ q = omega arith in none) (there 0 op refl)))
    (from_read g k (suc q) ops
    (λ j o e. subst (λ m. slice_get g.operations m ≡ Some o) (let more : q + suc j ≡ suc q + j = omega arith in more) (there (suc j) o e)))

across_read : (g : Lists) (k : ℕ) (held : List Cell) → ((i : ℕ) (c : Cell) → slice_get held i ≡ Some c
    → IsReadBy g (record { op = c.load; operand = 0; borders = 1; multiplier = pos 1 })) → AreReadBy g (readings_across k held)
across_read g k [] each = tt
across_read g k (c ∷ held) each =
    both_read g (reading_across k c) (readings_across k held)
    (one_read g (k == c.store) (record { op = c.load; operand = 0; borders = 1; multiplier = pos 1 }) (each 0 c refl))
    (across_read g k held (λ i d there. each (suc i) d there))

-- the LOAD of a cell is one
found_later : (q : ℕ) (m l : Loaded) (loads : List Loaded) (i : ℕ) (b : Bool) → slice_get (m ∷ loads) i ≡ Some l → l.load ≡ q → (m.load ≡ q → ⊥)
    → ((j : ℕ) → slice_get loads j ≡ Some l → b ≡ true) → b ≡ true
found_later q m l loads zero b there is other more =
    let same : m ≡ l = cc in
    absurd (other (ap (λ (x : Loaded). x.load) same ∙ is))
found_later q m l loads (suc i) b there is other more = more i there

load_found : (q k : ℕ) (loads : List Loaded) (i : ℕ) (l : Loaded) → slice_get loads i ≡ Some l → l.load ≡ q
    → is_some (found (λ (m : Loaded). m.load == q) (λ m. m.ty) k loads) ≡ true
load_found q k [] i l there is = absurd cc
load_found q k (m ∷ loads) i l there is =
    let rest = found (λ (o : Loaded). o.load == q) (λ o. o.ty) (k + 1) loads in
    ⊎_elim
    (λ (h : ((m.load == q) ≡ true) × (m.load ≡ q)). ap (λ b. is_some (cond b (Some (entry k m.ty)) rest)) h.0)
    (λ (h : ((m.load == q) ≡ false) × (m.load ≢ q)).
    ap (λ b. is_some (cond b (Some (entry k m.ty)) rest)) h.0
    ∙ found_later q m l loads i (is_some rest) there is h.1 (λ j that. load_found q (k + 1) loads j l that is))
    (eqb_tells m.load q)

agrees : (a b : Bool) → b ≡ true → agree a b ≡ true → a ≡ true
agrees true b e h = refl
agrees false true e h = absurd cc
agrees false false e h = absurd cc

load_once : (k : Kind) → is_load k ≡ true → multiplier k 0 ≡ pos 1
load_once kind.Load is = refl
load_once _ is = absurd cc

cell_read : (g : Lists) (i : ℕ) (c : Cell) → EntryLaws → IsPart g → slice_get (cells g) i ≡ Some c
    → IsReadBy g (record { op = c.load; operand = 0; borders = 1; multiplier = pos 1 })
cell_read g i c laws part there =
    let o = there_is g.operations c.load (load_inside g i c laws part there) in
    let l = load_at g.loads g.stores i c there in
    let p = place_of (scope g) c.load in
    let fits = (laws.operation g c.load o.0 part o.1).kind in
    let outs = both_true (agree (is_input o.0.kind) (is_some p.input) && agree (is_load o.0.kind) (is_some p.load)
    && agree (is_store o.0.kind) (is_some p.store)) (agree (is_out o.0.kind) (is_some p.out)) fits in
    let stores = both_true (agree (is_input o.0.kind) (is_some p.input) && agree (is_load o.0.kind) (is_some p.load))
    (agree (is_store o.0.kind) (is_some p.store)) outs.0 in
    let loads = both_true (agree (is_input o.0.kind) (is_some p.input)) (agree (is_load o.0.kind) (is_some p.load)) stores.0 in
    record {
      op = o.0;
      there = o.1;
      multiplier_is = sym (load_once o.0.kind
          (agrees (is_load o.0.kind) (is_some p.load) (load_found c.load 0 g.loads i l.0 l.1 l.2) loads.1));
    }

pub readings_read : (g : Lists) (k : ℕ) → EntryLaws → IsPart g → AreReadBy g (readings g k)
readings_read g k laws part =
    both_read g (readings_from k 0 g.operations) (readings_across k (cells g))
    (from_read g k 0 g.operations (λ j op e. subst (λ m. slice_get g.operations m ≡ Some op) (let same : j ≡ 0 + j = omega arith in same) e))
    (across_read g k (cells g) (λ i c there. cell_read g i c laws part there))

pub left_read : (g : Lists) (right : ℕ) (rs : List Reading) → AreReadBy g rs → AreReadBy g (drop right rs)
left_read g zero rs are = are
left_read g (suc right) [] are = tt
left_read g (suc right) (r ∷ rs) are = left_read g right rs are.1
