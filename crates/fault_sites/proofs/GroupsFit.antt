-- GroupsFit: each fault of a group fits the graph, and stands behind the one before it.
use Rattle.std.proofs.Common.{◌≡◌, ◌≢◌, ⊎_elim, ℕ, zero, suc, ◌+◌, ◌-◌, ◌*◌, ◌<◌, ◌≤◌, ◌==◌, ◌&&◌, Bool, true, false, cond, nat_lt, List, [], ◌∷◌, ◌++◌, length, drop, slice_get, All, Option, Some, None, ℤ, pos, refl, ap, subst, ◌∙◌, arith}
use Rattle.std.specs.Option.{is_some}
use Rattle.std.proofs.lemmas.Bool.{and_parts}
use Rattle.std.proofs.lemmas.Bool.Decides.{eqb_tells, nat_tests}
use Rattle.std.proofs.lemmas.List.{length-drop}
use Rattle.std.proofs.lemmas.List.Elements.{All-nil, All-cons, All-append, All-drop, All-head, All-tail, All-weaker}
use Rattle.vcp_base.specs.Kinds.{multiplier, operands, operand_type}
use Rattle.vcp_base.specs.Limits.{most_cycles}
use Rattle.vcp_base.specs.declared.kind.Kind.{Kind}
use Rattle.vcp_base.specs.declared.kind.Kind.TheVariants as kind
use Rattle.vcp_base.specs.declared.ty.Ty.{Ty}
use Rattle.op_graph.specs.declared.op.Cell.{Cell}
use Rattle.op_graph.specs.declared.op.Loaded.{Loaded}
use Rattle.op_graph.specs.declared.op.Op.{Op}
use Rattle.op_graph.specs.Laws.{EntryLaws}
use Rattle.op_graph.specs.Lists.{Lists, cells}
use Rattle.op_graph.specs.Reads.{named}
use Rattle.op_graph.specs.Rules.{IsPart, agree, entry, found, is_input, is_load, is_out, is_store, place_of, reads_as, scope}
use Rattle.fault_script.specs.Forms.{is_addend}
use Rattle.fault_script.specs.declared.act.Act.TheVariants as act
use Rattle.fault_script.specs.Fits.{Fits}
use Rattle.fault_sites.specs.declared.reading.Reading.{Reading}
use Rattle.fault_sites.specs.declared.site.Site.{Site}
use Rattle.fault_sites.specs.Readings.{IsReadBy, reading_across, reading_as, readings_across, readings_by, readings_from, readings_within}
use Rattle.fault_sites.specs.Rests.{changed, groups, groups_at, groups_by, groups_in, groups_of, place, rises}
use Rattle.fault_sites.specs.Sites.{addend, addend_count, as_fault, each_below, site}
use Rattle.fault_sites.proofs.Below.{all_below, all_one, all_if}
use Rattle.fault_sites.proofs.Cells.{load_at, load_inside}
use Rattle.fault_sites.proofs.RunFit.{there_is}
use Rattle.fault_sites.proofs.SitesFit.{is_one}

-- ---- what reads

some_if : (b : Bool) (t : Ty) → is_some (cond b (Some t) None) ≡ true → b ≡ true
some_if true t h = refl
some_if false t h = absurd cc

reads_there : (k : Kind) (from : Ty) (j : ℕ) → is_some (reads_as k from j) ≡ true → nat_lt j (operands k) ≡ true
reads_there kind.Load from j h = absurd cc
reads_there k from j h = some_if (nat_lt j (operands k)) (operand_type k j from) h

as_read : (g : Lists) (k q : ℕ) (op : Op) (j : ℕ) → slice_get g.operations q ≡ Some op → All (IsReadBy g 0) (reading_as k q op j)
as_read g k q op j there =
    all_if (IsReadBy g 0) (is_some (reads_as op.kind op.from j) && (k == named op j))
    (record { op = q; operand = j; borders = 0; multiplier = multiplier op.kind j } ∷ [])
    (λ reads. all_one (IsReadBy g 0) (record { op = q; operand = j; borders = 0; multiplier = multiplier op.kind j }) (record {
      op = op;
      there = there;
      operand = reads_there op.kind op.from j (and_parts (is_some (reads_as op.kind op.from j)) (k == named op j) reads).0;
      multiplier_is = refl;
      borders = omega arith;
    }))

by_read : (g : Lists) (k q : ℕ) (op : Op) → slice_get g.operations q ≡ Some op → All (IsReadBy g 0) (readings_by k q op)
by_read g k q op there =
    All-append (IsReadBy g 0) (reading_as k q op 0) (reading_as k q op 1 ++ reading_as k q op 2) (as_read g k q op 0 there)
    (All-append (IsReadBy g 0) (reading_as k q op 1) (reading_as k q op 2) (as_read g k q op 1 there) (as_read g k q op 2 there))

from_read : (g : Lists) (k q : ℕ) (ops : List Op) → ((j : ℕ) (op : Op) → slice_get ops j ≡ Some op → slice_get g.operations (q + j) ≡ Some op)
    → All (IsReadBy g 0) (readings_from k q ops)
from_read g k q [] there = All-nil (IsReadBy g 0)
from_read g k q (op ∷ ops) there =
    All-append (IsReadBy g 0) (readings_by k q op) (readings_from k (suc q) ops)
    (by_read g k q op (subst (λ m. slice_get g.operations m ≡ Some op) (let none : q + 0 ≡ q = omega arith in none) (there 0 op refl)))
    (from_read g k (suc q) ops
    (λ j o e. subst (λ m. slice_get g.operations m ≡ Some o) (let more : q + suc j ≡ suc q + j = omega arith in more) (there (suc j) o e)))

across_read : (g : Lists) (k : ℕ) (held : List Cell) → ((i : ℕ) (c : Cell) → slice_get held i ≡ Some c
    → IsReadBy g 1 (record { op = c.load; operand = 0; borders = 1; multiplier = pos 1 })) → All (IsReadBy g 1) (readings_across k held)
across_read g k [] each = All-nil (IsReadBy g 1)
across_read g k (c ∷ held) each =
    All-append (IsReadBy g 1) (reading_across k c) (readings_across k held)
    (all_if (IsReadBy g 1) (k == c.store) (record { op = c.load; operand = 0; borders = 1; multiplier = pos 1 } ∷ [])
    (λ is. all_one (IsReadBy g 1) (record { op = c.load; operand = 0; borders = 1; multiplier = pos 1 }) (each 0 c refl)))
    (across_read g k held (λ i d there. each (suc i) d there))

-- the LOAD of a cell is one
found_later : (q : ℕ) (m l : Loaded) (loads : List Loaded) (i : ℕ) (b : Bool) → slice_get (m ∷ loads) i ≡ Some l → l.load ≡ q → (m.load ≡ q → ⊥)
    → ((j : ℕ) → slice_get loads j ≡ Some l → b ≡ true) → b ≡ true
found_later q m l loads zero b there is other more =
    let same : m ≡ l = cc in
    absurd (other (ap (λ (x : Loaded). x.load) same ∙ is))
found_later q m l loads (suc i) b there is other more = more i there

load_found : (q k : ℕ) (loads : List Loaded) (i : ℕ) (l : Loaded) → slice_get loads i ≡ Some l → l.load ≡ q
    → is_some (found (λ (m : Loaded). m.load == q) (λ m. m.ty) k loads) ≡ true
load_found q k [] i l there is = absurd cc
load_found q k (m ∷ loads) i l there is =
    let rest = found (λ (o : Loaded). o.load == q) (λ o. o.ty) (k + 1) loads in
    ⊎_elim
    (λ (h : ((m.load == q) ≡ true) × (m.load ≡ q)). ap (λ b. is_some (cond b (Some (entry k m.ty)) rest)) h.0)
    (λ (h : ((m.load == q) ≡ false) × (m.load ≢ q)).
    ap (λ b. is_some (cond b (Some (entry k m.ty)) rest)) h.0
    ∙ found_later q m l loads i (is_some rest) there is h.1 (λ j that. load_found q (k + 1) loads j l that is))
    (eqb_tells m.load q)

agrees : (a b : Bool) → b ≡ true → agree a b ≡ true → a ≡ true
agrees true b e h = refl
agrees false true e h = absurd cc
agrees false false e h = absurd cc

-- what a LOAD has
pub record IsOnce (k : Kind) : Type 0 where
  pub operand : nat_lt 0 (operands k) ≡ true
  pub multiplier_is : pos 1 ≡ multiplier k 0

load_once : (k : Kind) → is_load k ≡ true → IsOnce k
load_once kind.Load is = record { operand = refl; multiplier_is = refl }
load_once _ is = absurd cc

cell_read : (g : Lists) (i : ℕ) (c : Cell) → EntryLaws → IsPart g → slice_get (cells g) i ≡ Some c
    → IsReadBy g 1 (record { op = c.load; operand = 0; borders = 1; multiplier = pos 1 })
cell_read g i c laws part there =
    let o = there_is g.operations c.load (load_inside g i c laws part there) in
    let l = load_at g.loads g.stores i c there in
    let p = place_of (scope g) c.load in
    let fits = (laws.operation g c.load o.0 part o.1).kind in
    let outs = and_parts (agree (is_input o.0.kind) (is_some p.input) && agree (is_load o.0.kind) (is_some p.load)
    && agree (is_store o.0.kind) (is_some p.store)) (agree (is_out o.0.kind) (is_some p.out)) fits in
    let stores = and_parts (agree (is_input o.0.kind) (is_some p.input) && agree (is_load o.0.kind) (is_some p.load))
    (agree (is_store o.0.kind) (is_some p.store)) outs.0 in
    let loads = and_parts (agree (is_input o.0.kind) (is_some p.input)) (agree (is_load o.0.kind) (is_some p.load)) stores.0 in
    let once = load_once o.0.kind (agrees (is_load o.0.kind) (is_some p.load) (load_found c.load 0 g.loads i l.0 l.1 l.2) loads.1) in
    record { op = o.0; there = o.1; operand = once.operand; multiplier_is = once.multiplier_is; borders = omega arith }

next_read : (g : Lists) (k : ℕ) (more : Bool) → EntryLaws → IsPart g → All (IsReadBy g (cond more 1 0)) (cond more (readings_across k (cells g)) [])
next_read g k true laws part = across_read g k (cells g) (λ i c there. cell_read g i c laws part there)
next_read g k false laws part = All-nil (IsReadBy g 0)

later_too : (g : Lists) (more : Bool) (rs : List Reading) → All (IsReadBy g 0) rs → All (IsReadBy g (cond more 1 0)) rs
later_too g more [] are = All-nil (IsReadBy g (cond more 1 0))
later_too g more (r ∷ rs) are =
    let first : IsReadBy g 0 r = All-head (IsReadBy g 0) r rs are in
    let low = first.borders in
    All-cons (IsReadBy g (cond more 1 0)) r rs
    (record { op = first.op; there = first.there; operand = first.operand; multiplier_is = first.multiplier_is; borders = omega (arith, low) })
    (later_too g more rs (All-tail (IsReadBy g 0) r rs are))

pub readings_read : (g : Lists) (k : ℕ) (more : Bool) → EntryLaws → IsPart g → All (IsReadBy g (cond more 1 0)) (readings_within g more k)
readings_read g k more laws part =
    All-append (IsReadBy g (cond more 1 0)) (readings_from k 0 g.operations) (cond more (readings_across k (cells g)) [])
    (later_too g more (readings_from k 0 g.operations)
    (from_read g k 0 g.operations (λ j op e. subst (λ m. slice_get g.operations m ≡ Some op) (let same : j ≡ 0 + j = omega arith in same) e)))
    (next_read g k more laws part)

-- ---- groups

abbrev pub AllFit : Lists → List Site → Type 0
AllFit g xs = All (λ s. Fits g (as_fault 0 s)) xs

-- a number that is greater in a later cycle, and in a cycle at a later operation
abbrev pub stand : ℕ → ℕ → ℕ
stand cycle op = cycle * 4294967296 + op

-- each of these stands behind the one before it, from a place on
abbrev pub Ascends : ℕ → List Site → Type 0
Ascends p [] = Unit {0}
Ascends p (s ∷ xs) = (p ≤ stand s.cycle s.op) × Ascends (stand s.cycle s.op + 1) xs

-- a group that a script may have
pub record IsGroup (g : Lists) (xs : List Site) : Type 0 where
  pub some : 2 ≤ length xs
  pub fit : AllFit g xs
  pub ascends : Ascends 0 xs

pub changed_many : (n : ℕ) (e : ℤ) (rs : List Reading) → length (changed n e rs) ≡ length rs
changed_many n e [] = refl
changed_many n e (r ∷ rs) = ap suc (changed_many n e rs)

changed_fit : (g : Lists) (n high : ℕ) (e : ℤ) (rs : List Reading) → n + high < most_cycles → is_addend e ≡ true → All (IsReadBy g high) rs
    → AllFit g (changed n e rs)
changed_fit g n high e [] early small are = All-nil (λ s. Fits g (as_fault 0 s))
changed_fit g n high e (r ∷ rs) early small are =
    let first : IsReadBy g high r = All-head (IsReadBy g high) r rs are in
    All-cons (λ s. Fits g (as_fault 0 s)) (site (n + r.borders) r.op (act.OperandAdd r.operand e)) (changed n e rs) (record {
      cycle = let low = first.borders in omega (arith, low, early);
      op = first.op;
      there = first.there;
      act = record { sited = first.operand; timely = refl; alike = refl; moderate = small };
    }) (changed_fit g n high e rs early small (All-tail (IsReadBy g high) r rs are))

rise_on : (n p : ℕ) (e : ℤ) (r : Reading) (rs : List Reading) → p ≤ stand (n + r.borders) r.op → rises (r ∷ rs) ≡ true → Ascends p (changed n e (r ∷ rs))
rise_on n p e r [] le up = (le, tt)
rise_on n p e r (s ∷ rs) le up =
    let (less, more) = and_parts (nat_lt (place r) (place s)) (rises (s ∷ rs)) up in
    let lt : place r < place s = grind (arith, nat_tests) in
    (le, rise_on n (stand (n + r.borders) r.op + 1) e s rs (omega (arith, lt)) more)

changed_rise : (n : ℕ) (e : ℤ) (rs : List Reading) → rises rs ≡ true → Ascends 0 (changed n e rs)
changed_rise n e [] up = tt
changed_rise n e (r ∷ rs) up = rise_on n 0 e r rs (omega arith) up

of_fit : (g : Lists) (n high : ℕ) (rs : List Reading) → n + high < most_cycles → 2 ≤ length rs → All (IsReadBy g high) rs → All (IsGroup g) (groups_of n rs)
of_fit g n high rs early some are =
    all_if (IsGroup g) (rises rs) (each_below (λ v. changed n (addend v) rs ∷ []) addend_count)
    (λ up. all_below (IsGroup g) (λ v. changed n (addend v) rs ∷ []) addend_count
    (λ v l. all_one (IsGroup g) (changed n (addend v) rs) (record {
      some = omega (arith, some, changed_many n (addend v) rs);
      fit = changed_fit g n high (addend v) rs early (is_one v l) are;
      ascends = changed_rise n (addend v) rs up;
    })))

by_fit : (g : Lists) (n high : ℕ) (rs : List Reading) → n + high < most_cycles → All (IsReadBy g high) rs → All (IsGroup g) (groups_by n rs)
by_fit g n high rs early are =
    all_below (IsGroup g) (λ i. groups_of n (drop (i + 1) rs)) (length rs - 2)
    (λ i l. of_fit g n high (drop (i + 1) rs) early (omega (arith, l, length-drop (i + 1) rs)) (All-drop (IsReadBy g high) (i + 1) rs are))

at_fit : (g : Lists) (more : Bool) (n k : ℕ) (o : Option Op) → EntryLaws → IsPart g → n + cond more 1 0 < most_cycles → All (IsGroup g) (groups_at g more n k o)
at_fit g more n k None laws part early = All-nil (IsGroup g)
at_fit g more n k (Some op) laws part early = either (is_out op.kind)
  where
    either : (b : Bool) → All (IsGroup g) (cond b [] (groups_by n (readings_within g more k)))
    either true = All-nil (IsGroup g)
    either false = by_fit g n (cond more 1 0) (readings_within g more k) early (readings_read g k more laws part)

in_fit : (g : Lists) (more : Bool) (n : ℕ) → EntryLaws → IsPart g → n + cond more 1 0 < most_cycles → All (IsGroup g) (groups_in g more n)
in_fit g more n laws part early =
    all_below (IsGroup g) (λ k. groups_at g more n k (slice_get g.operations k)) (length g.operations)
    (λ k l. at_fit g more n k (slice_get g.operations k) laws part early)

within_run : (n cycles : ℕ) (b : Bool) → nat_lt (n + 1) cycles ≡ b → n < cycles → cycles ≤ most_cycles → n + cond b 1 0 < most_cycles
within_run n cycles true is l few = let lt : n + 1 < cycles = grind (arith, nat_tests) in omega (arith, lt, few)
within_run n cycles false is l few = omega (arith, l, few)

pub groups_fit : (g : Lists) (cycles : ℕ) → EntryLaws → IsPart g → cycles ≤ most_cycles → All (IsGroup g) (groups g cycles)
groups_fit g cycles laws part few =
    all_below (IsGroup g) (λ n. groups_in g (nat_lt (n + 1) cycles) n) cycles
    (λ n l. in_fit g (nat_lt (n + 1) cycles) n laws part (within_run n cycles (nat_lt (n + 1) cycles) refl l few))

pub groups_some : (g : Lists) (cycles : ℕ) → EntryLaws → IsPart g → cycles ≤ most_cycles → All (λ xs. 0 < length xs) (groups g cycles)
groups_some g cycles laws part few =
    All-weaker (IsGroup g) (λ xs. 0 < length xs) (λ xs is. let some = is.some in omega (arith, some)) (groups g cycles) (groups_fit g cycles laws part few)
