-- Rising: from which reading on each stands behind the one before it.
use Rattle.std.proofs.Common.{◌≡◌, ◌≢◌, inl, inr, ℕ, zero, suc, ◌+◌, ◌-◌, ◌*◌, ◌<◌, ◌≤◌, Bool, true, false, ◌&&◌, ◌==◌, nat_lt, nat_le, cond, List, [], ◌∷◌, ◌++◌, pos, length, drop, slice_get, Some, refl, sym, ap, ◌∙◌, arith, length-append}
use Rattle.std.specs.Option.{is_some}
use Rattle.std.proofs.lemmas.Bool.{cases_lt}
use Rattle.std.proofs.lemmas.Bool.Decides.{nat_tests}
use Rattle.std.proofs.lemmas.List.{length-drop}
use Rattle.vcp_base.specs.Kinds.{multiplier}
use Rattle.op_graph.specs.declared.op.Cell.{Cell}
use Rattle.op_graph.specs.declared.op.Op.{Op}
use Rattle.op_graph.specs.Lists.{Lists, cells}
use Rattle.op_graph.specs.Reads.{named}
use Rattle.op_graph.specs.Rules.{IsPart, reads_as}
use Rattle.fault_sites.specs.declared.reading.Reading.{Reading}
use Rattle.fault_sites.specs.Rests.{changed, groups, groups_by, groups_in, groups_of, place, rises}
use Rattle.fault_sites.specs.Readings.{reading_across, reading_as, readings_across, readings_by, readings_from, readings_within}
use Rattle.fault_sites.specs.Sites.{addend, addend_count, each_below}
use Rattle.fault_sites.proofs.Cells.{few_cells}
use Rattle.fault_sites.proofs.Counting.{each_many}
use Rattle.fault_sites.proofs.Lists.{drop_there, drop_behind}

-- of two readings one behind the other
pub rises_at : (rs : List Reading) (i : ℕ) (r s : Reading) → slice_get rs i ≡ Some r → slice_get rs (i + 1) ≡ Some s
    → rises (drop i rs) ≡ (nat_lt (place r) (place s) && rises (drop (i + 1) rs))
rises_at rs i r s here next =
    let behind : drop (i + 1) rs ≡ s ∷ drop (i + 1 + 1) rs = drop_there rs (i + 1) s next in
    ap rises (drop_there rs i r here) ∙ (ap (λ (d : List Reading). rises (r ∷ d)) behind
    ∙ ap (λ (d : List Reading). nat_lt (place r) (place s) && rises d) (sym behind))

-- so far: which tails rise, if the last of these does
abbrev pub RisesSo : List Reading → ℕ → ℕ → Type 0
RisesSo rs first i = (j : ℕ) → j ≤ i → rises (drop j rs) ≡ (nat_le first j && rises (drop i rs))

pub so_none : (rs : List Reading) → RisesSo rs 0 0
so_none rs j le = let none : j ≡ 0 = omega (arith, le) in rw none refl

and_true : (a b : Bool) → a ≡ true → (a && b) ≡ b
and_true a b h = rw h refl

and_false : (a b : Bool) → b ≡ false → (a && b) ≡ false
and_false true b h = h
and_false false b h = refl

pub so_stays : (rs : List Reading) (first i : ℕ) → RisesSo rs first i → first ≤ i → rises (drop i rs) ≡ rises (drop (i + 1) rs) → RisesSo rs first (i + 1)
so_stays rs first i so low same = λ j le. elim (cases_lt j (i + 1)) [
  | inl before ↦ so j (omega (arith, before)) ∙ ap (λ (b : Bool). nat_le first j && b) same
  | inr past ↦ let here : j ≡ i + 1 = omega (arith, le, past) in
      let all : nat_le first (i + 1) ≡ true = grind (arith, nat_tests) in
      rw here (sym (and_true (nat_le first (i + 1)) (rises (drop (i + 1) rs)) all))
]

pub so_breaks : (rs : List Reading) (first i : ℕ) → RisesSo rs first i → rises (drop i rs) ≡ false → RisesSo rs (i + 1) (i + 1)
so_breaks rs first i so breaks = λ j le. elim (cases_lt j (i + 1)) [
  | inl before ↦ let none : nat_le (i + 1) j ≡ false = grind (arith, nat_tests) in
      so j (omega (arith, before)) ∙ (and_false (nat_le first j) (rises (drop i rs)) breaks ∙ ap (λ (b : Bool). b && rises (drop (i + 1) rs)) (sym none))
  | inr past ↦ let here : j ≡ i + 1 = omega (arith, le, past) in
      let all : nat_le (i + 1) (i + 1) ≡ true = grind (arith, nat_tests) in
      rw here (sym (and_true (nat_le (i + 1) (i + 1)) (rises (drop (i + 1) rs)) all))
]

short_rises : (rs : List Reading) → length rs ≤ 1 → rises rs ≡ true
short_rises [] few = refl
short_rises (r ∷ []) few = refl
short_rises (r ∷ s ∷ more) few = absurd (omega (arith, few))

with_true : (a b : Bool) → b ≡ true → (a && b) ≡ a
with_true true b h = h
with_true false b h = refl

-- where the last one is reached
pub so_all : (rs : List Reading) (first i : ℕ) → RisesSo rs first i → first ≤ i → length rs ≤ i + 1 → (j : ℕ) → rises (drop j rs) ≡ nat_le first j
so_all rs first i so low last j = elim (cases_lt j (i + 1)) [
  | inl before ↦ so j (omega (arith, before))
      ∙ with_true (nat_le first j) (rises (drop i rs)) (short_rises (drop i rs) (omega (arith, length-drop i rs, last)))
  | inr past ↦ let all : nat_le first j ≡ true = grind (arith, nat_tests) in ap rises (drop_behind rs j (omega (arith, last, past))) ∙ sym all
]

-- ---- how many

one_word : (n : ℕ) (rs : List Reading) → length (each_below (λ v. changed n (addend v) rs ∷ []) addend_count) ≡ 124
one_word n rs = each_many (λ v. changed n (addend v) rs ∷ []) addend_count 1 (λ v. refl) ∙ omega arith

many_of : (n : ℕ) (rs : List Reading) (b : Bool) → rises rs ≡ b → length (groups_of n rs) ≡ cond b 124 0
many_of n rs true e = rw e (one_word n rs)
many_of n rs false e = rw e refl

below_many : (n : ℕ) (rs : List Reading) (first m : ℕ) → ((i : ℕ) → rises (drop i rs) ≡ nat_le first i)
    → length (each_below (λ i. groups_of n (drop (i + 1) rs)) m) ≡ 124 * (m - (first - 1))
below_many n rs first zero is = omega arith
below_many n rs first (suc m) is =
    let before = below_many n rs first m is in
    let both = length-append (each_below (λ i. groups_of n (drop (i + 1) rs)) m) (groups_of n (drop (m + 1) rs)) in
    elim (cases_lt (m + 1) first) [
      | inl less ↦ let no : nat_le first (m + 1) ≡ false = grind (arith, nat_tests) in
          omega (arith, before, both, many_of n (drop (m + 1) rs) false (is (m + 1) ∙ no), less)
      | inr past ↦ let yes : nat_le first (m + 1) ≡ true = grind (arith, nat_tests) in
          omega (arith, before, both, many_of n (drop (m + 1) rs) true (is (m + 1) ∙ yes), past)
    ]

pub by_many : (n : ℕ) (rs : List Reading) (first : ℕ) → ((i : ℕ) → rises (drop i rs) ≡ nat_le first i)
    → length (groups_by n rs) ≡ 124 * (length rs - 2 - (first - 1))
by_many n rs first is = below_many n rs first (length rs - 2) is

-- ---- one step of the loop

-- the reading at i doesn't stand behind the one before it
pub so_breaks_at : (rs : List Reading) (first i : ℕ) (r s : Reading) → 1 ≤ i → RisesSo rs first (i - 1) → slice_get rs (i - 1) ≡ Some r
    → slice_get rs i ≡ Some s → place s ≤ place r → (RisesSo rs i (i + 1 - 1)) × (i ≤ i + 1 - 1)
so_breaks_at rs first zero r s least so before here over = absurd (omega (arith, least))
so_breaks_at rs first (suc i) r s least so before here over =
    let same : suc i - 1 ≡ i = omega arith in
    let next : suc i ≡ i + 1 = omega arith in
    let past : suc i + 1 - 1 ≡ i + 1 = omega arith in
    let le : suc i ≤ suc i + 1 - 1 = omega arith in
    let broken : nat_lt (place r) (place s) ≡ false = grind (arith, nat_tests) in
    let no_more : rises (drop i rs) ≡ false =
    rises_at rs i r s (rw same at before) (rw next at here) ∙ ap (λ (b : Bool). b && rises (drop (i + 1) rs)) broken in
    (rw (past, next) (so_breaks rs first i (rw same at so) no_more), le)

-- it does
pub so_stays_at : (rs : List Reading) (first i : ℕ) (r s : Reading) → 1 ≤ i → RisesSo rs first (i - 1) → first ≤ i - 1 → slice_get rs (i - 1) ≡ Some r
    → slice_get rs i ≡ Some s → place r < place s → (RisesSo rs first (i + 1 - 1)) × (first ≤ i + 1 - 1)
so_stays_at rs first zero r s least so low before here over = absurd (omega (arith, least))
so_stays_at rs first (suc i) r s least so low before here over =
    let same : suc i - 1 ≡ i = omega arith in
    let next : suc i ≡ i + 1 = omega arith in
    let past : suc i + 1 - 1 ≡ i + 1 = omega arith in
    let le : first ≤ suc i + 1 - 1 = omega (arith, low) in
    let held : nat_lt (place r) (place s) ≡ true = grind (arith, nat_tests) in
    let goes : rises (drop i rs) ≡ rises (drop (i + 1) rs) =
    rises_at rs i r s (rw same at before) (rw next at here) ∙ ap (λ (b : Bool). b && rises (drop (i + 1) rs)) held in
    (rw past (so_stays rs first i (rw same at so) (omega (arith, low)) goes), le)

-- ---- how many readings, and how many groups in all cycles

as_few : (k q : ℕ) (op : Op) (j : ℕ) → length (reading_as k q op j) ≤ 1
as_few k q op j = either (is_some (reads_as op.kind op.from j) && (k == named op j))
  where
    either : (b : Bool) → length {A = Reading} (cond b (record { op = q; operand = j; borders = 0; multiplier = multiplier op.kind j } ∷ []) []) ≤ 1
    either true = omega arith
    either false = omega arith

from_few : (k q : ℕ) (ops : List Op) → length (readings_from k q ops) ≤ 3 * length ops
from_few k q [] = omega arith
from_few k q (op ∷ ops) =
    omega (
      arith,
      from_few k (suc q) ops,
      as_few k q op 0,
      as_few k q op 1,
      as_few k q op 2,
      length-append (reading_as k q op 1) (reading_as k q op 2),
      length-append (reading_as k q op 0) (reading_as k q op 1 ++ reading_as k q op 2),
      length-append (readings_by k q op) (readings_from k (suc q) ops),
    )

across_few : (k : ℕ) (held : List Cell) → length (readings_across k held) ≤ length held
across_few k [] = omega arith
across_few k (c ∷ held) =
    omega (arith, across_few k held, either (k == c.store), length-append (reading_across k c) (readings_across k held))
  where
    either : (b : Bool) → length {A = Reading} (cond b (record { op = c.load; operand = 0; borders = 1; multiplier = pos 1 } ∷ []) []) ≤ 1
    either true = omega arith
    either false = omega arith

next_few : (k : ℕ) (more : Bool) (held : List Cell) → length (cond more (readings_across k held) []) ≤ length held
next_few k true held = across_few k held
next_few k false held = omega arith

pub few_readings : (g : Lists) (more : Bool) (k : ℕ) → IsPart g → length (readings_within g more k) ≤ 262144
few_readings g more k part =
    let operations = part.few_operations in
    omega (
      arith,
      from_few k 0 g.operations,
      next_few k more (cells g),
      operations,
      few_cells g part,
      length-append (readings_from k 0 g.operations) (cond more (readings_across k (cells g)) []),
    )

going_many : (g : Lists) (cycles m going : ℕ) → m < cycles → ((n : ℕ) → going ≡ length (groups_in g true n))
    → length (each_below (λ n. groups_in g (nat_lt (n + 1) cycles) n) m) ≡ going * m
going_many g cycles zero going l each = omega arith
going_many g cycles (suc m) going l each =
    let up : nat_lt (m + 1) cycles ≡ true = grind (arith, nat_tests) in
    let here : length (groups_in g (nat_lt (m + 1) cycles) m) ≡ going = ap (λ (b : Bool). length (groups_in g b m)) up ∙ sym (each m) in
    let front = going_many g cycles m going (omega (arith, l)) each in
    omega (arith, here, front, length-append (each_below (λ n. groups_in g (nat_lt (n + 1) cycles) n) m) (groups_in g (nat_lt (m + 1) cycles) m))

pub groups_many : (g : Lists) (cycles going last : ℕ) → ((n : ℕ) → going ≡ length (groups_in g true n)) → ((n : ℕ) → last ≡ length (groups_in g false n))
    → cycles ≢ 0 → going * (cycles - 1) + last ≡ length (groups g cycles)
groups_many g zero going last each end some = absurd (some refl)
groups_many g (suc c) going last each end some =
    let over : nat_lt (c + 1) (suc c) ≡ false = grind (arith, nat_tests) in
    let here : length (groups_in g (nat_lt (c + 1) (suc c)) c) ≡ last = ap (λ (b : Bool). length (groups_in g b c)) over ∙ sym (end c) in
    let front = going_many g (suc c) c going (omega arith) each in
    let less : going * (suc c - 1) ≡ going * c = ap (λ (m : ℕ). going * m) (let same : suc c - 1 ≡ c = omega arith in same) in
    omega (arith, here, front, less, length-append (each_below (λ n. groups_in g (nat_lt (n + 1) (suc c)) n) c) (groups_in g (nat_lt (c + 1) (suc c)) c))
