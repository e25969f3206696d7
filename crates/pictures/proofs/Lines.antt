-- Lines: each pair of an operand and its reader has one line.
use Rattle.std.proofs.Common.{◌≡◌, ◌≢◌, inl, inr, ℕ, zero, suc, ◌+◌, ◌<◌, ◌≤◌, ◌==◌, ◌&&◌, Bool, true, false, cond, List, [], ◌∷◌, ◌++◌, length, Some, slice_get, refl, ap, ap₂, ◌∙◌, arith}
use Rattle.std.proofs.lemmas.Bool.{cases_order, eq-eqb, eqb-true, false≢true}
use Rattle.std.proofs.lemmas.Option.{slice_get_within}
use Rattle.std.specs.Option.{is_some}
use Rattle.op_graph.specs.declared.op.Op.{Op}
use Rattle.op_graph.specs.Lists.{Lists}
use Rattle.op_graph.specs.Reads.{named, Reads}
use Rattle.op_graph.specs.Rules.{reads_as}
use Rattle.pictures.specs.declared.layout.BoxPlace.{BoxPlace}
use Rattle.pictures.specs.Arrangement.{place_at}
use Rattle.pictures.specs.Drawn.{Wire, wire_of, wires_of, wires_at, wires_below}
use Rattle.pictures.specs.Whole.{is_line, times, DrawsReads}
use Rattle.pictures.proofs.WholeDrawing.{there_is}

times_both : (q k j : ℕ) (xs ys : List Wire) → times q k j (xs ++ ys) ≡ times q k j xs + times q k j ys
times_both q k j [] ys = omega arith
times_both q k j (x ∷ xs) ys =
    let more : times q k j (xs ++ ys) ≡ times q k j xs + times q k j ys = times_both q k j xs ys in
    omega (arith, more)

-- ---- the lines of one operation

-- one, where an operand is an operation and its line is the one that is looked for
abbrev drawn_once : Bool → Bool → ℕ
drawn_once reads same = cond reads (cond same 1 0) 0

times_if : (q k j : ℕ) (w : Wire) (t : Bool) → times q k j (cond t (w ∷ []) []) ≡ drawn_once t (is_line q k j w)
times_if q k j w true = omega arith
times_if q k j w false = refl

none_drawn : (t : Bool) → drawn_once t false ≡ 0
none_drawn true = refl
none_drawn false = refl

drawn_tells : (t s : Bool) → 0 < drawn_once t s → (t ≡ true) × (s ≡ true)
drawn_tells true true h = (refl, refl)
drawn_tells true false h = absurd (omega (arith, h))
drawn_tells false s h = absurd (omega (arith, h))

and_false : (t : Bool) → (t && false) ≡ false
and_false true = refl
and_false false = refl

both_true : (s t : Bool) → (s && t) ≡ true → (s ≡ true) × (t ≡ true)
both_true true true e = (refl, refl)
both_true true false e = absurd (false≢true e)
both_true false t e = absurd (false≢true e)

unequal : (m n : ℕ) → m ≢ n → (t : Bool) → (m == n) ≡ t → t ≡ false
unequal m n ne true e = absurd (ne (eqb-true m n e))
unequal m n ne false e = refl

module _ (places : List BoxPlace) (q k j n : ℕ) (op : Op) where
  -- what operand i adds
  abbrev adds : ℕ → ℕ
  adds i = drawn_once (is_some (reads_as op.kind op.from i)) (i == j && (n == q && named op i == k))

  times_of_wire : (i : ℕ) → times q k j (wire_of places n op i) ≡ adds i
  times_of_wire i =
      times_if q k j (record { operand = named op i; reader = n; which = i; from = place_at places (named op i); to = place_at places n })
      (is_some (reads_as op.kind op.from i))

  times_of : times q k j (wires_of places n (Some op)) ≡ adds 0 + (adds 1 + adds 2)
  times_of =
      times_both q k j (wire_of places n op 0) (wire_of places n op 1 ++ wire_of places n op 2)
      ∙ ap₂ (λ a b. a + b) (times_of_wire 0)
      (times_both q k j (wire_of places n op 1) (wire_of places n op 2) ∙ ap₂ (λ a b. a + b) (times_of_wire 1) (times_of_wire 2))

-- the lines of another operation are others
others : (places : List BoxPlace) (q k j n : ℕ) (op : Op) → n ≢ q → times q k j (wires_of places n (Some op)) ≡ 0
others places q k j n op ne =
    let none : (n == q) ≡ false = unequal n q ne (n == q) refl in
    let none_at : (i : ℕ) → adds places q k j n op i ≡ 0 = λ i.
    rw none (ap (drawn_once (is_some (reads_as op.kind op.from i))) (and_false (i == j)) ∙ none_drawn (is_some (reads_as op.kind op.from i))) in
    times_of places q k j n op ∙ ap₂ (λ a b. a + b) (none_at 0) (ap₂ (λ a b. a + b) (none_at 1) (none_at 2))

-- no operation has a fourth operand
no_fourth : (places : List BoxPlace) (q k j n : ℕ) (op : Op) → 3 ≤ j → times q k j (wires_of places n (Some op)) ≡ 0
no_fourth places q k j n op le =
    let off : (i : ℕ) → i < 3 → (i == j) ≡ false = λ i lt. unequal i j (λ e. omega (arith, e, lt, le)) (i == j) refl in
    let none_at : (i : ℕ) → i < 3 → adds places q k j n op i ≡ 0 = λ i lt. rw (off i lt) (none_drawn (is_some (reads_as op.kind op.from i))) in
    times_of places q k j n op ∙ ap₂ (λ a b. a + b) (none_at 0 (omega arith)) (ap₂ (λ a b. a + b) (none_at 1 (omega arith)) (none_at 2 (omega arith)))

-- of the operation itself, those of operand j
own_lines : (places : List BoxPlace) (q k j : ℕ) (op : Op) → j < 3
    → times q k j (wires_of places q (Some op)) ≡ drawn_once (is_some (reads_as op.kind op.from j)) (q == q && named op j == k)
own_lines places q k zero op lt =
    let second : adds places q k 0 q op 1 ≡ 0 = none_drawn (is_some (reads_as op.kind op.from 1)) in
    let third : adds places q k 0 q op 2 ≡ 0 = none_drawn (is_some (reads_as op.kind op.from 2)) in
    times_of places q k 0 q op ∙ omega (arith, second, third)
own_lines places q k (suc zero) op lt =
    let first : adds places q k 1 q op 0 ≡ 0 = none_drawn (is_some (reads_as op.kind op.from 0)) in
    let third : adds places q k 1 q op 2 ≡ 0 = none_drawn (is_some (reads_as op.kind op.from 2)) in
    times_of places q k 1 q op ∙ omega (arith, first, third)
own_lines places q k (suc (suc zero)) op lt =
    let first : adds places q k 2 q op 0 ≡ 0 = none_drawn (is_some (reads_as op.kind op.from 0)) in
    let second : adds places q k 2 q op 1 ≡ 0 = none_drawn (is_some (reads_as op.kind op.from 1)) in
    times_of places q k 2 q op ∙ omega (arith, first, second)
own_lines places q k (suc (suc (suc j))) op lt = absurd (omega (arith, lt))

-- ---- the lines of all

module _ (g : Lists) (places : List BoxPlace) (q k j : ℕ) where
  abbrev drawn : ℕ → ℕ
  drawn n = times q k j (wires_below g places n)

  other_times : (n : ℕ) → n < length g.operations → n ≢ q → times q k j (wires_at g places n) ≡ 0
  other_times n lt ne =
      let op = there_is g.operations n lt in
      ap (λ o. times q k j (wires_of places n o)) op.1 ∙ others places q k j n op.0 ne

  none_yet : (n : ℕ) → n ≤ q → n ≤ length g.operations → drawn n ≡ 0
  none_yet zero le few = refl
  none_yet (suc n) le few =
      let before : drawn n ≡ 0 = none_yet n (omega (arith, le)) (omega (arith, few)) in
      let last : times q k j (wires_at g places n) ≡ 0 = other_times n (omega (arith, few)) (λ e. omega (arith, e, le)) in
      times_both q k j (wires_below g places n) (wires_at g places n) ∙ omega (arith, before, last)

  none_at_all : (n : ℕ) → 3 ≤ j → n ≤ length g.operations → drawn n ≡ 0
  none_at_all zero le few = refl
  none_at_all (suc n) le few =
      let op = there_is g.operations n (omega (arith, few)) in
      let before : drawn n ≡ 0 = none_at_all n le (omega (arith, few)) in
      let last : times q k j (wires_at g places n) ≡ 0 = ap (λ o. times q k j (wires_of places n o)) op.1 ∙ no_fourth places q k j n op.0 le in
      times_both q k j (wires_below g places n) (wires_at g places n) ∙ omega (arith, before, last)

  all_drawn : (n : ℕ) → q < n → n ≤ length g.operations → drawn n ≡ times q k j (wires_at g places q)
  all_drawn zero lt few = absurd (omega (arith, lt))
  all_drawn (suc n) lt few =
      times_both q k j (wires_below g places n) (wires_at g places n)
      ∙ elim (cases_order n q) [
        | inl e ↦
            let before : drawn n ≡ 0 = none_yet n (omega (arith, e)) (omega (arith, few)) in
            let last : times q k j (wires_at g places n) ≡ times q k j (wires_at g places q) = ap (λ i. times q k j (wires_at g places i)) e in
            omega (arith, before, last)
        | inr (inl l) ↦ absurd (omega (arith, l, lt))
        | inr (inr l) ↦
            let before : drawn n ≡ times q k j (wires_at g places q) = all_drawn n l (omega (arith, few)) in
            let last : times q k j (wires_at g places n) ≡ 0 = other_times n (omega (arith, few)) (λ e. omega (arith, e, l)) in
            omega (arith, before, last)
      ]

  times_there : (op : Op) → slice_get g.operations q ≡ Some op → j < 3
      → drawn (length g.operations) ≡ drawn_once (is_some (reads_as op.kind op.from j)) (q == q && named op j == k)
  times_there op there lt =
      all_drawn (length g.operations) (slice_get_within g.operations q op there) (omega arith)
      ∙ (ap (λ o. times q k j (wires_of places q o)) there ∙ own_lines places q k j op lt)

  once : j < 3 → Reads g.operations q k j → drawn (length g.operations) ≡ 1
  once lt reads =
      times_there reads.op reads.there lt
      ∙ ap₂ drawn_once reads.operand (ap₂ (λ s t. s && t) (eq-eqb q q refl) (eq-eqb (named reads.op j) k reads.names))

  only_below : q < length g.operations → j < 3 → 0 < drawn (length g.operations) → Reads g.operations q k j
  only_below lt few some =
      let op = there_is g.operations q lt in
      let is = times_there op.0 op.1 few in
      let tells = drawn_tells (is_some (reads_as op.0.kind op.0.from j)) (q == q && named op.0 j == k) (rw is at some) in
      record {
        op = op.0;
        there = op.1;
        operand = tells.0;
        names = eqb-true (named op.0 j) k (both_true (q == q) (named op.0 j == k) tells.1).1;
      }

nothing_there : (g : Lists) (places : List BoxPlace) (q k j : ℕ) → length g.operations ≤ q → 0 < times q k j (wires_below g places (length g.operations)) → ⊥
nothing_there g places q k j le some = omega (arith, some, none_yet g places q k j (length g.operations) le (omega arith))

within : (g : Lists) (places : List BoxPlace) (q k j : ℕ) → 0 < times q k j (wires_below g places (length g.operations)) → j < 3
within g places q k j some = elim (cases_order j 3) [
  | inl e ↦ absurd (omega (arith, some, none_at_all g places q k j (length g.operations) (omega (arith, e)) (omega arith)))
  | inr (inl l) ↦ l
  | inr (inr l) ↦ absurd (omega (arith, some, none_at_all g places q k j (length g.operations) (omega (arith, l)) (omega arith)))
]

pub draws_reads : (g : Lists) (places : List BoxPlace) → DrawsReads g (wires_below g places (length g.operations))
draws_reads g places = record {
  once = λ q k j lt reads. once g places q k j lt reads;
  only = λ q k j some. elim (cases_order q (length g.operations)) [
    | inl e ↦ absurd (nothing_there g places q k j (omega (arith, e)) some)
    | inr (inl l) ↦ only_below g places q k j l (within g places q k j some) some
    | inr (inr l) ↦ absurd (nothing_there g places q k j (omega (arith, l)) some)
  ];
}
